-- Intervals whose numbers are joined to ascending members.
use Rattle.std.proofs.Common.{◌≡◌, ℕ, ◌+◌, ◌^◌, ◌<◌, ◌≤◌, Bool, List, [], ◌∷◌, ◌++◌, length, Option, Some, None, refl, sym, ap, subst, ◌∙◌, arith}
use Rattle.std.specs.List.{range_with_len}
use Rattle.wg_params.specs.declared.code.Code.TheVariants.{Gamma}
use Rattle.wg_graph.specs.Ascending.{Ascends}
use Rattle.wg_intervals.specs.Stored.{IsInterval, numbers_inside}
use Rattle.wg_intervals.proofs.Order.{range_ascends}
use Rattle.wg_codes.specs.Standing.{IsWord}
use Rattle.wg_graph.specs.Unions.{union_of}
use Rattle.wg_codes.specs.Fold.{number_of_gap}
use Rattle.wg_decoder.specs.Proper.Joining.{AreJoinable, Joining, Covered}
use Rattle.wg_decoder.specs.Proper.Laid.{IntervalsTo}
use Rattle.wg_decoder.proofs.ProperLemmas.Taking.{Takes}
use Rattle.wg_decoder.proofs.ProperLemmas.JoinLemmas.{Added, run_joined}
use Rattle.wg_grammar.specs.SoFar.{value_or_0}

past_left : (past v l : ℕ) → Some (past + 1 + v) ≡ Some l → past ≤ l
past_left past v l is = let e : past + 1 + v ≡ l = ap value_or_0 is in omega (arith, e)

later_ascend : (page least past : ℕ) (ls ns : List ℕ) (z behind : List Bool) → IntervalsTo page least (Some past) ls ns z behind → Ascends past (numbers_inside ls ns)
later_ascend page least past [] ns z behind stand = tt
later_ascend page least past (l ∷ ls) [] z behind stand = absurd stand
later_ascend page least past (l ∷ ls) (n ∷ ns) z behind stand =
    range_ascends past l n (numbers_inside ls ns) (past_left past stand.1.v l stand.1.left_is) (later_ascend page least (l + n) ls ns stand.0 behind stand.2)

pub covered_none : (page least count : ℕ) (row members lefts lengths : List ℕ) (behind z : List Bool) → length lefts ≡ count → IntervalsTo page least None lefts lengths z behind → AreJoinable members (numbers_inside lefts lengths)
    → Covered page least count (row ++ union_of members (numbers_inside lefts lengths)) behind 0 None row members z
covered_none page least count row members lefts lengths behind z len stand h = record {
  lefts = lefts;
  lengths = lengths;
  count_todo = omega (arith, len);
  stand = stand;
  on = record { joinable = h; list = refl };
}

same_means : (page : ℕ) (past : Option ℕ) (l v w : ℕ) → v ≡ w → (least n : ℕ) (z mid : List Bool) (i : IsInterval page least past l n z mid) → i.v ≡ v → number_of_gap page past w ≡ Some l
same_means page None l v w is least n z mid i same = ap (number_of_gap page None) (sym (same ∙ is)) ∙ i.left_is
same_means page (Some p) l v w is least n z mid i same = ap (number_of_gap page (Some p)) (sym (same ∙ is)) ∙ i.left_is

-- the next interval, if the words of its two values were read
pub record Interval (page least count : ℕ) (all : List ℕ) (behind : List Bool) (index : ℕ) (past : Option ℕ) (row members : List ℕ) (z : List Bool) : Type 0 where
  pub left : ℕ
  pub len : ℕ
  pub mid : List Bool
  pub interval : IsInterval page least past left len z mid
  pub lefts : List ℕ
  pub lengths : List ℕ
  pub count_todo : length lefts + (index + 1) ≡ count
  pub stand : IntervalsTo page least (Some (left + len)) lefts lengths mid behind
  pub on : Joining all row members (range_with_len left len ++ numbers_inside lefts lengths)

interval_at : (page least count : ℕ) (all : List ℕ) (behind : List Bool) (index : ℕ) (past : Option ℕ) (row members : List ℕ) (z : List Bool) (lefts lengths : List ℕ) → index < count → length lefts + index ≡ count → IntervalsTo page least past lefts lengths z behind → Joining all row members (numbers_inside lefts lengths)
    → Interval page least count all behind index past row members z
interval_at page least count all behind index past row members z [] lengths lt more stand on = absurd (omega (arith, lt, more))
interval_at page least count all behind index past row members z (l ∷ ls) [] lt more stand on = absurd stand
interval_at page least count all behind index past row members z (l ∷ ls) (n ∷ ns) lt more stand on = record {
  left = l;
  len = n;
  mid = stand.0;
  interval = stand.1;
  lefts = ls;
  lengths = ns;
  count_todo = omega (arith, more);
  stand = stand.2;
  on = on;
}

pub next_interval : (page least count : ℕ) (all : List ℕ) (behind : List Bool) (index : ℕ) (past : Option ℕ) (row members : List ℕ) (z : List Bool) → index < count → Covered page least count all behind index past row members z → Interval page least count all behind index past row members z
next_interval page least count all behind index past row members z lt h = interval_at page least count all behind index past row members z h.lefts h.lengths lt h.count_todo h.stand h.on

pub first_word : (page least count : ℕ) (all : List ℕ) (behind : List Bool) (index : ℕ) (past : Option ℕ) (row members : List ℕ) (z : List Bool) → Interval page least count all behind index past row members z → (v : ℕ) × (y : List Bool) × IsWord Gamma v z y
first_word page least count all behind index past row members z h = (h.interval.v, h.interval.between, h.interval.left_word)

-- what its first value means
pub first_means : (page least count : ℕ) (all : List ℕ) (behind : List Bool) (index : ℕ) (past : Option ℕ) (row members : List ℕ) (z mid : List Bool) (v : ℕ) → Takes Gamma z mid v → (h : Interval page least count all behind index past row members z) → number_of_gap page past v ≡ Some h.left
first_means page least count all behind index past row members z mid v takes h =
    let e = takes h.interval.v h.interval.between h.interval.left_word in
    same_means page past h.left h.interval.v v e.0 least h.len z h.mid h.interval refl

pub left_low : (page least count : ℕ) (all : List ℕ) (behind : List Bool) (index : ℕ) (past : Option ℕ) (row members : List ℕ) (z mid : List Bool) (v : ℕ) → Takes Gamma z mid v → Interval page least count all behind index past row members z → (y : ℕ) × (y ≤ 2 ^ 62) × (number_of_gap page past v ≡ Some y)
left_low page least count all behind index past row members z mid v takes h =
    (h.left, h.interval.left_low, first_means page least count all behind index past row members z mid v takes h)

pub second_word : (page least count : ℕ) (all : List ℕ) (behind : List Bool) (index : ℕ) (past : Option ℕ) (row members : List ℕ) (z mid : List Bool) (v : ℕ) → Takes Gamma z mid v → Interval page least count all behind index past row members z → (w : ℕ) × (y : List Bool) × IsWord Gamma w mid y
second_word page least count all behind index past row members z mid v takes h =
    let e = takes h.interval.v h.interval.between h.interval.left_word in
    (h.interval.w, h.mid, subst (λ (y : List Bool). IsWord Gamma h.interval.w y h.mid) e.1 h.interval.length_word)

-- the interval as it was read
pub record Taken (page least count : ℕ) (all : List ℕ) (behind : List Bool) (index : ℕ) (row members : List ℕ) (new : List Bool) (first run : ℕ) : Type 0 where
  pub lefts : List ℕ
  pub lengths : List ℕ
  pub count_todo : length lefts + (index + 1) ≡ count
  pub low : first + run ≤ 2 ^ 62 + 1
  pub stand : IntervalsTo page least (Some (first + run)) lefts lengths new behind
  pub on : Joining all row members (range_with_len first run ++ numbers_inside lefts lengths)
  pub up : Ascends first (range_with_len first run ++ numbers_inside lefts lengths)

pub interval_taken : (page least count : ℕ) (all : List ℕ) (behind : List Bool) (index : ℕ) (past : Option ℕ) (row members : List ℕ) (z mid new : List Bool) (v w first : ℕ) → Takes Gamma z mid v → Takes Gamma mid new w → number_of_gap page past v ≡ Some first → Interval page least count all behind index past row members z
    → Taken page least count all behind index row members new first (w + least)
interval_taken page least count all behind index past row members z mid new v w first takes then means h =
    let e = takes h.interval.v h.interval.between h.interval.left_word in
    let second : IsWord Gamma h.interval.w mid h.mid = subst (λ (y : List Bool). IsWord Gamma h.interval.w y h.mid) e.1 h.interval.length_word in
    let f = then h.interval.w h.mid second in
    let is_left : h.left ≡ first = ap value_or_0 (sym (first_means page least count all behind index past row members z mid v takes h) ∙ means) in
    let is_len : h.len ≡ w + least = h.interval.length_is ∙ ap (λ (k : ℕ). k + least) f.0 in
    let place : h.left + h.len ≡ first + (w + least) = omega (arith, is_left, is_len) in
    let numbers : range_with_len h.left h.len ++ numbers_inside h.lefts h.lengths ≡ range_with_len first (w + least) ++ numbers_inside h.lefts h.lengths =
    ap (λ (k : ℕ). range_with_len k h.len ++ numbers_inside h.lefts h.lengths) is_left ∙ ap (λ (k : ℕ). range_with_len first k ++ numbers_inside h.lefts h.lengths) is_len in
    let stand : IntervalsTo page least (Some (first + (w + least))) h.lefts h.lengths new behind =
    subst (λ (y : List Bool). IntervalsTo page least (Some (first + (w + least))) h.lefts h.lengths y behind) f.1 (subst (λ (k : ℕ). IntervalsTo page least (Some k) h.lefts h.lengths h.mid behind) place h.stand) in
    record {
      lefts = h.lefts;
      lengths = h.lengths;
      count_todo = h.count_todo;
      low = omega (arith, h.interval.low, place);
      stand = stand;
      on = subst (λ (l : List ℕ). Joining all row members l) numbers h.on;
      up = range_ascends first first (w + least) (numbers_inside h.lefts h.lengths) (omega arith) (later_ascend page least (first + (w + least)) h.lefts h.lengths new behind stand);
    }

-- if the members below it and its numbers were added
pub covered_more : (page least count : ℕ) (all : List ℕ) (behind : List Bool) (index : ℕ) (row members mid left more : List ℕ) (new : List Bool) (first run : ℕ) → ((others : List ℕ) → Ascends first others → Joining all row members others → Added all mid left others first) → more ≡ mid ++ range_with_len first run
    → Taken page least count all behind index row members new first run → Covered page least count all behind (index + 1) (Some (first + run)) more left new
covered_more page least count all behind index row members mid left more new first run moves more_is h =
    let moved = moves (range_with_len first run ++ numbers_inside h.lefts h.lengths) h.up h.on in
    let g = run_joined run all mid left (numbers_inside h.lefts h.lengths) first moved.up moved.on in
    record {
      lefts = h.lefts;
      lengths = h.lengths;
      count_todo = h.count_todo;
      stand = h.stand;
      on = subst (λ (l : List ℕ). Joining all l left (numbers_inside h.lefts h.lengths)) (sym more_is) g.on;
    }

none_inside : (page least count index : ℕ) (past : Option ℕ) (z behind : List Bool) (lefts lengths : List ℕ) → index ≡ count → length lefts + index ≡ count → IntervalsTo page least past lefts lengths z behind → (numbers_inside lefts lengths ≡ []) × (behind ≡ z)
none_inside page least count index past z behind [] [] all more stand = (refl, stand)
none_inside page least count index past z behind [] (n ∷ ns) all more stand = absurd stand
none_inside page least count index past z behind (l ∷ ls) lengths all more stand = absurd (omega (arith, all, more))

-- none is left
pub all_covered : (page least count : ℕ) (all : List ℕ) (behind : List Bool) (index : ℕ) (past : Option ℕ) (row members : List ℕ) (z : List Bool) → index ≡ count → (h : Covered page least count all behind index past row members z) → (numbers_inside h.lefts h.lengths ≡ []) × (behind ≡ z)
all_covered page least count all behind index past row members z same h = none_inside page least count index past z behind h.lefts h.lengths same h.count_todo h.stand
