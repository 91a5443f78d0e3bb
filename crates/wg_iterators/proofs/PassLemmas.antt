-- Blocks and intervals that are passed.
use Rattle.std.proofs.Common.{◌≡◌, ℕ, suc, ◌+◌, ◌-◌, ◌%◌, ◌^◌, ◌<◌, ◌≤◌, Bool, false, cond, eqb, List, [], ◌∷◌, ◌++◌, length, replicate, drop, Option, Some, refl, sym, ap, ◌∙◌, arith}
use Rattle.std.specs.Prelude.{sum}
use Rattle.std.proofs.lemmas.Bool.{eq-eqb, ne_eqb}
use Rattle.std.proofs.lemmas.List.{length_push, length-append, length-drop, length-replicate, append_assoc, append-nil}
use Rattle.wg_params.specs.declared.code.Code.{Code}
use Rattle.wg_params.specs.declared.code.Code.TheVariants.{Gamma}
use Rattle.wg_graph.specs.Copied.{copied_members, is_copied}
use Rattle.wg_graph.proofs.Copies.{length-at_positions, sum_cons, sum_push, copied_before, copied_count, copied_front}
use Rattle.wg_blocks.specs.Stored.{blocks_of, blocks_after}
use Rattle.wg_intervals.specs.Stored.{IsInterval}
use Rattle.wg_codes.specs.Standing.{IsWord}
use Rattle.wg_decoder.specs.Proper.Laid.{WordsTo, IntervalsTo}
use Rattle.wg_iterators.specs.Passing.{Passing, Covering}
use Rattle.wg_decoder.proofs.ProperLemmas.Taking.{Takes, word_at, all_copied, parts_on, fits_on, no_blocks}

-- one is left, or none
left_some : (todo : List ℕ) {index count : ℕ} → length todo + index ≡ count → index < count → (v : ℕ) × (vs : List ℕ) × (todo ≡ v ∷ vs)
left_some [] count lt = absurd (omega (arith, count, lt))
left_some (v ∷ vs) count lt = (v, vs, refl)

left_none : (todo : List ℕ) {index count : ℕ} → length todo + index ≡ count → count ≤ index → todo ≡ []
left_none [] count ge = refl
left_none (v ∷ vs) count ge = absurd (omega (arith, count, ge))

-- ---- blocks

pub passing_none : {code : Code} {count source : ℕ} {values : List ℕ} {behind z : List Bool} → length values ≡ count
    → WordsTo code values z behind → Passing code count source values behind 0 source source z
passing_none {code} {count} {source} {values} len stand = record {
  done = [];
  todo = values;
  count_done = refl;
  count_todo = omega (arith, len);
  parts = refl;
  stands = stand;
  left_is = omega arith;
  copied_is = λ list is. sym (ap length (all_copied list) ∙ is);
}

-- there is room for the block, and for what it turns
pub record Room (index left copied b : ℕ) : Type 0 where
  pub fits : b ≤ left
  pub less : index % 2 ≡ 0 → left - b ≤ copied
  pub more : index % 2 ≡ 1 → copied + (left - b) < 2 ^ 64

counted : (done list : List ℕ) (b : ℕ) → sum done + b ≤ length list → length done % 2 ≡ 0
    → length list - (sum done + b) ≤ length (copied_members done list)
counted done list b fits even =
    let split = rw (eq-eqb _ _ even) at (copied_before done list b fits) in
    omega (arith, ap length split, length-append (copied_front done b list) (drop (sum done + b) list), length-drop (sum done + b) list)

count_limit : (done list : List ℕ) → length (copied_members done list) ≤ length list
unfolding copied_members
count_limit done list = length-at_positions (is_copied done) 0 list

odd_more : (done list : List ℕ) (b : ℕ) → sum done + b ≤ length list → length done % 2 ≡ 1
    → length (copied_members done list) + (length list - (sum done + b)) ≤ length list
odd_more done list b fits odd =
    let e : eqb (length done % 2) 0 ≡ false = ne_eqb _ _ (λ h. omega (arith, odd, h)) in
    omega (arith, rw e at (copied_count done list b fits), count_limit (done ++ b ∷ []) list)

module _ {code : Code} {count source : ℕ} {values : List ℕ} {behind : List Bool} {index left copied : ℕ} {old : List Bool} (h : Passing code count source values behind index left copied old) where
  pub next_word : index < count → (v : ℕ) × (y : List Bool) × IsWord code v old y
  next_word lt = word_at code count behind index old h.todo lt h.count_todo h.stands

  -- the next block, once its word was taken
  pub record BlockTaken (new : List Bool) (b : ℕ) : Type 0 where
    pub todo : List ℕ
    pub count_todo : length todo + (index + 1) ≡ count
    pub parts : blocks_of values ≡ h.done ++ (b ∷ blocks_after (suc index) todo)
    pub stands : WordsTo code todo new behind
    pub fits : sum h.done + b ≤ source

  pub block_taken : {new : List Bool} {stored b : ℕ} → index < count → sum (blocks_of values) ≤ source → Takes code old new stored
      → b ≡ cond (eqb index 0) stored (stored + 1) → BlockTaken new b
  block_taken {new} {stored} {b} lt total takes is =
      let (v, vs, todo) = left_some h.todo h.count_todo lt in
      let stand : WordsTo code (v ∷ vs) old behind = rw todo at h.stands in
      let e = takes v stand.0 stand.1 in
      let parts = parts_on values h.done vs index v stored b (rw todo at h.parts) e.0 is in
      record {
        todo = vs;
        count_todo = omega (arith, rw todo at h.count_todo);
        parts = parts;
        stands = rw e.1 at stand.2;
        fits = fits_on values h.done (blocks_after (suc index) vs) source b parts total;
      }

  pub room : {new : List Bool} {b : ℕ} → source < 2 ^ 64 → BlockTaken new b → Room index left copied b
  room {new} {b} small t =
      let list : List ℕ = replicate source 0 in
      let long : length list ≡ source = length-replicate source 0 in
      let fits : sum h.done + b ≤ length list = omega (arith, long, t.fits) in
      record {
        fits = omega (arith, h.left_is, t.fits);
        less = λ even. omega (arith, long, h.left_is, h.copied_is list long, counted h.done list b fits (rw h.count_done even));
        more = λ odd. omega (arith, long, h.left_is, small, h.copied_is list long, odd_more h.done list b fits (rw h.count_done odd));
      }

  pub passed : {new : List Bool} {b now : ℕ} → BlockTaken new b → now ≡ cond (eqb (index % 2) 0) (copied - (left - b)) (copied + (left - b))
      → Passing code count source values behind (index + 1) (left - b) now new
  passed {new} {b} {now} t now_is = let next : suc index ≡ index + 1 = omega arith in record {
    done = h.done ++ b ∷ [];
    todo = t.todo;
    count_done = length_push h.done b ∙ ap (λ k. k + 1) h.count_done;
    count_todo = t.count_todo;
    parts = t.parts ∙ sym (append_assoc h.done (b ∷ []) _) ∙ ap (λ k. (h.done ++ b ∷ []) ++ blocks_after k t.todo) next;
    stands = t.stands;
    left_is = omega (arith, h.left_is, t.fits, sum_push h.done b);
    copied_is = λ list long.
        let same : length list - (sum h.done + b) ≡ left - b = omega (arith, h.left_is, long, t.fits) in
        now_is ∙ sym (rw (h.count_done, same, ← h.copied_is list long) at (copied_count h.done list b (omega (arith, long, t.fits))));
  }

  pub all_passed : count ≤ index → (behind ≡ old) × ((list : List ℕ) → length list ≡ source → copied ≡ length (copied_members (blocks_of values) list))
  all_passed ge =
      let none = left_none h.todo h.count_todo ge in
      let all : blocks_of values ≡ h.done = rw (none, no_blocks index) at h.parts ∙ append-nil h.done in
      (rw none at h.stands, λ list long. rw all (h.copied_is list long))

-- ---- intervals

pub covering_none : {page least count : ℕ} (past : Option ℕ) (lefts lengths : List ℕ) {behind z : List Bool} → length lefts ≡ count
    → IntervalsTo page least past lefts lengths z behind → Covering page least count lengths behind 0 0 z
covering_none past lefts lengths len stand =
    record { past = past; lefts = lefts; todo = lengths; count_todo = omega (arith, len); covered_is = omega arith; stand = stand }

-- the next interval
pub record NextInterval (page least count : ℕ) (lengths : List ℕ) (behind : List Bool) (index covered : ℕ) (z : List Bool) : Type 0 where
  pub past : Option ℕ
  pub left : ℕ
  pub len : ℕ
  pub mid : List Bool
  pub interval : IsInterval page least past left len z mid
  pub lefts : List ℕ
  pub todo : List ℕ
  pub count_todo : length lefts + (index + 1) ≡ count
  pub covered_is : covered + len + sum todo ≡ sum lengths
  pub stand : IntervalsTo page least (Some (left + len)) lefts todo mid behind

next_at : (page least count : ℕ) (lengths : List ℕ) (behind : List Bool) (index covered : ℕ) (z : List Bool) (past : Option ℕ) (lefts todo : List ℕ)
    → index < count → length lefts + index ≡ count → covered + sum todo ≡ sum lengths → IntervalsTo page least past lefts todo z behind
    → NextInterval page least count lengths behind index covered z
next_at page least count lengths behind index covered z past [] todo lt more is stand = absurd (omega (arith, lt, more))
next_at page least count lengths behind index covered z past (l ∷ ls) [] lt more is stand = absurd stand
next_at page least count lengths behind index covered z past (l ∷ ls) (n ∷ ns) lt more is stand = record {
  past = past;
  left = l;
  len = n;
  mid = stand.0;
  interval = stand.1;
  lefts = ls;
  todo = ns;
  count_todo = omega (arith, more);
  covered_is = omega (arith, is, sum_cons n ns);
  stand = stand.2;
}

covered_at : (page least count : ℕ) (lengths : List ℕ) (behind : List Bool) (index covered : ℕ) (z : List Bool) (past : Option ℕ) (lefts todo : List ℕ)
    → count ≤ index → length lefts + index ≡ count → covered + sum todo ≡ sum lengths → IntervalsTo page least past lefts todo z behind
    → (covered ≡ sum lengths) × (behind ≡ z)
covered_at page least count lengths behind index covered z past [] [] ge more is stand = (omega (arith, is), stand)
covered_at page least count lengths behind index covered z past [] (n ∷ ns) ge more is stand = absurd stand
covered_at page least count lengths behind index covered z past (l ∷ ls) todo ge more is stand = absurd (omega (arith, ge, more))

module _ {page least count : ℕ} {lengths : List ℕ} {behind : List Bool} {index covered : ℕ} {old : List Bool} where
  pub next_interval : Covering page least count lengths behind index covered old → index < count → NextInterval page least count lengths behind index covered old
  next_interval h lt = next_at page least count lengths behind index covered old h.past h.lefts h.todo lt h.count_todo h.covered_is h.stand

  pub all_covered : Covering page least count lengths behind index covered old → count ≤ index → (covered ≡ sum lengths) × (behind ≡ old)
  all_covered h ge = covered_at page least count lengths behind index covered old h.past h.lefts h.todo ge h.count_todo h.covered_is h.stand

  pub second_word : {mid : List Bool} {v : ℕ} (h : NextInterval page least count lengths behind index covered old) → Takes Gamma old mid v
      → (w : ℕ) × (y : List Bool) × IsWord Gamma w mid y
  second_word h takes = (h.interval.w, h.mid, rw (takes _ _ h.interval.left_word).1 at h.interval.length_word)

  -- where its two words end, and what they mean
  pub interval_taken : {mid new : List Bool} {v w : ℕ} (h : NextInterval page least count lengths behind index covered old) → Takes Gamma old mid v
      → Takes Gamma mid new w → (w + least ≡ h.len) × (h.mid ≡ new)
  unfolding second_word
  interval_taken h takes then =
      let f = then h.interval.w h.mid (second_word h takes).2 in
      (sym (h.interval.length_is ∙ ap (λ k. k + least) f.0), f.1)

  pub covered_more : {mid new : List Bool} {v w : ℕ} → NextInterval page least count lengths behind index covered old → Takes Gamma old mid v
      → Takes Gamma mid new w → Covering page least count lengths behind (index + 1) (covered + (w + least)) new
  covered_more h takes then =
      let e = interval_taken h takes then in
      record {
        past = Some (h.left + h.len);
        lefts = h.lefts;
        todo = h.todo;
        count_todo = h.count_todo;
        covered_is = omega (arith, e.0, h.covered_is);
        stand = rw e.1 at h.stand;
      }
