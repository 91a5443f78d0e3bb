-- What is written of the successors that are not copied is read as these successors.
use Rattle.std.proofs.Common.{◌≡◌, ℕ, zero, suc, ◌+◌, ◌-◌, ◌*◌, ◌<◌, ◌≤◌, ltb, leb, eqb, Bool, true, false, ◌&&◌, ◌||◌, List}
use Rattle.std.proofs.Common.{[], ◌∷◌, ◌++◌, length, length-append, map, sum, Option, Some, None, refl, sym, ap, subst, ◌∙◌, inl, inr, arith, append_assoc}
use Rattle.std.specs.Prelude.{filter}
use Rattle.std.specs.List.{flat_map, range_with_len}
use Rattle.std.proofs.Math.Nat.{suc-mul}
use Rattle.std.proofs.lemmas.Bool.{cases_Bool, cases_lt, cond-true, cond-false, lt-ltb, le-ltb, leb-true, le-leb, lt-leb, ne_eqb, and_parts, and_from, or_right, true≢false}
use Rattle.std.proofs.lemmas.List.{length_push, append-nil, length-map}
use Rattle.std.proofs.lemmas.List.FromFn.{length-range_with_len}
use Rattle.wg_params.specs.Parameters.{Parameters, IsWithinLimits}
use Rattle.wg_params.specs.declared.code.Code.TheVariants.{Gamma}
use Rattle.wg_graph.specs.Numbers.{is_in}
use Rattle.wg_graph.specs.Ascending.{Ascends, Below}
use Rattle.wg_graph.proofs.Sets.{in_head, in_past}
use Rattle.wg_graph.proofs.Copies.{sum_push, sum_cons}
use Rattle.wg_intervals.specs.declared.run.Run.{Run}
use Rattle.wg_intervals.specs.Canonical.{runs_of, is_long, numbers_of, intervals_of, residuals_of}
use Rattle.wg_intervals.specs.Laws.{inside}
use Rattle.wg_intervals.proofs.Maximal.{Cut, cut_of, in_run, past_run, no_runs}
use Rattle.wg_intervals.proofs.Divided.{are_together, are_once, parts_ascend}
use Rattle.wg_grammar.specs.declared.fault.Field.TheVariants as field
use Rattle.wg_grammar.specs.declared.need.Need.TheVariants as need
use Rattle.wg_grammar.specs.Context.{Context}
use Rattle.wg_grammar.specs.SoFar.{SoFar, value_or_0, last_of, extra}
use Rattle.wg_grammar.specs.Next.{next}
use Rattle.wg_grammar.specs.Members.{is_covered}
use Rattle.wg_grammar.specs.Record.{Fields}
use Rattle.wg_greedy.specs.Fields.{Written, written, bits_of_fields, all_have_words, stored_gap, count_fields, interval_fields, residual_fields, has_some, extra_fields}
use Rattle.wg_greedy.proofs.NoReference.{Low, cut_low}
use Rattle.wg_greedy.proofs.ProperFields.{Admits, admits_append, admitted_stand, values_of}
use Rattle.wg_greedy.proofs.ProperStages.{IsPastCopies}
use Rattle.wg_greedy.proofs.ProperReading.{with_extras, IsCounted, next_end, admits_count, admits_left, admits_length}
use Rattle.wg_greedy.proofs.ProperReading.{admits_residual, last_push, least_after, IsPastLast, IsLast, left_is, residual_is}

-- ---- the runs that are long enough

-- each is long enough, ends at m or before, and leaves out a number after the one before; the first begins at n or
-- later
abbrev Apart : ℕ → ℕ → ℕ → List Run → Type 0
Apart m least n [] = Unit {0}
Apart m least n (r ∷ rs) = (n ≤ r.left) × (0 < r.length) × (least ≤ r.length) × (r.left + r.length ≤ m) × Apart m least (suc (r.left + r.length)) rs

apart_less : (m least n k : ℕ) (rs : List Run) → k ≤ n → Apart m least n rs → Apart m least k rs
apart_less m least n k [] le apart = tt
apart_less m least n k (r ∷ rs) le apart = (omega (arith, le, apart.0), apart.1, apart.2, apart.3, apart.4)

long_apart : (m least n : ℕ) (rs : List Run) (xs : List ℕ) → Cut n rs xs → Low m rs → Apart m least n (filter (is_long least) rs)
long_apart m least n [] xs cut low = tt
long_apart m least n (r ∷ rs) xs cut low =
    let rest : Apart m least (r.left + r.length + 1) (filter (is_long least) rs) = long_apart m least (r.left + r.length + 1) rs cut.2 cut.4 low.2 in
    elim (cases_Bool (is_long least r)) [
      | inl h ↦ rw h (cut.0, cut.1, leb-true least r.length (and_parts _ _ h).1, low.1, apart_less m least (r.left + r.length + 1) (suc (r.left + r.length)) _ (omega arith) rest)
      | inr h ↦ rw h (apart_less m least (r.left + r.length + 1) n _ (omega (arith, cut.0)) rest)
    ]

none_long : (least : ℕ) (rs : List Run) → ltb 0 least ≡ false → filter (is_long least) rs ≡ []
none_long least [] none = refl
none_long least (r ∷ rs) none = cond-false (is_long least r) (r ∷ filter (is_long least) rs) (filter (is_long least) rs) (ap (λ b. b && leb least r.length) none) ∙ none_long least rs none

abbrev lefts_of : List Run → List ℕ
lefts_of rs = map (λ r. r.left) rs

abbrev lengths_of : List Run → List ℕ
lengths_of rs = map (λ r. r.length) rs

sum_long : (m least n : ℕ) (rs : List Run) → Apart m least n rs → length rs * least ≤ sum (lengths_of rs)
sum_long m least n [] apart = omega arith
sum_long m least n (r ∷ rs) apart =
    let rest : length rs * least ≤ sum (lengths_of rs) = sum_long m least (suc (r.left + r.length)) rs apart.4 in
    omega (arith, rest, (suc-mul (length rs) least), apart.2, sum_cons r.length (lengths_of rs))

sum_inside : (rs : List Run) → sum (lengths_of rs) ≡ length (flat_map numbers_of rs)
sum_inside [] = refl
sum_inside (r ∷ rs) = omega (arith, sum_cons r.length (lengths_of rs), length-append (numbers_of r) (flat_map numbers_of rs), length-range_with_len r.left r.length, sum_inside rs)

-- ---- the interval count

still_there : (p : Parameters) (c : Context) (s : SoFar) → IsPastCopies p c s → s ≡ with_extras s None [] [] []
still_there p c s past = λ i. record s { interval_count = past.no_count i; lefts = past.no_lefts i; lengths = past.no_lengths i; residuals = past.no_residuals i }

-- what is counted, if so many intervals come
abbrev Counts : Parameters → Context → SoFar → List ℕ → ℕ → Type 0
Counts p c s xs count = (n : Option ℕ) × (value_or_0 n ≡ count) × IsCounted p c s n × Admits p c s (count_fields (has_some xs) p.interval count) (with_extras s n [] [] [])

some_length : (xs : List ℕ) → has_some xs ≡ ltb 0 (length xs)
some_length xs = grind arith

module _ (p : Parameters) (c : Context) (s : SoFar) where
  count_read : (xs : List ℕ) → IsPastCopies p c s → extra c s ≡ length xs → length (intervals_of p.interval xs) * p.interval ≤ extra c s → Counts p c s xs (length (intervals_of p.interval xs))
  count_read xs past all few =
      let count : ℕ = length (intervals_of p.interval xs) in
      let same : has_some xs ≡ ltb 0 (extra c s) = some_length xs ∙ ap (ltb 0) (sym all) in
      let more : List Written = written field.IntervalCount Gamma count ∷ [] in
      elim (cases_Bool (has_some xs && ltb 0 p.interval)) [
        | inl h ↦
            let asked : (ltb 0 (extra c s) && ltb 0 p.interval && true) ≡ true = and_from _ _ (ap (λ b. b && ltb 0 p.interval) (sym same) ∙ h) refl in
            let one : Admits p c (with_extras s None [] [] []) more (with_extras s (Some count) [] [] []) =
            admits_count p c s (with_extras s (Some count) [] [] []) None [] [] [] count [] past asked few refl in (
              Some count,
              refl,
              counted_once (ltb 0 (extra c s) && ltb 0 p.interval),
              subst (λ fs. Admits p c s fs (with_extras s (Some count) [] [] []))
                  (sym (cond-true _ more [] h)) (subst (λ (z : SoFar). Admits p c z more (with_extras s (Some count) [] [] [])) (sym (still_there p c s past)) one),
            )
        | inr h ↦
            let none : 0 ≡ count = sym (ap length (no_intervals p.interval xs h)) in
            let passed : IsCounted p c s None = ap (λ b. b && true) (ap (λ b. b && ltb 0 p.interval) (sym same) ∙ h) in
            (None, none, passed, subst (λ fs. Admits p c s fs (with_extras s None [] [] [])) (sym (cond-false _ more [] h)) (sym (still_there p c s past)))
      ]
    where
      counted_once : (b : Bool) → (b && false) ≡ false
      counted_once true = refl
      counted_once false = refl

      no_intervals : (least : ℕ) (xs : List ℕ) → (has_some xs && ltb 0 least) ≡ false → intervals_of least xs ≡ []
      no_intervals least [] h = ap (filter (is_long least)) no_runs
      no_intervals least (x ∷ xs) h = none_long least (runs_of (x ∷ xs)) h

  -- ---- the intervals

  -- the intervals rs are still to come
  intervals_read : (n : Option ℕ) (ls ks : List ℕ) (past : Option ℕ) (rs : List Run) → IsPastCopies p c s → IsCounted p c s n → length ks ≡ length ls
      → length ls + length rs ≡ value_or_0 n → IsPastLast past ls ks → Apart p.nodes p.interval (least_after past) rs → sum ks + sum (lengths_of rs) ≤ extra c s
      → Admits p c (with_extras s n ls ks []) (interval_fields c.page p.interval past rs) (with_extras s n (ls ++ lefts_of rs) (ks ++ lengths_of rs) [])
  intervals_read n ls ks past [] after counted even all last apart room = λ i. with_extras s n (append-nil ls i) (append-nil ks i) []
  intervals_read n ls ks past (r ∷ rs) after counted even all last apart room =
      let l : ℕ = r.left in
      let k : ℕ = r.length in
      let ls' : List ℕ = ls ++ l ∷ [] in
      let ks' : List ℕ = ks ++ k ∷ [] in
      let one_left : length ls' ≡ length ls + 1 = length_push ls l in
      let one_length : length ks' ≡ length ks + 1 = length_push ks k in
      let total : sum (lengths_of (r ∷ rs)) ≡ k + sum (lengths_of rs) = sum_cons k (lengths_of rs) in
      let ends : last_of ls' + last_of ks' ≡ l + k = omega (arith, last_push ls l, last_push ks k) in
      let rest : Admits p c (with_extras s n ls' ks' []) (interval_fields c.page p.interval (Some (l + k)) rs) (with_extras s n (ls' ++ lefts_of rs) (ks' ++ lengths_of rs) []) =
      intervals_read n ls' ks' (Some (l + k)) rs after counted (omega (arith, even, one_left, one_length)) (omega (arith, all, one_left)) (omega (arith, one_left), ends)
      apart.4 (omega (arith, sum_push ks k, total, room)) in
      let same : with_extras s n (ls' ++ lefts_of rs) (ks' ++ lengths_of rs) [] ≡ with_extras s n (ls ++ lefts_of (r ∷ rs)) (ks ++ lengths_of (r ∷ rs)) [] =
      λ i. with_extras s n (append_assoc ls (l ∷ []) (lefts_of rs) i) (append_assoc ks (k ∷ []) (lengths_of rs) i) [] in
      let t : SoFar = with_extras s n (ls ++ lefts_of (r ∷ rs)) (ks ++ lengths_of (r ∷ rs)) [] in
      let long : Admits p c (with_extras s n ls' ks []) (written field.Length Gamma (k - p.interval) ∷ interval_fields c.page p.interval (Some (l + k)) rs) t =
      admits_length p c s t n ls' ks [] k l (interval_fields c.page p.interval (Some (l + k)) rs) after counted (omega (arith, even, one_left)) (last_push ls l) apart.2
      (omega (arith, total, room)) apart.3
      (subst (λ (z : SoFar). Admits p c (with_extras s n ls' ks' []) (interval_fields c.page p.interval (Some (l + k)) rs) z) same rest) in
      admits_left p c s t n ls ks [] (stored_gap c.page past l) l (written field.Length Gamma (k - p.interval) ∷ interval_fields c.page p.interval (Some (l + k)) rs)
      after counted even (omega (arith, all)) (left_is c s n ls ks [] past l last apart.0) (omega (arith, apart.1, apart.3)) long

  -- ---- the residuals

  -- the residuals zs are still to come
  residuals_read : (n : Option ℕ) (ls ks ys : List ℕ) (last : Option ℕ) (zs : List ℕ) → IsPastCopies p c s → IsCounted p c s n → length ks ≡ length ls
      → value_or_0 n ≤ length ls → IsLast last ys → Ascends (least_after last) zs → Below p.nodes zs → sum ks + length ys + length zs ≤ extra c s
      → Admits p c (with_extras s n ls ks ys) (residual_fields p.residuals c.page last zs) (with_extras s n ls ks (ys ++ zs))
  residuals_read n ls ks ys last [] past counted even all is up low room = λ i. with_extras s n ls ks (append-nil ys i)
  residuals_read n ls ks ys last (z ∷ zs) past counted even all is up low room =
      let ys' : List ℕ = ys ++ z ∷ [] in
      let one : length ys' ≡ length ys + 1 = length_push ys z in
      let rest : Admits p c (with_extras s n ls ks ys') (residual_fields p.residuals c.page (Some z) zs) (with_extras s n ls ks (ys' ++ zs)) =
      residuals_read n ls ks ys' (Some z) zs past counted even all (omega (arith, one), last_push ys z) up.1 low.1 (omega (arith, one, room)) in
      let t : SoFar = with_extras s n ls ks (ys ++ z ∷ zs) in
      admits_residual p c s t n ls ks ys (stored_gap c.page last z) z (residual_fields p.residuals c.page (Some z) zs) past counted even all (omega (arith, room))
      (residual_is c s n ls ks ys last z is up.0) low.0
      (subst (λ xs. Admits p c (with_extras s n ls ks ys') (residual_fields p.residuals c.page (Some z) zs) (with_extras s n ls ks xs)) (append_assoc ys (z ∷ []) zs) rest)

-- ---- members

before_run : (l n y : ℕ) (zs : List ℕ) → y < l → is_in y (range_with_len l n ++ zs) ≡ is_in y zs
before_run l zero y zs lt = refl
before_run l (suc n) y zs lt = rw (ne_eqb y l (λ e. omega (arith, e, lt))) (before_run (l + 1) n y zs (omega (arith, lt)))

covered_is : (rs : List Run) (y : ℕ) → is_covered (lefts_of rs) (lengths_of rs) y ≡ is_in y (flat_map numbers_of rs)
covered_is [] y = refl
covered_is (r ∷ rs) y =
    let rest : is_covered (lefts_of rs) (lengths_of rs) y ≡ is_in y (flat_map numbers_of rs) = covered_is rs y in
    elim (cases_lt y r.left) [
      | inl before ↦ rw (lt-leb r.left y before) (rest ∙ sym (before_run r.left r.length y (flat_map numbers_of rs) before))
      | inr low ↦ elim (cases_lt y (r.left + r.length)) [
        | inl high ↦ rw (le-leb r.left y low, lt-ltb y (r.left + r.length) high) (sym (in_run r.left r.length y (flat_map numbers_of rs) low high))
        | inr after ↦ rw (le-leb r.left y low, le-ltb y (r.left + r.length) after) (rest ∙ sym (past_run r.left r.length y (flat_map numbers_of rs) after))
      ]
    ]

members_below : (m : ℕ) (xs zs : List ℕ) → Below m xs → ((y : ℕ) → is_in y zs ≡ true → is_in y xs ≡ true) → Below m zs
members_below m xs [] low members = tt
members_below m xs (z ∷ zs) low members =
    let here : is_in z xs ≡ true = members z (in_head z zs) in
    let below : z < m = elim (cases_lt z m) [ inl h ↦ h | inr h ↦ absurd (true≢false (sym here ∙ in_past m z xs low h)) ] in
    (below, members_below m xs zs low (λ y there. members y (or_right (eqb y z) (is_in y zs) there)))

-- ---- the whole

-- what has been read once the successors that are not copied are read
pub record ExtrasRead (p : Parameters) (c : Context) (s t : SoFar) (xs : List ℕ) : Type 0 where
  pub ends : next p c t ≡ need.End
  pub outdegree : t.outdegree ≡ s.outdegree
  pub reference : t.reference ≡ s.reference
  pub blocks : t.blocks ≡ s.blocks
  pub members : (y : ℕ) → (is_covered t.lefts t.lengths y || is_in y t.residuals) ≡ is_in y xs

pub extras_admitted : (p : Parameters) (c : Context) (s : SoFar) (xs : List ℕ) → IsPastCopies p c s → Ascends 0 xs → Below p.nodes xs → extra c s ≡ length xs
    → (t : SoFar) × Admits p c s (extra_fields p c.page xs) t × ExtrasRead p c s t xs
extras_admitted p c s xs past up low all =
    let runs : List Run = intervals_of p.interval xs in
    let ys : List ℕ = residuals_of p.interval xs in
    let cut : Cut 0 (runs_of xs) xs = cut_of 0 xs up in
    let apart : Apart p.nodes p.interval 0 runs = long_apart p.nodes p.interval 0 (runs_of xs) xs cut (cut_low p.nodes 0 (runs_of xs) xs cut low) in
    let together : (y : ℕ) → (is_in y (inside p.interval xs) || is_in y ys) ≡ is_in y xs = are_together p.interval xs up in
    let low_residuals : Below p.nodes ys = members_below p.nodes xs ys low (λ y there. sym (together y) ∙ or_right (is_in y (inside p.interval xs)) (is_in y ys) there) in
    let size : sum (lengths_of runs) + length ys ≡ extra c s = omega (arith, sum_inside runs, are_once p.interval xs up, all) in
    let counts = count_read p c s xs past all (omega (arith, sum_long p.nodes p.interval 0 runs apart, size)) in
    let n : Option ℕ = counts.0 in
    let ls : List ℕ = lefts_of runs in
    let ks : List ℕ = lengths_of runs in
    let even : length ks ≡ length ls = length-map runs (λ r. r.length) ∙ sym (length-map runs (λ r. r.left)) in
    let count : value_or_0 n ≡ length ls = counts.1 ∙ sym (length-map runs (λ r. r.left)) in
    let middle : Admits p c (with_extras s n [] [] []) (interval_fields c.page p.interval None runs) (with_extras s n ls ks []) =
    intervals_read p c s n [] [] None runs past counts.2 refl (omega (arith, counts.1)) refl apart (omega (arith, size)) in
    let last : Admits p c (with_extras s n ls ks []) (residual_fields p.residuals c.page None ys) (with_extras s n ls ks ys) =
    residuals_read p c s n ls ks [] None ys past counts.2 even (omega (arith, count)) refl (parts_ascend p.interval xs up).1 low_residuals (omega (arith, size)) in
    let t : SoFar = with_extras s n ls ks ys in
    let front =
    admits_append p c s (with_extras s n [] [] []) (with_extras s n ls ks []) (count_fields (has_some xs) p.interval (length runs)) (interval_fields c.page p.interval None runs) counts.3 middle in (
      t,
      admits_append p c s (with_extras s n ls ks []) t (count_fields (has_some xs) p.interval (length runs) ++ interval_fields c.page p.interval None runs)
          (residual_fields p.residuals c.page None ys) front last,
      record {
        ends = next_end p c s n ls ks ys past counts.2 even (omega (arith, count)) (omega (arith, size));
        outdegree = refl;
        reference = refl;
        blocks = refl;
        members = λ y. ap (λ b. b || is_in y ys) (covered_is runs y) ∙ together y;
      },
    )

pub extras_stand : (p : Parameters) (c : Context) (s : SoFar) (xs : List ℕ) (before rest : List Bool) → IsWithinLimits p → c.page < p.nodes → IsPastCopies p c s
    → Ascends 0 xs → Below p.nodes xs → extra c s ≡ length xs → all_have_words (extra_fields p c.page xs) ≡ true
    → (t : SoFar) × (vs : List ℕ) × Fields p c (before ++ (bits_of_fields (extra_fields p c.page xs) ++ rest)) s (length before) vs t
    (length before + length (bits_of_fields (extra_fields p c.page xs))) × ExtrasRead p c s t xs
extras_stand p c s xs before rest within here past up low all have =
    let read = extras_admitted p c s xs past up low all in
    (read.0, values_of (extra_fields p c.page xs), admitted_stand p c s read.0 (extra_fields p c.page xs) before rest have read.1, read.2)
