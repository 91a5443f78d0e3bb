-- The numbers of intervals and residuals are below what those of the list are below.
use Rattle.std.proofs.Common.{OnOk, Result, Ok, Err, ◌≡◌, ℕ, zero, suc, ◌+◌, ◌*◌, ◌/◌, ◌^◌, ◌<◌, ◌≤◌, Bool, not, eqb, List, [], ◌∷◌, ◌++◌, length, refl, sym, ap, subst, ◌∙◌, inl, inr, arith, append_assoc}
use Rattle.std.specs.Prelude.{None, filter}
use Rattle.std.specs.List.{range_with_len}
use Rattle.std.proofs.lemmas.Bool.{cases_Bool, ne_eqb}
use Rattle.wg_graph.specs.Ascending.{Ascends, Below}
use Rattle.wg_params.specs.Parameters.{Parameters}
use Rattle.wg_intervals.specs.declared.run.Run.{Run}
use Rattle.wg_intervals.specs.Canonical.{runs_of, is_long, numbers_of, intervals_of, residuals_of, ends_and_lengths}
use Rattle.wg_intervals.proofs.Maximal.{Cut, cut_of}
use Rattle.wg_intervals.proofs.Divided.{of_runs, others}
use Rattle.wg_graph.specs.Numbers.{is_in}
use Rattle.wg_greedy.specs.Fields.{Written, has_some, count_fields, interval_fields, residual_fields, extras, extra_fields, reference_fields, copy_fields, list_fields}
use Rattle.wg_greedy.proofs.Extra.{ascends-filter}
use Rattle.wg_encoder.proofs.Whole.{list_whole}
use Rattle.wg_encoder.specs.InMemory.{AreLowRuns}

below_parts : (m : ℕ) (xs ys : List ℕ) → Below m (xs ++ ys) → Below m xs × Below m ys
below_parts m [] ys low = (tt, low)
below_parts m (x ∷ xs) ys low = let rest = below_parts m xs ys low.1 in ((low.0, rest.0), rest.1)

below_both : (m : ℕ) (xs ys : List ℕ) → Below m xs → Below m ys → Below m (xs ++ ys)
below_both m [] ys low other = other
below_both m (x ∷ xs) ys low other = (low.0, below_both m xs ys low.1 other)

pub below-filter : (m : ℕ) (p : ℕ → Bool) (xs : List ℕ) → Below m xs → Below m (filter p xs)
below-filter m p [] low = tt
below-filter m p (x ∷ xs) low = let rest = below-filter m p xs low.1 in elim (cases_Bool (p x)) [ inl h ↦ rw h (low.0, rest) | inr h ↦ rw h rest ]

range_end : (m l n : ℕ) → 0 < n → Below m (range_with_len l n) → l + n ≤ m
range_end m l zero some low = absurd (omega arith)
range_end m l (suc zero) some low = omega (arith, low.0)
range_end m l (suc (suc n)) some low = let rest = range_end m (l + 1) (suc n) (omega arith) low.1 in omega (arith, rest)

runs_low : (t : Run → Bool) (rs : List Run) (n : ℕ) (xs : List ℕ) → Cut n rs xs → Below (2 ^ 62) xs → AreLowRuns (ends_and_lengths (filter t rs))
runs_low t [] n xs cut low = tt
runs_low t (r ∷ rs) n xs cut low =
    let parts = below_parts (2 ^ 62) (numbers_of r) cut.2 (subst (Below (2 ^ 62)) cut.3 low) in
    let rest = runs_low t rs (r.left + r.length + 1) cut.2 cut.4 parts.1 in
    let end = range_end (2 ^ 62) r.left r.length cut.1 parts.0 in
    elim (cases_Bool (t r)) [ inl h ↦ rw h (cut.1, end, rest) | inr h ↦ rw h rest ]

numbers_low : (m : ℕ) (t : Run → Bool) (rs : List Run) (n : ℕ) (xs : List ℕ) → Cut n rs xs → Below m xs → Below m (of_runs t rs)
numbers_low m t [] n xs cut low = tt
numbers_low m t (r ∷ rs) n xs cut low =
    let parts = below_parts m (numbers_of r) cut.2 (subst (Below m) cut.3 low) in
    let rest = numbers_low m t rs (r.left + r.length + 1) cut.2 cut.4 parts.1 in
    elim (cases_Bool (t r)) [ inl h ↦ rw h (below_both m (numbers_of r) (of_runs t rs) parts.0 rest) | inr h ↦ rw h rest ]

pub intervals_low : (least : ℕ) (xs ends : List ℕ) → Ascends 0 xs → Below (2 ^ 62) xs → ends ≡ ends_and_lengths (intervals_of least xs) → AreLowRuns ends
intervals_low least xs ends up low e = subst AreLowRuns (sym e) (runs_low (is_long least) (runs_of xs) 0 xs (cut_of 0 xs up) low)

pub residuals_low : (least : ℕ) (xs ys : List ℕ) → Ascends 0 xs → Below (2 ^ 62) xs → ys ≡ residuals_of least xs → Below (2 ^ 62) ys
residuals_low least xs ys up low e = subst (Below (2 ^ 62)) (sym e) (numbers_low (2 ^ 62) (others (is_long least)) (runs_of xs) 0 xs (cut_of 0 xs up) low)

-- ---- the parts together

pub some_there : (xs : List ℕ) (found : Bool) → found ≡ not (eqb (length xs) 0) → found ≡ has_some xs
some_there [] found e = e
some_there (x ∷ xs) found e = e ∙ ap not (ne_eqb (suc (length xs)) 0 (λ z. omega arith))

halved : (runs : List Run) → length (ends_and_lengths runs) ≡ 2 * length runs
halved [] = refl
halved (run ∷ runs) = let rest = halved runs in let two : length (ends_and_lengths (run ∷ runs)) ≡ suc (suc (length (ends_and_lengths runs))) = refl in omega arith

pub half : (ends : List ℕ) (runs : List Run) → ends ≡ ends_and_lengths runs → length ends / 2 ≡ length runs
half ends runs e = let twice = ap length e ∙ halved runs in omega arith

pub three_parts : (old a b c : List Written) → ((old ++ a) ++ b) ++ c ≡ old ++ ((a ++ b) ++ c)
three_parts old a b c = ap (λ z. z ++ c) (append_assoc old a b) ∙ append_assoc old (a ++ b) c

pub extras_whole : (p : Parameters) (page : ℕ) (xs : List ℕ) (found : Bool) (least count : ℕ) (old first second third : List Written) → found ≡ has_some xs → least ≡ p.interval → count ≡ length (intervals_of least xs)
    → first ≡ old ++ count_fields found least count → second ≡ first ++ interval_fields page least None (intervals_of least xs) → third ≡ second ++ residual_fields p.residuals page None (residuals_of least xs)
    → third ≡ old ++ extra_fields p page xs
extras_whole p page xs found least count old first second third is same counted one two three =
    let long : List Run = intervals_of least xs in
    three ∙ ap (λ z. z ++ residual_fields p.residuals page None (residuals_of least xs)) (two ∙ ap (λ z. z ++ interval_fields page least None long) one)
    ∙ three_parts old (count_fields found least count) (interval_fields page least None long) (residual_fields p.residuals page None (residuals_of least xs))
    ∙ (λ i. old ++ ((count_fields (is i) least (counted i) ++ interval_fields page least None long) ++ residual_fields p.residuals page None (residuals_of least xs)))
    ∙ (λ i. old ++ ((count_fields (has_some xs) (same i) (length (intervals_of (same i) xs)) ++ interval_fields page (same i) None (intervals_of (same i) xs)) ++ residual_fields p.residuals page None (residuals_of (same i) xs)))

pub extras_ascend : (list referenced others : List ℕ) → others ≡ extras list referenced → Ascends 0 list → Ascends 0 others
extras_ascend list referenced others e up = subst (Ascends 0) (sym e) (ascends-filter (λ y. not (is_in y referenced)) 0 list up)

pub extras_low : (m : ℕ) (list referenced others : List ℕ) → others ≡ extras list referenced → Below m list → Below m others
extras_low m list referenced others e low = subst (Below m) (sym e) (below-filter m (λ y. not (is_in y referenced)) list low)

pub list_joined : (p : Parameters) (page r : ℕ) (referenced list others : List ℕ) (old first second third : List Written) → 0 < length list → others ≡ extras list referenced → first ≡ old ++ reference_fields p r
    → second ≡ first ++ copy_fields p r referenced list → third ≡ second ++ extra_fields p page others → third ≡ old ++ list_fields p page r referenced list
list_joined p page r referenced list others old first second third some e one two three =
    three ∙ ap (λ xs. second ++ extra_fields p page xs) e ∙ ap (λ z. z ++ extra_fields p page (extras list referenced)) (two ∙ ap (λ z. z ++ copy_fields p r referenced list) one)
    ∙ three_parts old (reference_fields p r) (copy_fields p r referenced list) (extra_fields p page (extras list referenced)) ∙ ap (λ z. old ++ z) (list_whole p page r referenced list some)

-- what holds if a call succeeds
pub on_ok : {A E P Q : Type 0} (r : Result A E) → (P → Q) → OnOk r P → OnOk r Q
on_ok (Ok done) more p = more p
on_ok (Err e) more p = tt
