-- The runs of an ascending list have its numbers, and no others do.
use Rattle.std.proofs.Common.{All, ◌≡◌, ℕ, zero, suc, ◌+◌, ◌-◌, ◌<◌, ◌≤◌, List, [], ◌∷◌, ◌++◌, length, length-append, refl, sym, ap, ◌∙◌, arith, inl, inr}
use Rattle.std.specs.List.{range_with_len}
use Rattle.std.proofs.lemmas.Bool.{cases_eq, ne_eqb, eq-eqb}
use Rattle.std.proofs.lemmas.List.Elements.{All-nil, All-cons, All-head, All-tail}
use Rattle.wg_graph.specs.Ascending.{Ascends, Below}
use Rattle.wg_transpose.specs.declared.run.PageRun.{PageRun}
use Rattle.wg_transpose.specs.Runs.{numbers_of, numbers_of_all, StandApart, with_first, runs_in}
use Rattle.wg_transpose.specs.Laws.{NumbersAreTheList, RunsStandApart, RunsAreOne}

-- ---- a number before the runs

one_number : (x : ℕ) → range_with_len x (suc x - x) ≡ x ∷ []
one_number x = let e : suc x - x ≡ 1 = omega arith in ap (range_with_len x) e

first_number : (x to : ℕ) → x < to → range_with_len x (to - x) ≡ x ∷ range_with_len (suc x) (to - suc x)
first_number x to lt =
    let e : to - x ≡ suc (to - suc x) = omega arith in
    let f : x + 1 ≡ suc x = omega arith in
    ap (range_with_len x) e ∙ ap (λ (m : ℕ). x ∷ range_with_len m (to - suc x)) f

numbers_first : (x n : ℕ) (rs : List PageRun) → StandApart n rs → numbers_of_all (with_first x rs) ≡ x ∷ numbers_of_all rs
numbers_first x n [] h = ap (λ (l : List ℕ). l ++ []) (one_number x)
numbers_first x n (r ∷ rs) h =
    elim (cases_eq (suc x) r.from) [
      | inl e ↦ rw (eq-eqb (suc x) r.from e) (ap (λ (l : List ℕ). l ++ numbers_of_all rs) (first_number x r.to (omega (arith, h.1)) ∙ ap (λ (m : ℕ). x ∷ range_with_len m (r.to - m)) e))
      | inr e ↦ rw (ne_eqb (suc x) r.from e) (ap (λ (l : List ℕ). l ++ (numbers_of r ++ numbers_of_all rs)) (one_number x))
    ]

apart_first : (x n : ℕ) (rs : List PageRun) → n ≤ x → StandApart (suc x) rs → StandApart n (with_first x rs)
apart_first x n [] le h = (le, omega arith, tt)
apart_first x n (r ∷ rs) le h =
    elim (cases_eq (suc x) r.from) [
      | inl e ↦ rw (eq-eqb (suc x) r.from e) (le, omega (arith, h.0, h.1), h.2)
      | inr e ↦ let low : suc x ≤ r.from = h.0 in rw (ne_eqb (suc x) r.from e) (le, omega arith, (omega arith, h.1, h.2))
    ]

pub apart_from : (n : ℕ) (xs : List ℕ) → Ascends n xs → StandApart n (runs_in xs)
apart_from n [] up = tt
apart_from n (x ∷ xs) up = apart_first x n (runs_in xs) up.0 (apart_from (suc x) xs up.1)

numbers_from : (n : ℕ) (xs : List ℕ) → Ascends n xs → numbers_of_all (runs_in xs) ≡ xs
numbers_from n [] up = refl
numbers_from n (x ∷ xs) up = numbers_first x (suc x) (runs_in xs) (apart_from (suc x) xs up.1) ∙ ap (λ (l : List ℕ). x ∷ l) (numbers_from (suc x) xs up.1)

pub numbers_are : NumbersAreTheList
numbers_are xs up = numbers_from 0 xs up

pub stand_apart : RunsStandApart
stand_apart xs up = apart_from 0 xs up

-- ---- runs of numbers below a bound

first_within : (n x : ℕ) (rs : List PageRun) → x < n → All (λ run. run.to ≤ n) rs → All (λ run. run.to ≤ n) (with_first x rs)
first_within n x [] lt all = All-cons (λ (run : PageRun). run.to ≤ n) (record { from = x; to = suc x }) [] (omega arith) (All-nil (λ (run : PageRun). run.to ≤ n))
first_within n x (r ∷ rs) lt all =
    let P = λ (run : PageRun). run.to ≤ n in
    elim (cases_eq (suc x) r.from) [
      | inl e ↦ rw (eq-eqb (suc x) r.from e) (All-cons P (record { from = x; to = r.to }) rs (All-head P r rs all) (All-tail P r rs all))
      | inr e ↦ rw (ne_eqb (suc x) r.from e) (All-cons P (record { from = x; to = suc x }) (r ∷ rs) (omega arith) all)
    ]

pub within_from : (n : ℕ) (xs : List ℕ) → Below n xs → All (λ run. run.to ≤ n) (runs_in xs)
within_from n [] below = All-nil (λ (run : PageRun). run.to ≤ n)
within_from n (x ∷ xs) below = first_within n x (runs_in xs) below.0 (within_from n xs below.1)

pub are_proper_runs : (n : ℕ) (xs : List ℕ) → Ascends 0 xs → Below n xs → StandApart 0 (runs_in xs) × All (λ run. run.to ≤ n) (runs_in xs)
are_proper_runs n xs up below = (stand_apart xs up, within_from n xs below)

-- ---- pages one by one

pub pages_below : (n : ℕ) (xs : List ℕ) → Below n xs → All (λ u. u < n) xs
pages_below n [] below = All-nil (λ (u : ℕ). u < n)
pages_below n (x ∷ xs) below = All-cons (λ (u : ℕ). u < n) x xs below.0 (pages_below n xs below.1)

pub more_pages : (xs ys : List ℕ) → length xs ≤ length (xs ++ ys)
more_pages xs ys = omega (arith, length-append xs ys)

-- ---- no other runs

-- a run before others that do not touch it
run_before : (k a b : ℕ) (rs : List PageRun) (ys : List ℕ) → b ≡ a + suc k → StandApart (suc b) rs → rs ≡ runs_in ys → runs_in (range_with_len a (suc k) ++ ys) ≡ record { from = a; to = b } ∷ rs
run_before zero a b [] ys is h same = let e : b ≡ suc a = omega arith in rw (← same, e) refl
run_before zero a b (r ∷ rs) ys is h same = let e : b ≡ suc a = omega arith in let low : suc b ≤ r.from = h.0 in rw (← same, ne_eqb (suc a) r.from (λ f. omega arith), e) refl
run_before (suc k) a b rs ys is h same =
    let rest : runs_in (range_with_len (a + 1) (suc k) ++ ys) ≡ record { from = a + 1; to = b } ∷ rs = run_before k (a + 1) b rs ys (omega arith) h same in
    ap (with_first a) rest ∙ rw (eq-eqb (suc a) (a + 1) (omega arith)) refl

one_from : (n : ℕ) (rs : List PageRun) → StandApart n rs → rs ≡ runs_in (numbers_of_all rs)
one_from n [] h = refl
one_from n (r ∷ rs) h =
    let k : ℕ = r.to - suc r.from in
    let size : r.to - r.from ≡ suc k = omega (arith, h.1) in
    sym (ap (λ (m : ℕ). runs_in (range_with_len r.from m ++ numbers_of_all rs)) size ∙ run_before k r.from r.to rs (numbers_of_all rs) (omega (arith, h.1)) h.2 (one_from (suc r.to) rs h.2))

pub are_one : RunsAreOne
are_one rs h = one_from 0 rs h
