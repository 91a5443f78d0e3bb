-- The maximal runs of an ascending list, one after the other.
use Rattle.std.proofs.Common.{◌≡◌, ℕ, zero, suc, ◌+◌, ◌-◌, ◌<◌, ◌≤◌, Bool, true, false, not, ◌||◌, eqb, List, [], ◌∷◌, ◌++◌, refl, sym, ap, subst, ◌∙◌, inl, inr, arith}
use Rattle.std.specs.Prelude.{filter}
use Rattle.std.specs.List.{range_with_len}
use Rattle.std.proofs.lemmas.Bool.{cases_eq, cond-true, or_left, or_right, or_from, eq-eqb, ne_eqb}
use Rattle.std.proofs.lemmas.List.{append_assoc}
use Rattle.std.proofs.lemmas.List.Elements.{filter-append}
use Rattle.wg_graph.specs.Numbers.{is_in}
use Rattle.wg_graph.specs.Ascending.{Ascends}
use Rattle.wg_graph.proofs.Sets.{in_head, in_tail, in_below, ascends_more}
use Rattle.wg_intervals.specs.declared.run.Run.{Run}
use Rattle.wg_intervals.specs.Canonical.{firsts, lasts, runs_of, numbers_of}
use Rattle.wg_intervals.proofs.Order.{range_ascends}

-- ---- the numbers of a run

pub range_more : (l n : ℕ) → range_with_len l (suc n) ≡ range_with_len l n ++ (l + n) ∷ []
range_more l zero = ap (λ k. k ∷ []) (let e : l ≡ l + 0 = omega arith in e)
range_more l (suc n) = ap (λ xs. l ∷ xs) (range_more (l + 1) n ∙ ap (λ k. range_with_len (l + 1) n ++ k ∷ []) (let e : l + 1 + n ≡ l + suc n = omega arith in e))

pub range_push : (l n : ℕ) (zs : List ℕ) → range_with_len l n ++ (l + n) ∷ zs ≡ range_with_len l (suc n) ++ zs
range_push l n zs = sym (append_assoc (range_with_len l n) ((l + n) ∷ []) zs) ∙ ap (λ xs. xs ++ zs) (sym (range_more l n))

pub in_run : (l n y : ℕ) (zs : List ℕ) → l ≤ y → y < l + n → is_in y (range_with_len l n ++ zs) ≡ true
in_run l zero y zs low high = absurd (omega arith)
in_run l (suc n) y zs low high =
    elim (cases_eq y l) [
      | inl same ↦ ap (λ k. is_in k (range_with_len l (suc n) ++ zs)) same ∙ in_head l (range_with_len (l + 1) n ++ zs)
      | inr other ↦ in_tail l y (range_with_len (l + 1) n ++ zs) (omega arith) ∙ in_run (l + 1) n y zs (omega arith) (omega arith)
    ]

pub past_run : (l n y : ℕ) (zs : List ℕ) → l + n ≤ y → is_in y (range_with_len l n ++ zs) ≡ is_in y zs
past_run l zero y zs le = refl
past_run l (suc n) y zs le = in_tail l y (range_with_len (l + 1) n ++ zs) (omega arith) ∙ past_run (l + 1) n y zs (omega arith)

-- ---- filters

filter_none : (p : ℕ → Bool) (a k : ℕ) → ((y : ℕ) → a ≤ y → y < a + k → p y ≡ false) → filter p (range_with_len a k) ≡ []
filter_none p a zero h = refl
filter_none p a (suc k) h = rw (h a (omega arith) (omega arith)) (filter_none p (a + 1) k (λ y low high. h y (omega arith) (omega arith)))

filter_same : (p q : ℕ → Bool) (a : ℕ) (zs : List ℕ) → Ascends a zs → ((y : ℕ) → a ≤ y → p y ≡ q y) → filter p zs ≡ filter q zs
filter_same p q a [] up same = refl
filter_same p q a (z ∷ zs) up same = rw ((same z up.0), (filter_same p q (suc z) zs up.1 (λ y low. same y (omega (arith, up.0))))) refl

-- ---- the first of the maximal runs

abbrev begins : List ℕ → ℕ → Bool
begins xs y = eqb y 0 || not (is_in (y - 1) xs)

begins_here : (l : ℕ) (xs : List ℕ) → Ascends l xs → begins xs l ≡ true
begins_here l xs up = grind (arith, cases_eq, or_left, or_right, eq-eqb, in_below)

firsts_run : (l m : ℕ) (zs : List ℕ) → Ascends (l + suc m + 1) zs → firsts (range_with_len l (suc m) ++ zs) ≡ l ∷ firsts zs
firsts_run l m zs up =
    let xs : List ℕ = range_with_len l (suc m) ++ zs in
    let later : List ℕ = range_with_len (l + 1) m in
    let above : Ascends (l + suc m) zs = ascends_more (l + suc m) (l + suc m + 1) zs (omega arith) up in
    let here : begins xs l ≡ true = begins_here l xs (range_ascends l l (suc m) zs (omega arith) above) in
    let none : filter (begins xs) later ≡ [] =
    filter_none (begins xs) (l + 1) m (λ y low high. or_from _ _ (ne_eqb y 0 (λ e. omega arith)) (ap not (in_run l (suc m) (y - 1) zs (omega arith) (omega arith)))) in
    let rest : filter (begins xs) zs ≡ firsts zs = filter_same (begins xs) (begins zs) (l + suc m + 1) zs up (λ y low. ap (λ b. eqb y 0 || not b) (past_run l (suc m) (y - 1) zs (omega arith))) in
    cond-true (begins xs l) (l ∷ filter (begins xs) (later ++ zs)) (filter (begins xs) (later ++ zs)) here
    ∙ ap (λ ys. l ∷ ys) (filter-append (begins xs) later zs ∙ ap (λ ys. ys ++ filter (begins xs) zs) none ∙ rest)

abbrev stops : List ℕ → ℕ → Bool
stops xs y = not (is_in (y + 1) xs)

lasts_run : (l m : ℕ) (zs : List ℕ) → Ascends (l + suc m + 1) zs → lasts (range_with_len l (suc m) ++ zs) ≡ (l + m) ∷ lasts zs
lasts_run l m zs up =
    let xs : List ℕ = range_with_len l (suc m) ++ zs in
    let front : List ℕ = range_with_len l m in
    let last : ℕ = l + m in
    let whole : xs ≡ front ++ last ∷ zs = sym (range_push l m zs) in
    let none : filter (stops xs) front ≡ [] = filter_none (stops xs) l m (λ y low high. ap not (in_run l (suc m) (y + 1) zs (omega arith) (omega arith))) in
    let here : stops xs last ≡ true = ap not (past_run l (suc m) (last + 1) zs (omega arith) ∙ in_below (l + suc m + 1) (last + 1) zs up (omega arith)) in
    let rest : filter (stops xs) zs ≡ lasts zs = filter_same (stops xs) (stops zs) (l + suc m + 1) zs up (λ y low. ap not (past_run l (suc m) (y + 1) zs (omega arith))) in
    ap (filter (stops xs)) whole ∙ filter-append (stops xs) front (last ∷ zs) ∙ ap (λ ys. ys ++ filter (stops xs) (last ∷ zs)) none
    ∙ cond-true (stops xs last) (last ∷ filter (stops xs) zs) (filter (stops xs) zs) here ∙ ap (λ ys. last ∷ ys) rest

pub no_runs : runs_of [] ≡ []
unfolding runs_of
no_runs = refl

pub first_run : (l n : ℕ) (zs : List ℕ) → 0 < n → Ascends (l + n + 1) zs → runs_of (range_with_len l n ++ zs) ≡ record { left = l; length = n } ∷ runs_of zs
unfolding runs_of
first_run l n zs h h2 = grind (arith, firsts_run, lasts_run)

-- ---- one number more

pub one_on : (l n y : ℕ) (ys : List ℕ) → y ≡ l + n → runs_of (range_with_len l n ++ y ∷ ys) ≡ runs_of (range_with_len l (n + 1) ++ ys)
one_on l n y ys next = grind (arith, range_push)

pub apart : (l n y : ℕ) (ys : List ℕ) (ended : List Run) → l + n < y → Ascends (y + 1) ys → runs_of (range_with_len l n ++ []) ≡ ended
    → runs_of (range_with_len l n ++ y ∷ ys) ≡ ended ++ runs_of (range_with_len y 1 ++ ys)
apart l n y ys ended h h2 h3 = grind (arith, no_runs, first_run)

-- ---- an ascending list is its runs, one after the other, with a number missing between two

abbrev pub Cut : ℕ → List Run → List ℕ → Type 0
Cut n [] xs = xs ≡ []
Cut n (r ∷ rs) xs = (n ≤ r.left) × (0 < r.length) × (zs : List ℕ) × (xs ≡ numbers_of r ++ zs) × Cut (r.left + r.length + 1) rs zs

cut_from : (n l m : ℕ) (ys : List ℕ) → n ≤ l → Ascends (l + suc m) ys → Cut n (runs_of (range_with_len l (suc m) ++ ys)) (range_with_len l (suc m) ++ ys)
cut_from n l m [] le up =
    let one : runs_of (range_with_len l (suc m) ++ []) ≡ record { left = l; length = suc m } ∷ [] =
    first_run l (suc m) [] (omega arith) tt ∙ ap (λ rs. record { left = l; length = suc m } ∷ rs) no_runs in
    subst (λ rs. Cut n rs (range_with_len l (suc m) ++ [])) (sym one) (le, omega arith, [], refl, refl)
cut_from n l m (y ∷ ys) le up =
    elim (cases_eq y (l + suc m)) [
      | inl next ↦ let whole : range_with_len l (suc (suc m)) ++ ys ≡ range_with_len l (suc m) ++ y ∷ ys = sym (range_push l (suc m) ys) ∙ ap (λ k. range_with_len l (suc m) ++ k ∷ ys) (sym next) in
          subst (λ xs. Cut n (runs_of xs) xs) whole (cut_from n l (suc m) ys le (subst (λ k. Ascends k ys) (let e : suc y ≡ l + suc (suc m) = omega arith in e) up.1))
      | inr other ↦ let first : l + suc m ≤ y = up.0 in
          let rest : Cut (l + suc m + 1) (runs_of (range_with_len y 1 ++ ys)) (range_with_len y 1 ++ ys) =
          cut_from (l + suc m + 1) y 0 ys (omega arith) (subst (λ k. Ascends k ys) (let e : suc y ≡ y + 1 = omega arith in e) up.1) in
          subst (λ rs. Cut n rs (range_with_len l (suc m) ++ y ∷ ys)) (sym (first_run l (suc m) (y ∷ ys) (omega arith) (omega arith, up.1))) (le, omega arith, y ∷ ys, refl, rest)
    ]

pub cut_of : (n : ℕ) (xs : List ℕ) → Ascends n xs → Cut n (runs_of xs) xs
cut_of n [] up = subst (λ rs. Cut n rs []) (sym no_runs) refl
cut_of n (x ∷ xs) up = cut_from n x 0 xs up.0 (subst (λ k. Ascends k xs) (let e : suc x ≡ x + 1 = omega arith in e) up.1)
