-- How many numbers a set has at most.
use Rattle.std.proofs.Common.{◌≡◌, ℕ, zero, suc, ◌+◌, ◌-◌, ◌<◌, ◌≤◌, max, Bool, eqb, ltb, leb, ◌||◌, ◌&&◌, List, [], ◌∷◌, length, refl, ap, arith, inl, inr}
use Rattle.std.proofs.lemmas.Bool.{cases_Bool, ne_eqb, eqb-true, leb-true, ltb-true, and_parts}
use Rattle.wg_graph.specs.Numbers.{numbers_where, is_in}
use Rattle.wg_graph.proofs.Sets.{where_none}

-- how many of the k numbers from n on pass the test
abbrev pub many : (ℕ → Bool) → ℕ → ℕ → ℕ
many t n k = length (numbers_where t n k)

pub many_same : (f g : ℕ → Bool) (n k : ℕ) → ((y : ℕ) → f y ≡ g y) → many f n k ≡ many g n k
many_same f g n zero h = refl
many_same f g n (suc k) h = let e = h n in let rest = many_same f g (n + 1) k h in elim (cases_Bool (g n)) [ inl y ↦ rw (e, y) (ap suc rest) | inr y ↦ rw (e, y) rest ]

-- no more pass one of two tests than pass the one, and the other
pub many_or : (f g : ℕ → Bool) (n k : ℕ) → many (λ y. f y || g y) n k ≤ many f n k + many g n k
many_or f g n zero = omega arith
many_or f g n (suc k) =
    let rest = many_or f g (n + 1) k in
    elim (cases_Bool (f n)) [
      | inl a ↦ elim (cases_Bool (g n)) [ inl b ↦ rw (a, b) (omega (arith, rest)) | inr b ↦ rw (a, b) (omega (arith, rest)) ]
      | inr a ↦ elim (cases_Bool (g n)) [ inl b ↦ rw (a, b) (omega (arith, rest)) | inr b ↦ rw (a, b) (omega (arith, rest)) ]
    ]

pub many_one : (x n k : ℕ) → many (λ y. eqb y x) n k ≤ 1
many_one x n zero = omega arith
many_one x n (suc k) =
    elim (cases_Bool (eqb n x)) [
      | inl h ↦ let same = eqb-true n x h in let none : numbers_where (λ y. eqb y x) (n + 1) k ≡ [] = where_none (λ y. eqb y x) (n + 1) k (λ y low high. ne_eqb y x (λ e. omega arith)) in rw (h, none) (omega arith)
      | inr h ↦ rw h (many_one x (n + 1) k)
    ]

pub many_in : (xs : List ℕ) (n k : ℕ) → many (λ y. is_in y xs) n k ≤ length xs
many_in [] n k = let none : numbers_where (λ y. is_in y []) n k ≡ [] = where_none (λ y. is_in y []) n k (λ y low high. refl) in rw none (omega arith)
many_in (x ∷ xs) n k = omega (arith, many_or (λ y. eqb y x) (λ y. is_in y xs) n k, many_one x n k, many_in xs n k)

pub many_range : (l c n k : ℕ) → many (λ y. leb l y && ltb y (l + c)) n k ≤ (l + c) - max n l
many_range l c n zero = omega arith
many_range l c n (suc k) =
    let rest = many_range l c (n + 1) k in
    elim (cases_Bool (leb l n && ltb n (l + c))) [
      | inl h ↦ let both = and_parts _ _ h in let low : l ≤ n = leb-true _ _ both.0 in let high : n < l + c = ltb-true _ _ both.1 in rw h (omega (arith, rest, low, high))
      | inr h ↦ rw h (omega (arith, rest))
    ]
