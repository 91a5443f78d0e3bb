-- Ascending lists, and the ascending list of a set.
use Rattle.std.proofs.Common.{◌≡◌, ℕ, zero, suc, ◌+◌, ◌-◌, ◌<◌, ◌≤◌, Bool, true, false, eqb, List, [], ◌∷◌, ◌++◌, refl, sym, ap, subst, ◌∙◌, arith, inl, inr}
use Rattle.std.proofs.lemmas.Bool.{cases_Bool, cases_eq, ne_eqb, eq-eqb}
use Rattle.std.proofs.lemmas.List.{append-nil}
use Rattle.wg_graph.specs.Numbers.{numbers_where, is_in}
use Rattle.wg_graph.specs.Ascending.{Ascends, Below}

-- ---- the numbers that pass a test

pub where_split : (t : ℕ → Bool) (n j k : ℕ) → numbers_where t n (j + k) ≡ numbers_where t n j ++ numbers_where t (n + j) k
where_split t n zero k = ap (λ (m : ℕ). numbers_where t n m) (omega arith) ∙ ap (λ (m : ℕ). numbers_where t m k) (omega arith)
where_split t n (suc j) k =
    let e : suc j + k ≡ suc (j + k) = omega arith in
    let rest : numbers_where t (n + 1) (j + k) ≡ numbers_where t (n + 1) j ++ numbers_where t (n + suc j) k = where_split t (n + 1) j k ∙ ap (λ (m : ℕ). numbers_where t (n + 1) j ++ numbers_where t m k) (omega arith) in
    elim (cases_Bool (t n)) [ inl h ↦ rw (e, h, rest) refl | inr h ↦ rw (e, h, rest) refl ]

pub where_none : (t : ℕ → Bool) (n k : ℕ) → ((y : ℕ) → n ≤ y → y < n + k → t y ≡ false) → numbers_where t n k ≡ []
where_none t n zero h = refl
where_none t n (suc k) h = let here : t n ≡ false = h n (omega arith) (omega arith) in rw here (where_none t (n + 1) k (λ y low high. h y (omega arith) (omega arith)))

-- one more number, if none is between
pub grow : (t : ℕ → Bool) (m x : ℕ) → m ≤ x → ((y : ℕ) → m ≤ y → y < x → t y ≡ false) → t x ≡ true → numbers_where t 0 m ++ x ∷ [] ≡ numbers_where t 0 (suc x)
grow t m x le none here =
    let e : suc x ≡ m + ((x - m) + 1) = omega arith in
    let at : 0 + m + (x - m) ≡ x = omega arith in
    let gap : numbers_where t (0 + m) (x - m) ≡ [] = where_none t (0 + m) (x - m) (λ y low high. none y (omega arith) (omega arith)) in
    let one : numbers_where t (0 + m + (x - m)) 1 ≡ x ∷ [] = ap (λ (k : ℕ). numbers_where t k 1) at ∙ rw here refl in
    sym (ap (numbers_where t 0) e ∙ where_split t 0 m ((x - m) + 1) ∙ ap (λ (l : List ℕ). numbers_where t 0 m ++ l) (where_split t (0 + m) (x - m) 1 ∙ rw (gap, one) refl))

pub grow_end : (t : ℕ → Bool) (m n : ℕ) → m ≤ n → ((y : ℕ) → m ≤ y → y < n → t y ≡ false) → numbers_where t 0 m ≡ numbers_where t 0 n
grow_end t m n le none =
    let e : n ≡ m + (n - m) = omega arith in
    let gap : numbers_where t (0 + m) (n - m) ≡ [] = where_none t (0 + m) (n - m) (λ y low high. none y (omega arith) (omega arith)) in
    sym (ap (numbers_where t 0) e ∙ where_split t 0 m (n - m) ∙ rw gap (append-nil _))

-- ---- ascending lists

pub in_below : (n y : ℕ) (xs : List ℕ) → Ascends n xs → y < n → is_in y xs ≡ false
in_below n y [] h lt = refl
in_below n y (x ∷ xs) h lt = let other : eqb y x ≡ false = ne_eqb _ _ (λ e. omega (arith, h.0)) in rw other (in_below (suc x) y xs h.1 (omega (arith, h.0)))

pub ascends_more : (m n : ℕ) (xs : List ℕ) → m ≤ n → Ascends n xs → Ascends m xs
ascends_more m n [] le h = tt
ascends_more m n (x ∷ xs) le h = (omega (arith, h.0), h.1)

pub in_head : (x : ℕ) (xs : List ℕ) → is_in x (x ∷ xs) ≡ true
in_head x xs = rw (eq-eqb x x refl) refl

pub in_tail : (x y : ℕ) (xs : List ℕ) → suc x ≤ y → is_in y (x ∷ xs) ≡ is_in y xs
in_tail x y xs le = rw (ne_eqb y x (λ e. omega arith)) refl

pub in_past : (n y : ℕ) (xs : List ℕ) → Below n xs → n ≤ y → is_in y xs ≡ false
in_past n y [] h le = refl
in_past n y (x ∷ xs) h le = rw (ne_eqb y x (λ e. omega (arith, h.0))) (in_past n y xs h.1 le)

-- ---- the list of a set ascends, stays below its bound, and has the members of the set

pub ascends-where : (t : ℕ → Bool) (n k : ℕ) → Ascends n (numbers_where t n k)
ascends-where t n zero = tt
ascends-where t n (suc k) =
    let rest : Ascends (suc n) (numbers_where t (n + 1) k) = ascends_more (suc n) (n + 1) _ (omega arith) (ascends-where t (n + 1) k) in
    elim (cases_Bool (t n)) [ inl h ↦ rw h (omega arith, rest) | inr h ↦ rw h (ascends_more n (suc n) _ (omega arith) rest) ]

pub below-where : (t : ℕ → Bool) (n k m : ℕ) → n + k ≤ m → Below m (numbers_where t n k)
below-where t n zero m le = tt
below-where t n (suc k) m le =
    let rest = below-where t (n + 1) k m (omega arith) in
    elim (cases_Bool (t n)) [ inl h ↦ rw h (omega arith, rest) | inr h ↦ rw h rest ]

pub is_in-where : (t : ℕ → Bool) (n k y : ℕ) → n ≤ y → y < n + k → is_in y (numbers_where t n k) ≡ t y
is_in-where t n zero y low high = absurd (omega arith)
is_in-where t n (suc k) y low high =
    elim (cases_eq y n) [
      | inl same ↦ elim (cases_Bool (t n)) [
        | inl h ↦ rw (same, h) (in_head n _)
        | inr h ↦ rw (same, h) (in_below (n + 1) n (numbers_where t (n + 1) k) (ascends-where t (n + 1) k) (omega arith))
      ]
      | inr other ↦ let rest = is_in-where t (n + 1) k y (omega arith) (omega arith) in elim (cases_Bool (t n)) [ inl h ↦ rw (h, in_tail n y (numbers_where t (n + 1) k) (omega arith)) rest | inr h ↦ rw h rest ]
    ]

-- two tests that agree have one list
pub where_same : (f g : ℕ → Bool) (n k : ℕ) → ((y : ℕ) → n ≤ y → y < n + k → f y ≡ g y) → numbers_where f n k ≡ numbers_where g n k
where_same f g n zero same = refl
where_same f g n (suc k) same =
    let here : f n ≡ g n = same n (omega arith) (omega arith) in
    let rest = where_same f g (n + 1) k (λ y low high. same y (omega arith) (omega arith)) in
    rw (here, rest) refl

where_cons : (t : ℕ → Bool) (n k : ℕ) → t n ≡ true → numbers_where t n (suc k) ≡ n ∷ numbers_where t (suc n) k
where_cons t n k h = rw h (ap (λ m. n ∷ numbers_where t m k) (let e : n + 1 ≡ suc n = omega arith in e))

-- an ascending list is the list of its own members
pub ascending_is : (n k : ℕ) (xs : List ℕ) → Ascends n xs → Below (n + k) xs → xs ≡ numbers_where (λ y. is_in y xs) n k
ascending_is n k [] up below = sym (where_none (λ y. is_in y []) n k (λ y low high. refl))
ascending_is n k (x ∷ xs) up below =
    let t : ℕ → Bool = λ y. is_in y (x ∷ xs) in
    let r : ℕ = n + k - suc x in
    let split : k ≡ (x - n) + suc r = omega (arith, up.0, below.0) in
    let at : n + (x - n) ≡ x = omega (arith, up.0) in
    let total : suc x + r ≡ n + k = omega (arith, below.0) in
    let gap : numbers_where t n (x - n) ≡ [] = where_none t n (x - n) (λ y low high. in_below x y (x ∷ xs) (omega arith, up.1) (omega arith)) in
    let tail : xs ≡ numbers_where (λ y. is_in y xs) (suc x) r = ascending_is (suc x) r xs up.1 (subst (λ m. Below m xs) (sym total) below.1) in
    let same : numbers_where t (suc x) r ≡ xs = where_same t (λ y. is_in y xs) (suc x) r (λ y low high. in_tail x y xs low) ∙ sym tail in
    let front : numbers_where t (n + (x - n)) (suc r) ≡ x ∷ xs =
    ap (λ m. numbers_where t m (suc r)) at ∙ where_cons t x r (in_head x xs) ∙ ap (λ l. x ∷ l) same in
    sym (ap (numbers_where t n) split ∙ where_split t n (x - n) (suc r) ∙ ap (λ l. l ++ numbers_where t (n + (x - n)) (suc r)) gap ∙ front)

-- ---- one number more at the end

pub ascends_push : (n y : ℕ) (xs : List ℕ) → n ≤ y → Ascends n xs → Below y xs → Ascends n (xs ++ y ∷ [])
ascends_push n y [] le up below = (le, tt)
ascends_push n y (x ∷ xs) le up below = (up.0, ascends_push (suc x) y xs below.0 up.1 below.1)

pub below_push : (m y : ℕ) (xs : List ℕ) → y < m → Below m xs → Below m (xs ++ y ∷ [])
below_push m y [] lt below = (lt, tt)
below_push m y (x ∷ xs) lt below = (below.0, below_push m y xs lt below.1)

pub below_more : (m n : ℕ) (xs : List ℕ) → m ≤ n → Below m xs → Below n xs
below_more m n [] le below = tt
below_more m n (x ∷ xs) le below = (omega (arith, below.0), below_more m n xs le below.1)
