-- Copied members, one block more.
use Rattle.std.proofs.Common.{◌≡◌, ℕ, suc, ◌+◌, ◌-◌, ◌%◌, ◌<◌, ◌≤◌, Bool, true, false, cond, eqb, leb, List, [], ◌∷◌, ◌++◌, length, take, drop, refl, sym, ap, ◌∙◌, inl, inr, arith, length-append, length-drop, sum}
use Rattle.std.specs.Prelude.{count_by, nat_le}
use Rattle.std.proofs.lemmas.Bool.{cases_Bool, le-leb, lt-leb, eqb-true, eqb-false, eq-eqb, ne_eqb}
use Rattle.std.proofs.lemmas.List.{take-append-drop, length-take, length_push, take-take, drop-take}
use Rattle.std.proofs.lemmas.List.Sums.{sum_by-cons, sum_by_push}
use Rattle.wg_graph.specs.Ascending.{Ascends, Below}
use Rattle.wg_graph.proofs.Sets.{ascends_more}
use Rattle.wg_graph.specs.Copied.{ends_of, is_copied, at_positions, copied_members}

-- ---- positions

pub at_positions_same : (f g : ℕ → Bool) (p : ℕ) (xs : List ℕ) → ((q : ℕ) → p ≤ q → q < p + length xs → f q ≡ g q) → at_positions f p xs ≡ at_positions g p xs
at_positions_same f g p [] same = refl
at_positions_same f g p (x ∷ xs) same =
    let here : f p ≡ g p = same p (omega arith) (omega arith) in
    let rest = at_positions_same f g (p + 1) xs (λ q low high. same q (omega arith) (omega arith)) in
    rw (here, rest) refl

pub at_positions-append : (f : ℕ → Bool) (p : ℕ) (xs ys : List ℕ) → at_positions f p (xs ++ ys) ≡ at_positions f p xs ++ at_positions f (p + length xs) ys
at_positions-append f p [] ys = ap (λ (k : ℕ). at_positions f k ys) (omega arith)
at_positions-append f p (x ∷ xs) ys =
    let rest : at_positions f (p + 1) (xs ++ ys) ≡ at_positions f (p + 1) xs ++ at_positions f (p + suc (length xs)) ys = at_positions-append f (p + 1) xs ys ∙ ap (λ (k : ℕ). at_positions f (p + 1) xs ++ at_positions f k ys) (omega arith) in
    elim (cases_Bool (f p)) [ inl h ↦ rw (h, rest) refl | inr h ↦ rw (h, rest) refl ]

pub at_positions_all : (f : ℕ → Bool) (p : ℕ) (xs : List ℕ) → ((q : ℕ) → p ≤ q → f q ≡ true) → at_positions f p xs ≡ xs
at_positions_all f p [] h = refl
at_positions_all f p (x ∷ xs) h = let here : f p ≡ true = h p (omega arith) in rw (here, at_positions_all f (p + 1) xs (λ q low. h q (omega arith))) refl

pub at_positions_none : (f : ℕ → Bool) (p : ℕ) (xs : List ℕ) → ((q : ℕ) → p ≤ q → f q ≡ false) → at_positions f p xs ≡ []
at_positions_none f p [] none = refl
at_positions_none f p (x ∷ xs) none = let here : f p ≡ false = none p (omega arith) in rw (here, at_positions_none f (p + 1) xs (λ q low. none q (omega arith))) refl

-- ---- sums

abbrev one_if : Bool → ℕ
one_if b = cond b 1 0

abbrev passed : ℕ → ℕ → List ℕ → ℕ
passed p n bs = count_by (λ e. nat_le e p) (ends_of n bs)

passed_cons : (p n b : ℕ) (bs : List ℕ) → passed p n (b ∷ bs) ≡ cond (leb (n + b) p) 1 0 + passed p (n + b) bs
passed_cons p n b bs = sum_by-cons (λ (e : ℕ). cond (leb e p) 1 0) (n + b) (ends_of (n + b) bs)

pub sum_cons : (b : ℕ) (bs : List ℕ) → sum (b ∷ bs) ≡ b + sum bs
sum_cons b bs = sum_by-cons (λ (e : ℕ). e) b bs

passed_more : (p n b : ℕ) (bs : List ℕ) → passed p n (bs ++ b ∷ []) ≡ passed p n bs + cond (leb (n + sum bs + b) p) 1 0
passed_more p n b [] = ap (λ (k : ℕ). 0 + cond (leb k p) 1 0) (omega arith)
passed_more p n b (c ∷ bs) =
    let rest = passed_more p (n + c) b bs in
    let same : n + c + sum bs + b ≡ n + sum (c ∷ bs) + b = omega (arith, sum_cons c bs) in
    let e : one_if (leb (n + c + sum bs + b) p) ≡ one_if (leb (n + sum (c ∷ bs) + b) p) = ap (λ (k : ℕ). one_if (leb k p)) same in
    omega (arith, rest, e, passed_cons p n c (bs ++ b ∷ []), passed_cons p n c bs)

passed_all : (p n : ℕ) (bs : List ℕ) → n + sum bs ≤ p → passed p n bs ≡ length bs
passed_all p n [] le = refl
passed_all p n (b ∷ bs) le =
    let more = sum_cons b bs in
    let here : leb (n + b) p ≡ true = le-leb _ _ (omega arith) in
    let one : one_if (leb (n + b) p) ≡ 1 = rw here refl in
    omega (arith, passed_cons p n b bs, passed_all p (n + b) bs (omega arith), one)

-- ---- one block more

before_end : (bs : List ℕ) (b q : ℕ) → q < sum bs + b → is_copied (bs ++ b ∷ []) q ≡ is_copied bs q
before_end bs b q lt =
    let late : leb (0 + sum bs + b) q ≡ false = lt-leb _ _ (omega arith) in
    let none : one_if (leb (0 + sum bs + b) q) ≡ 0 = rw late refl in
    ap (λ (k : ℕ). eqb (k % 2) 0) (omega (arith, passed_more q 0 b bs, none))

past_sum : (bs : List ℕ) (q : ℕ) → sum bs ≤ q → is_copied bs q ≡ eqb (length bs % 2) 0
past_sum bs q le = ap (λ (k : ℕ). eqb (k % 2) 0) (passed_all q 0 bs (omega arith))

flips : (n : ℕ) → eqb (n % 2) 0 ≡ true → eqb ((n + 1) % 2) 0 ≡ false
flips n e = ne_eqb _ _ (λ h. let g = eqb-true _ _ e in omega arith)

flops : (n : ℕ) → eqb (n % 2) 0 ≡ false → eqb ((n + 1) % 2) 0 ≡ true
flops n e = eq-eqb _ _ (let g : n % 2 ≡ 0 → ⊥ = eqb-false _ _ e in omega arith)

-- the members copied before the end of the next block, by the blocks before it
abbrev pub copied_front : List ℕ → ℕ → List ℕ → List ℕ
copied_front bs b list = at_positions (is_copied bs) 0 (take (sum bs + b) list)

-- if the blocks run to their end at list, the rest is as the number of blocks says
pub copied_split : (bs list : List ℕ) (n : ℕ) → sum bs ≤ n → n ≤ length list → copied_members bs list ≡ at_positions (is_copied bs) 0 (take n list) ++ cond (eqb (length bs % 2) 0) (drop n list) []
unfolding copied_members
copied_split bs list n low high =
    let whole = take-append-drop n list in
    let len : length (take n list) ≡ n = omega (arith, length-take n list) in
    let parts : copied_members bs list ≡ at_positions (is_copied bs) 0 (take n list) ++ at_positions (is_copied bs) (0 + length (take n list)) (drop n list) = ap (at_positions (is_copied bs) 0) (sym whole) ∙ at_positions-append (is_copied bs) 0 (take n list) (drop n list) in
    elim (cases_Bool (eqb (length bs % 2) 0)) [
      | inl e ↦ rw (parts, e) (ap (λ (x : List ℕ). at_positions (is_copied bs) 0 (take n list) ++ x) (at_positions_all (is_copied bs) (0 + length (take n list)) (drop n list) (λ q le. past_sum bs q (omega arith) ∙ e)))
      | inr e ↦ rw (parts, e) (ap (λ (x : List ℕ). at_positions (is_copied bs) 0 (take n list) ++ x) (at_positions_none (is_copied bs) (0 + length (take n list)) (drop n list) (λ q le. past_sum bs q (omega arith) ∙ e)))
    ]

pub copied_before : (bs list : List ℕ) (b : ℕ) → sum bs + b ≤ length list → copied_members bs list ≡ copied_front bs b list ++ cond (eqb (length bs % 2) 0) (drop (sum bs + b) list) []
copied_before bs list b fits = copied_split bs list (sum bs + b) (omega arith) fits

pub sum_push : (bs : List ℕ) (b : ℕ) → sum (bs ++ b ∷ []) ≡ sum bs + b
sum_push bs b = sum_by_push (λ (e : ℕ). e) bs b

pub copied_after : (bs list : List ℕ) (b : ℕ) → sum bs + b ≤ length list → copied_members (bs ++ b ∷ []) list ≡ copied_front bs b list ++ cond (eqb (length bs % 2) 0) [] (drop (sum bs + b) list)
copied_after bs list b fits =
    let total = sum_push bs b in
    let split = copied_split (bs ++ b ∷ []) list (sum bs + b) (omega arith) fits in
    let len : length (take (sum bs + b) list) ≡ sum bs + b = omega (arith, length-take (sum bs + b) list) in
    let front : at_positions (is_copied (bs ++ b ∷ [])) 0 (take (sum bs + b) list) ≡ copied_front bs b list = at_positions_same _ _ 0 _ (λ q low high. before_end bs b q (omega arith)) in
    let more : length (bs ++ b ∷ []) ≡ length bs + 1 = length_push bs b in
    elim (cases_Bool (eqb (length bs % 2) 0)) [
      | inl e ↦ let next : eqb (length (bs ++ b ∷ []) % 2) 0 ≡ false = rw more (flips (length bs) e) in rw (split, next, e, front) refl
      | inr e ↦ let next : eqb (length (bs ++ b ∷ []) % 2) 0 ≡ true = rw more (flops (length bs) e) in rw (split, next, e, front) refl
    ]

-- the number copied, one block more
pub copied_count : (bs list : List ℕ) (b : ℕ) → sum bs + b ≤ length list →
    length (copied_members (bs ++ b ∷ []) list) ≡ cond (eqb (length bs % 2) 0) (length (copied_members bs list) - (length list - (sum bs + b))) (length (copied_members bs list) + (length list - (sum bs + b)))
copied_count bs list b fits =
    let rest = length-drop (sum bs + b) list in
    elim (cases_Bool (eqb (length bs % 2) 0)) [
      | inl e ↦ let old = rw e at (copied_before bs list b fits) in let new = rw e at (copied_after bs list b fits) in
          rw e (omega (arith, ap length old, ap length new, length-append (copied_front bs b list) (drop (sum bs + b) list), length-append (copied_front bs b list) []))
      | inr e ↦ let old = rw e at (copied_before bs list b fits) in let new = rw e at (copied_after bs list b fits) in
          rw e (omega (arith, ap length old, ap length new, length-append (copied_front bs b list) (drop (sum bs + b) list), length-append (copied_front bs b list) []))
    ]

-- the members kept of the blocks, one block more
pub kept_more : (bs list : List ℕ) (b : ℕ) → sum bs + b ≤ length list →
    at_positions (is_copied (bs ++ b ∷ [])) 0 (take (sum bs + b) list) ≡ at_positions (is_copied bs) 0 (take (sum bs) list) ++ cond (eqb (length bs % 2) 0) (take b (drop (sum bs) list)) []
unfolding copied_members
kept_more bs list b fits =
    let len : length (take (sum bs + b) list) ≡ sum bs + b = omega (arith, length-take (sum bs + b) list) in
    let front : at_positions (is_copied (bs ++ b ∷ [])) 0 (take (sum bs + b) list) ≡ at_positions (is_copied bs) 0 (take (sum bs + b) list) = at_positions_same _ _ 0 _ (λ q low high. before_end bs b q (omega arith)) in
    let split = copied_split bs (take (sum bs + b) list) (sum bs) (omega arith) (omega arith) in
    let short : take (sum bs) (take (sum bs + b) list) ≡ take (sum bs) list = take-take (sum bs) (sum bs + b) list (omega arith) in
    let rest : drop (sum bs) (take (sum bs + b) list) ≡ take b (drop (sum bs) list) = drop-take (sum bs) b list in
    front ∙ split ∙ rw (short, rest) refl

-- ---- some members of an ascending list ascend

pub ascends-at_positions : (f : ℕ → Bool) (n p : ℕ) (xs : List ℕ) → Ascends n xs → Ascends n (at_positions f p xs)
ascends-at_positions f n p [] up = tt
ascends-at_positions f n p (x ∷ xs) up =
    let rest = ascends-at_positions f (suc x) (p + 1) xs up.1 in
    elim (cases_Bool (f p)) [ inl h ↦ rw h (up.0, rest) | inr h ↦ rw h (ascends_more n (suc x) _ (omega (arith, up.0)) rest) ]

pub below-at_positions : (f : ℕ → Bool) (m p : ℕ) (xs : List ℕ) → Below m xs → Below m (at_positions f p xs)
below-at_positions f m p [] below = tt
below-at_positions f m p (x ∷ xs) below =
    let rest = below-at_positions f m (p + 1) xs below.1 in
    elim (cases_Bool (f p)) [ inl h ↦ rw h (below.0, rest) | inr h ↦ rw h rest ]

pub length-at_positions : (f : ℕ → Bool) (p : ℕ) (xs : List ℕ) → length (at_positions f p xs) ≤ length xs
length-at_positions f p [] = omega arith
length-at_positions f p (x ∷ xs) =
    let rest = length-at_positions f (p + 1) xs in
    elim (cases_Bool (f p)) [ inl h ↦ rw h (omega (arith, rest)) | inr h ↦ rw h (omega (arith, rest)) ]
