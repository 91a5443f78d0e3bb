-- What flows to the pages, read and written page by page, by either of its two sums.
use Rattle.std.proofs.Common.{ℕ, zero, suc, ◌≡◌, ◌≢◌, ◌+◌, ◌*◌, ◌<◌, ◌≤◌, All, List, [], ◌∷◌, length, get_or, set, refl, ap, arith, sym, ◌∙◌, get_or-set_other}
use Rattle.std.proofs.lemmas.List.{length-set}
use Rattle.std.proofs.lemmas.List.Elements.{All-from_get_or}
use Rattle.wg_rank.specs.Inflows.{low_flows, high_flows}

-- ---- how many there are

pub high_count : (xs : List ℕ) → length (high_flows xs) ≡ length (low_flows xs)
high_count [] = refl
high_count (x ∷ []) = refl
high_count (x ∷ y ∷ xs) = ap suc (high_count xs)

-- none is past the end
pub within : (xs : List ℕ) → 2 * length (low_flows xs) ≤ length xs
within [] = omega arith
within (x ∷ []) = omega arith
within (x ∷ y ∷ xs) = omega (arith, within xs)

pub low_count : (n : ℕ) (xs : List ℕ) → length xs ≡ 2 * n → length (low_flows xs) ≡ n
low_count n [] e = omega arith
low_count n (x ∷ []) e = absurd (omega arith)
low_count zero (x ∷ y ∷ xs) e = absurd (omega arith)
low_count (suc n) (x ∷ y ∷ xs) e = ap suc (low_count n xs (omega arith))

-- ---- where they stand

twice : (v : ℕ) → 2 * suc v ≡ suc (suc (2 * v))
twice v = omega arith

pub low_at : (xs : List ℕ) (v : ℕ) → v < length (low_flows xs) → get_or xs (2 * v) 0 ≡ get_or (low_flows xs) v 0
low_at [] v h = absurd (omega arith)
low_at (x ∷ []) v h = absurd (omega arith)
low_at (x ∷ y ∷ xs) zero h = refl
low_at (x ∷ y ∷ xs) (suc v) h = rw (twice v) (low_at xs v (omega arith))

pub high_at : (xs : List ℕ) (v : ℕ) → v < length (high_flows xs) → get_or xs (2 * v + 1) 0 ≡ get_or (high_flows xs) v 0
high_at [] v h = absurd (omega arith)
high_at (x ∷ []) v h = absurd (omega arith)
high_at (x ∷ y ∷ xs) zero h = refl
high_at (x ∷ y ∷ xs) (suc v) h =
    let e : 2 * suc v + 1 ≡ suc (suc (2 * v + 1)) = omega arith in
    rw e (high_at xs v (omega arith))

-- ---- what writing one of them leaves

pub low_set_low : (xs : List ℕ) (v x : ℕ) → v < length (low_flows xs) → low_flows (set xs (2 * v) x) ≡ set (low_flows xs) v x
low_set_low [] v x h = absurd (omega arith)
low_set_low (a ∷ []) v x h = absurd (omega arith)
low_set_low (a ∷ b ∷ xs) zero x h = refl
low_set_low (a ∷ b ∷ xs) (suc v) x h = rw (twice v) (ap (λ l. a ∷ l) (low_set_low xs v x (omega arith)))

pub high_set_low : (xs : List ℕ) (v x : ℕ) → v < length (low_flows xs) → high_flows (set xs (2 * v) x) ≡ high_flows xs
high_set_low [] v x h = absurd (omega arith)
high_set_low (a ∷ []) v x h = absurd (omega arith)
high_set_low (a ∷ b ∷ xs) zero x h = refl
high_set_low (a ∷ b ∷ xs) (suc v) x h = rw (twice v) (ap (λ l. b ∷ l) (high_set_low xs v x (omega arith)))

pub low_set_high : (xs : List ℕ) (v x : ℕ) → v < length (low_flows xs) → low_flows (set xs (2 * v + 1) x) ≡ low_flows xs
low_set_high [] v x h = absurd (omega arith)
low_set_high (a ∷ []) v x h = absurd (omega arith)
low_set_high (a ∷ b ∷ xs) zero x h = refl
low_set_high (a ∷ b ∷ xs) (suc v) x h =
    let e : 2 * suc v + 1 ≡ suc (suc (2 * v + 1)) = omega arith in
    rw e (ap (λ l. a ∷ l) (low_set_high xs v x (omega arith)))

pub high_set_high : (xs : List ℕ) (v x : ℕ) → v < length (low_flows xs) → high_flows (set xs (2 * v + 1) x) ≡ set (high_flows xs) v x
high_set_high [] v x h = absurd (omega arith)
high_set_high (a ∷ []) v x h = absurd (omega arith)
high_set_high (a ∷ b ∷ xs) zero x h = refl
high_set_high (a ∷ b ∷ xs) (suc v) x h =
    let e : 2 * suc v + 1 ≡ suc (suc (2 * v + 1)) = omega arith in
    rw e (ap (λ l. b ∷ l) (high_set_high xs v x (omega arith)))

-- before anything flows, each sum is 0
pub low_none : (xs : List ℕ) → All (λ x. x ≡ 0) xs → All (λ x. x ≡ 0) (low_flows xs)
low_none xs h = All-from_get_or (λ x. x ≡ 0) (low_flows xs) 0
    (λ v w. sym (low_at xs v w) ∙ h (2 * v) 0 (omega (arith, within xs)))

pub high_none : (xs : List ℕ) → All (λ x. x ≡ 0) xs → All (λ x. x ≡ 0) (high_flows xs)
high_none xs h = All-from_get_or (λ x. x ≡ 0) (high_flows xs) 0
    (λ v w. sym (high_at xs v w) ∙ h (2 * v + 1) 0 (omega (arith, within xs, high_count xs)))

-- ---- what an addition to both leaves

-- the two sums of page v after something was added to each
abbrev pub added : List ℕ → ℕ → ℕ → ℕ → List ℕ
added xs v below above =
    let ys = set xs (2 * v) (get_or xs (2 * v) 0 + below) in
    set ys (2 * v + 1) (get_or ys (2 * v + 1) 0 + above)

pub ne_next : (n : ℕ) → (n + 1) ≢ n
ne_next n e = absurd (omega (arith, e))

low_length : (xs : List ℕ) (v x : ℕ) → v < length (low_flows xs) → length (low_flows (set xs (2 * v) x)) ≡ length (low_flows xs)
low_length xs v x h = ap length (low_set_low xs v x h) ∙ length-set (low_flows xs) v x

-- the two sums of page v, replaced
abbrev pub replaced : List ℕ → ℕ → ℕ → ℕ → List ℕ
replaced xs v below above = set (set xs (2 * v) below) (2 * v + 1) above

pub low_replaced : (xs : List ℕ) (v below above : ℕ) → v < length (low_flows xs) → low_flows (replaced xs v below above) ≡ set (low_flows xs) v below
low_replaced xs v below above h = low_set_high (set xs (2 * v) below) v above (omega (arith, low_length xs v below h)) ∙ low_set_low xs v below h

pub high_replaced : (xs : List ℕ) (v below above : ℕ) → v < length (low_flows xs) → high_flows (replaced xs v below above) ≡ set (high_flows xs) v above
high_replaced xs v below above h = grind (arith, high_set_low, high_set_high, low_length)

pub low_added : (xs : List ℕ) (v below above : ℕ) → v < length (low_flows xs)
    → low_flows (added xs v below above) ≡ set (low_flows xs) v (get_or (low_flows xs) v 0 + below)
low_added xs v below above h = low_replaced xs v _ _ h ∙ ap (λ y. set (low_flows xs) v (y + below)) (low_at xs v h)

pub high_added : (xs : List ℕ) (v below above : ℕ) → v < length (low_flows xs)
    → high_flows (added xs v below above) ≡ set (high_flows xs) v (get_or (high_flows xs) v 0 + above)
high_added xs v below above h = grind (arith, get_or-set_other, high_count, high_at, ne_next, high_replaced)
