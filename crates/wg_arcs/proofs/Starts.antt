-- A text that begins with another one of four to eight bytes.
use Rattle.std.proofs.Common.{◌≡◌, ℕ, zero, suc, ◌+◌, ◌-◌, ◌*◌, ◌<◌, ◌≤◌, List, [], ◌∷◌, ◌++◌, length, get_or, take, drop, refl, sym, ap, ◌∙◌, ⊎_elim, arith}
use Rattle.std.specs.Int.{w32, from_le_bytes}
use Rattle.std.proofs.lemmas.Bool.{cases_lt}
use Rattle.wg_arcs.proofs.LineLemmas.{same_more, same_front}

-- four bytes that make one number are the same
same_bytes : (a b c d p q r s : ℕ) → a < 256 → b < 256 → c < 256 → d < 256 → p < 256 → q < 256 → r < 256 → s < 256
    → a + b * 256 + c * 65536 + d * 16777216 ≡ p + q * 256 + r * 65536 + s * 16777216
    → (a ≡ p) × (b ≡ q) × (c ≡ r) × (d ≡ s)
same_bytes a b c d p q r s a' b' c' d' p' q' r' s' e = (omega arith, omega arith, omega arith, omega arith)

any_of_four : (P : ℕ → Type 0) → P 0 → P 1 → P 2 → P 3 → (i : ℕ) → i < 4 → P i
any_of_four P h h2 h3 h4 i h5 = grind arith

pub same_at : (text other : List ℕ) (at n m : ℕ) → ((k : ℕ) → get_or text k 0 < 256) → ((k : ℕ) → get_or other k 0 < 256)
    → n ≡ from_le_bytes w32 (get_or text at 0 ∷ get_or text (at + 1) 0 ∷ get_or text (at + 2) 0 ∷ get_or text (at + 3) 0 ∷ [])
    → m ≡ from_le_bytes w32 (get_or other at 0 ∷ get_or other (at + 1) 0 ∷ get_or other (at + 2) 0 ∷ get_or other (at + 3) 0 ∷ [])
    → n ≡ m → (i : ℕ) → i < 4 → get_or text (at + i) 0 ≡ get_or other (at + i) 0
same_at text other at n m small low here there same =
    let all =
    same_bytes _ _ _ _ _ _ _ _ (small at) (small (at + 1)) (small (at + 2)) (small (at + 3)) (low at) (low (at + 1))
    (low (at + 2)) (low (at + 3)) (sym here ∙ same ∙ there) in
    let z : at + 0 ≡ at = omega arith in
    any_of_four _ (rw z all.0) all.1 all.2 all.3

-- the first four bytes and the last four are the same, and so all are
pub begins : (text front : List ℕ) → 4 ≤ length front → length front ≤ 8 → length front ≤ length text
    → ((i : ℕ) → i < 4 → get_or text (0 + i) 0 ≡ get_or front (0 + i) 0)
    → ((i : ℕ) → i < 4 → get_or text (length front - 4 + i) 0 ≡ get_or front (length front - 4 + i) 0)
    → text ≡ front ++ drop (length front) text
begins text front some few long first last = same_front text front (length front) (up_to (length front) (omega arith)) (omega arith) (omega arith)
  where
    byte : (i : ℕ) → i < length front → get_or text i 0 ≡ get_or front i 0
    byte i h =
        ⊎_elim
        (λ (l : i < 4). let z : 0 + i ≡ i = omega arith in ap (λ k. get_or text k 0) (sym z) ∙ first i l ∙ ap (λ k. get_or front k 0) z)
        (λ (l : 4 ≤ i).
        let z : length front - 4 + (i - (length front - 4)) ≡ i = omega arith in
        ap (λ k. get_or text k 0) (sym z) ∙ last (i - (length front - 4)) (omega arith) ∙ ap (λ k. get_or front k 0) z)
        (cases_lt i 4)

    up_to : (i : ℕ) → i ≤ length front → take i text ≡ take i front
    up_to zero h = refl
    up_to (suc i) h =
        let z : suc i ≡ i + 1 = omega arith in
        rw z (same_more text front i (up_to i (omega arith)) (byte i (omega arith)) (omega arith) long)
