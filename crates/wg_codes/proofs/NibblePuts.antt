use Rattle.std.proofs.Common.{◌≡◌, ℕ, zero, suc, ◌+◌, ◌-◌, ◌*◌, ◌/◌, ◌%◌, ◌^◌, ◌<◌, ◌≤◌, Bool, true, false, List, [], ◌∷◌, ◌++◌, refl, sym, ap, ◌∙◌, arith, append_assoc, Err}
use Rattle.std.proofs.Math.Nat.{pow-suc, div-div-eq-div-mul}
use Rattle.wg_outside.specs.declared.depot.Depot as depot
use Rattle.wg_outside.specs.declared.depot.WriteError.{WriteError}
use Rattle.wg_bits.specs.Bits.{low_bits}
use Rattle.wg_bits.specs.Written.{Sends}
use Rattle.wg_bits.proofs.LowBits.{low_bits-add, low_bits-above}
use Rattle.wg_bits.proofs.Sending.{Sent, sends_as, sends_then, sends_cut}
use Rattle.wg_codes.specs.Words.{highest, nibble}
use Rattle.wg_codes.proofs.Writing.{one_bit_one, one_bit_zero}
use Rattle.wg_codes.proofs.NibbleWords.{open_digits, open_more, eights, split_word}

digit_open : (t : ℕ) → t < 8 → low_bits 4 t ≡ false ∷ low_bits 3 t
digit_open t l =
    low_bits-add 1 3 t ∙ ap (λ k. low_bits 1 k ++ low_bits 3 t) (omega arith) ∙ ap (λ z. z ++ low_bits 3 t) one_bit_zero

digit_last : (t : ℕ) → t < 8 → low_bits 4 (8 + t) ≡ true ∷ low_bits 3 t
digit_last t l =
    let turn : 8 + t ≡ 1 * 2 ^ 3 + t = omega arith in
    low_bits-add 1 3 (8 + t) ∙ ap (λ k. low_bits 1 k ++ low_bits 3 (8 + t)) (omega arith)
    ∙ ap (λ z. z ++ low_bits 3 (8 + t)) one_bit_one ∙ ap (λ z. true ∷ z) (ap (low_bits 3) turn ∙ low_bits-above 3 1 t)

-- the digits of v above the last `more` and one
abbrev pub opened : ℕ → ℕ → List Bool
opened v more = open_digits (highest v / 3 - more) (v / 8 ^ suc more)

opened_more : (v more : ℕ) → suc more ≤ highest v / 3 → opened v more ≡ opened v (suc more) ++ (false ∷ low_bits 3 (v / 8 ^ suc more % 8))
opened_more v more l =
    let count : highest v / 3 - more ≡ suc (highest v / 3 - suc more) = omega arith in
    let p : 8 ^ suc (suc more) ≡ 8 ^ suc more * 8 = pow-suc 8 (suc more) in
    let high : v / 8 ^ suc (suc more) ≡ v / 8 ^ suc more / 8 = ap (λ m. v / m) p ∙ sym (div-div-eq-div-mul v (8 ^ suc more) 8) in
    ap (λ m. open_digits m (v / 8 ^ suc more)) count ∙ ap (open_digits (suc (highest v / 3 - suc more))) (omega arith)
    ∙ open_more (highest v / 3 - suc more) (v / 8 ^ suc (suc more)) (v / 8 ^ suc more % 8) (omega arith)

-- one digit is put
pub opened_put : (v more m d : ℕ) → 0 < more → more ≤ highest v / 3 → m ≡ more - 1 → d ≡ v / 2 ^ (3 * more) % 8 → opened v more ++ low_bits 4 d ≡ opened v m
opened_put v more m d h h2 h3 h4 = grind (arith, eights, digit_open, opened, opened_more)

last_put : (v : ℕ) → v ≤ 2 ^ 63 - 1 → opened v 0 ++ low_bits 4 (8 + v % 8) ≡ nibble v
last_put v l = grind (arith, open_digits, split_word, digit_last)

pub nibble_put : (v more d : ℕ) → v ≤ 2 ^ 63 - 1 → more ≤ 0 → d ≡ 8 + v % 8 → opened v more ++ low_bits 4 d ≡ nibble v
nibble_put v more d l none e = grind (arith, opened, last_put)

-- what has been put begins the word
pub opened_begins : (v more : ℕ) → v ≤ 2 ^ 63 - 1 → more ≤ highest v / 3 → (r : List Bool) × (nibble v ≡ opened v more ++ r)
opened_begins v zero l few = (low_bits 4 (8 + v % 8), sym (last_put v l))
opened_begins v (suc n) l few =
    let h = opened_begins v n l (omega arith) in
    let digit : List Bool = false ∷ low_bits 3 (v / 8 ^ suc n % 8) in
    (digit ++ h.0, h.1 ∙ ap (λ z. z ++ h.0) (opened_more v n few) ∙ append_assoc (opened v (suc n)) digit h.0)

pub nothing_opened : (v more : ℕ) → more ≡ highest v / 3 → opened v more ≡ []
unfolding open_digits
nothing_opened v more e = grind arith

-- a refused digit
pub sends_some_digits : {D A : Type 0} (dep : depot.Ghosts D) (a b c : D) (n : List ℕ) (w m x z : List Bool) (v more d : ℕ) (e : WriteError) → v ≤ 2 ^ 63 - 1 → 0 < more → more ≤ highest v / 3
    → d ≡ v / 2 ^ (3 * more) % 8 → Sent dep a b n w (opened v more) m → Sends {A = A} dep b c n m (low_bits 4 d) x (Err e) → Sends {A = A} dep a c n w (nibble v) z (Err e)
sends_some_digits dep a b c n w m x z v more d e l some few is h k =
    let r = opened_begins v (more - 1) l (omega arith) in
    let all : (opened v more ++ low_bits 4 d) ++ r.0 ≡ nibble v =
    ap (λ z. z ++ r.0) (opened_put v more (more - 1) d some few refl is) ∙ sym r.1 in
    sends_as dep a c n w _ _ z _ all (sends_cut dep a c n w _ r.0 x z e (sends_then dep a b c n w _ m _ x _ _ h k))
