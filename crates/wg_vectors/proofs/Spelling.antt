-- Bits that are spelled as a text, one by one.
use Rattle.std.proofs.Common.{◌≡◌, ◌≢◌, ℕ, ◌+◌, ◌-◌, ◌*◌, ◌/◌, ◌%◌, ◌^◌, ◌<◌, ◌≤◌, ◌==◌, Bool, true, false, cond, List, [], ◌∷◌, ◌++◌, length, take, get_or, refl, sym, ap, ◌∙◌, arith, append_assoc}
use Rattle.std.proofs.Math.ListN.{replicate}
use Rattle.std.proofs.lemmas.Nat.{pow-add, pow_pos, shr_high}
use Rattle.std.proofs.lemmas.List.{append-nil, take_more, take_all}
use mir.Val.{bool_byte}
use Rattle.wg_bits.specs.Bits.{bits_of, low_bits}
use Rattle.wg_bits.proofs.LowBits.{low_bits-add, low_bits-above, low_bits-zero}
use Rattle.wg_bits.proofs.Writes.{bits_of-append, bits_of-one}
use Rattle.wg_vectors.specs.Spelled.{bits_in}

-- ---- a text, letter after letter

bits_in-append : (xs ys : List ℕ) → bits_in (xs ++ ys) ≡ bits_in xs ++ bits_in ys
bits_in-append [] ys = refl
bits_in-append (x ∷ xs) ys = at (x == 32) (bits_in-append xs ys)
  where
    at : (t : Bool) → bits_in (xs ++ ys) ≡ bits_in xs ++ bits_in ys
        → cond t (bits_in (xs ++ ys)) ((x == 49) ∷ bits_in (xs ++ ys)) ≡ cond t (bits_in xs) ((x == 49) ∷ bits_in xs) ++ bits_in ys
    at true e = e
    at false e = ap (λ (l : List Bool). (x == 49) ∷ l) e

letter_more : (xs : List ℕ) (i : ℕ) → i < length xs → bits_in (take (i + 1) xs) ≡ bits_in (take i xs) ++ bits_in (get_or xs i 0 ∷ [])
letter_more xs i lt = ap bits_in (take_more xs i 0 lt) ∙ bits_in-append (take i xs) (get_or xs i 0 ∷ [])

pub blank_more : (xs : List ℕ) (i : ℕ) → i < length xs → get_or xs i 0 ≡ 32 → bits_in (take (i + 1) xs) ≡ bits_in (take i xs)
blank_more xs i lt blank = letter_more xs i lt ∙ ap (λ (c : ℕ). bits_in (take i xs) ++ bits_in (c ∷ [])) blank ∙ append-nil (bits_in (take i xs))

-- ---- bits, one after the other

pub with_bit : (fill part : ℕ) (bit : Bool) → low_bits (fill + 1) (2 * part + bool_byte bit) ≡ low_bits fill part ++ bit ∷ []
unfolding low_bits
with_bit fill part bit = grind (arith, low_bits-add)

pub part_below : (fill part bit : ℕ) → part < 2 ^ fill → bit < 2 → 2 * part + bit < 2 ^ (fill + 1)
part_below fill part bit lt one = omega (arith, pow-add 2 fill 1, lt, one)

-- a bit behind whole bytes and a part
pub bit_behind : (bytes : List ℕ) (fill part : ℕ) (bit : Bool) → bits_of bytes ++ low_bits (fill + 1) (2 * part + bool_byte bit) ≡ bits_of bytes ++ low_bits fill part ++ bit ∷ []
bit_behind bytes fill part bit = ap (λ (l : List Bool). bits_of bytes ++ l) (with_bit fill part bit) ∙ sym (append_assoc (bits_of bytes) (low_bits fill part) (bit ∷ []))

-- a whole byte more
pub byte_more : (bytes : List ℕ) (b : ℕ) → bits_of (bytes ++ b ∷ []) ++ low_bits 0 0 ≡ bits_of bytes ++ low_bits 8 b
unfolding low_bits
byte_more bytes b = append-nil (bits_of (bytes ++ b ∷ [])) ∙ bits_of-append bytes (b ∷ []) ∙ ap (λ (l : List Bool). bits_of bytes ++ l) (bits_of-one b)

-- a part that is filled with zeros
pub part_filled : (fill part : ℕ) → fill < 8 → part < 2 ^ fill → low_bits 8 (part * 2 ^ (8 - fill) % 2 ^ 8) ≡ low_bits fill part ++ replicate (8 - fill) false
part_filled fill part few lt =
    let k : ℕ = 8 - fill in
    let sum : fill + k ≡ 8 = omega arith in
    let n : ℕ = part * 2 ^ k in
    let above : low_bits k (n + 0) ≡ replicate k false = low_bits-above k part 0 ∙ low_bits-zero k in
    let byte : n / 2 ^ 8 * 2 ^ 8 + n % 2 ^ 8 ≡ n = omega arith in
    sym (low_bits-above 8 (n / 2 ^ 8) (n % 2 ^ 8)) ∙ ap (low_bits 8) byte ∙ ap (λ (m : ℕ). low_bits m n) (sym sum)
    ∙ low_bits-add fill k n ∙ ap (λ (m : ℕ). low_bits fill (m / 2 ^ k) ++ low_bits k n) (omega arith)
    ∙ ap (λ (m : ℕ). low_bits fill m ++ low_bits k n) (shr_high part k 0 (pow_pos k))
    ∙ ap (λ (m : ℕ). low_bits fill part ++ low_bits k m) (omega arith) ∙ ap (λ (l : List Bool). low_bits fill part ++ l) above

-- ---- both

pub letter_taken : (xs bytes more : List ℕ) (i fill part f p : ℕ) → i < length xs → get_or xs i 0 ≢ 32 → bits_of bytes ++ low_bits fill part ≡ bits_in (take i xs)
    → bits_of more ++ low_bits f p ≡ bits_of bytes ++ low_bits fill part ++ (get_or xs i 0 == 49) ∷ [] → bits_of more ++ low_bits f p ≡ bits_in (take (i + 1) xs)
letter_taken xs bytes more i fill part f p lt letter so_far is = grind (arith, letter_more)

-- the bits of all letters
all_letters : (xs text : List ℕ) (i : ℕ) (bits : List Bool) → length xs ≤ i → xs ≡ text → bits ≡ bits_in (take i xs) → bits ≡ bits_in text
all_letters xs text i bits end is so_far = so_far ∙ ap bits_in (take_all i xs end ∙ is)

pub end_whole : (xs text bytes : List ℕ) (i fill part : ℕ) → length xs ≤ i → xs ≡ text → fill ≡ 0 → bits_of bytes ++ low_bits fill part ≡ bits_in (take i xs)
    → (k : ℕ) × (k < 8) × (bits_of bytes ≡ bits_in text ++ replicate k false)
unfolding low_bits
end_whole xs text bytes i fill part end is none so_far = grind (arith, append-nil, all_letters)

pub end_filled : (xs text bytes all : List ℕ) (i fill part : ℕ) → length xs ≤ i → xs ≡ text → 0 < fill → fill < 8 → part < 2 ^ fill → bits_of bytes ++ low_bits fill part ≡ bits_in (take i xs)
    → all ≡ bytes ++ part * 2 ^ (8 - fill) % 2 ^ 8 ∷ [] → (k : ℕ) × (k < 8) × (bits_of all ≡ bits_in text ++ replicate k false)
end_filled xs text bytes all i fill part end is some few lt so_far pushed =
    let zeros : List Bool = replicate (8 - fill) false in
    let last : ℕ = part * 2 ^ (8 - fill) % 2 ^ 8 in (
      8 - fill,
      omega arith,
      ap bits_of pushed ∙ bits_of-append bytes (last ∷ []) ∙ ap (λ (l : List Bool). bits_of bytes ++ l) (bits_of-one last ∙ part_filled fill part few lt)
          ∙ sym (append_assoc (bits_of bytes) (low_bits fill part) zeros) ∙ ap (λ (l : List Bool). l ++ zeros) (all_letters xs text i (bits_of bytes ++ low_bits fill part) end is so_far),
    )
