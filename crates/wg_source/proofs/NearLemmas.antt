-- The bytes of a word among those that are held.
use Rattle.std.proofs.Common.{◌≡◌, ℕ, ◌+◌, ◌-◌, ◌*◌, ◌<◌, ◌≤◌, Bool, false, List, ◌++◌, length, take, drop, get_or, refl, sym, ◌∙◌, ap, arith, length-drop}
use Rattle.std.proofs.Math.Seq.{drop-append-add}
use Rattle.std.proofs.lemmas.List.{drop-append-le, take-append-drop, drop-take, take-take, length-take-le, get_or_append_left}
use Rattle.wg_bits.specs.Bits.{bits_of, low_bits, front}
use Rattle.wg_bits.proofs.Fronts.{front_from}
use Rattle.wg_bits.proofs.LowBits.{length-low_bits}
use Rattle.wg_bits.proofs.Words.{length-bits_of}
use Rattle.wg_bits.proofs.Writes.{bits_of-append}
use Rattle.wg_codes.specs.declared.outcome.Word.{Word}
use Rattle.wg_codes.specs.declared.outcome.Read.TheVariants.{Value}
use Rattle.wg_codes.specs.Reading.{Reads}
use Rattle.wg_codes.specs.Windows.{Tells}

-- the bits from one on, within so many bytes from its own byte on and behind them
pub near_bits : (bytes : List ℕ) (n from skip word : ℕ) → from + word ≤ n → n ≤ length bytes → skip ≤ 8 * word
    → drop (8 * from + skip) (bits_of (take n bytes)) ≡ drop skip (bits_of (take word (drop from bytes))) ++ bits_of (drop word (drop from (take n bytes)))
near_bits bytes n from skip word fits few less =
    let size : length (take n bytes) ≡ n = length-take-le n bytes few in
    let before : length (take from (take n bytes)) ≡ from = length-take-le from (take n bytes) (omega (arith, size)) in
    let place : 8 * from + skip ≡ length (bits_of (take from (take n bytes))) + skip = omega (arith, length-bits_of (take from (take n bytes)), before) in
    let split : bits_of (take n bytes) ≡ bits_of (take from (take n bytes)) ++ bits_of (drop from (take n bytes)) =
    ap bits_of (sym (take-append-drop from (take n bytes))) ∙ bits_of-append (take from (take n bytes)) (drop from (take n bytes)) in
    let sum : n ≡ from + (n - from) = omega arith in
    let rest : drop from (take n bytes) ≡ take (n - from) (drop from bytes) = ap (λ k. drop from (take k bytes)) sum ∙ drop-take from (n - from) bytes in
    let near : take word (drop from (take n bytes)) ≡ take word (drop from bytes) =
    ap (take word) rest ∙ take-take word (n - from) (drop from bytes) (omega arith) in
    let long : length (take word (drop from bytes)) ≡ word = length-take-le word (drop from bytes) (omega (arith, length-drop from bytes)) in
    let cut : bits_of (drop from (take n bytes)) ≡ bits_of (take word (drop from bytes)) ++ bits_of (drop word (drop from (take n bytes))) =
    ap bits_of (sym (take-append-drop word (drop from (take n bytes)))) ∙ bits_of-append (take word (drop from (take n bytes))) (drop word (drop from (take n bytes)))
    ∙ ap (λ (x : List ℕ). bits_of x ++ bits_of (drop word (drop from (take n bytes)))) near in
    ap (λ k. drop k (bits_of (take n bytes))) place ∙ ap (drop (length (bits_of (take from (take n bytes))) + skip)) split
    ∙ drop-append-add (bits_of (take from (take n bytes))) (bits_of (drop from (take n bytes))) skip
    ∙ ap (drop skip) cut
    ∙ drop-append-le skip (bits_of (take word (drop from bytes))) (bits_of (drop word (drop from (take n bytes)))) (omega (arith, length-bits_of (take word (drop from bytes)), long))

-- how many bits they have
pub length-near : (bytes : List ℕ) (n from word : ℕ) → from + word ≤ n → n ≤ length bytes → length (bits_of (take word (drop from bytes))) ≡ 8 * word
length-near bytes n from word fits few =
    let long : length (take word (drop from bytes)) ≡ word = length-take-le word (drop from bytes) (omega (arith, length-drop from bytes)) in
    omega (arith, length-bits_of (take word (drop from bytes)), long)

-- so many bits of a list are its front
front_take : (n : ℕ) (z : List Bool) → n ≤ length z → z ≡ front n z ++ drop n z
front_take n z few =
    let long : length (take n z) ≡ n = length-take-le n z few in
    let same : take n z ≡ front n z = front_from n z (take n z) long (λ i l. sym (get_or_append_left (take n z) (drop n z) false i (omega (arith, long))) ∙ ap (λ x. get_or x i false) (take-append-drop n z)) in
    sym (take-append-drop n z) ∙ ap (λ x. x ++ drop n z) same

-- a word that 64 bits tell stands where its own bits are those bits
pub told_here : (words : ℕ → List Bool) (most near known : ℕ) (z : List Bool) → known ≤ length z → ((i : ℕ) → i < known → get_or (low_bits 64 near) i false ≡ get_or z i false)
    → (w : Word) → Tells words most near w → w.bits ≤ known → Reads words most z (Value w.value)
told_here words most near known z long agrees w tells within =
    let found = tells.read (low_bits 64 near) (front_from 64 _ _ (length-low_bits 64 near) (λ i l. refl)) (omega (arith, tells.few, length-low_bits 64 near)) in
    let fronts : words w.value ≡ front w.bits z =
    front_from w.bits z (words w.value) (sym tells.size) (λ i l.
    sym (get_or_append_left (words w.value) found.1.0 false i (omega (arith, tells.size))) ∙ ap (λ x. get_or x i false) (sym found.1.1) ∙ agrees i (omega arith)) in
    (found.0, (drop w.bits z, front_take w.bits z (omega (arith, long, within)) ∙ ap (λ x. x ++ drop w.bits z) (sym fronts)))
