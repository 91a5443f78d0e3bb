-- Bits that are at hand as a number, and the words that they tell.
use Rattle.std.proofs.Common.{◌≡◌, ℕ, zero, suc, ◌+◌, ◌-◌, ◌*◌, ◌/◌, ◌%◌, ◌^◌, ◌<◌, ◌≤◌, Bool, false, List, [], ◌∷◌, ◌++◌, length, drop, get_or, refl, sym, ap, ◌∙◌, arith, length-append, append_assoc}
use Rattle.std.proofs.Math.ListN.{replicate}
use Rattle.std.proofs.Math.Nat.{div-mul-le_self, mul_comm}
use Rattle.std.proofs.Math.Pow.{pow_mono}
use Rattle.std.proofs.lemmas.Nat.{pow_pos}
use Rattle.std.proofs.lemmas.List.{drop_at, get_or-drop, get_or_append_left}
use Rattle.wg_params.specs.declared.code.Code.{Code}
use Rattle.wg_params.specs.declared.code.Code.TheVariants.{Unary, Gamma, Delta, Zeta, Nibble}
use Rattle.wg_params.specs.Codes.{IsCode}
use Rattle.wg_bits.specs.Bits.{low_bits, front}
use Rattle.wg_bits.proofs.Fronts.{front_from, front_agrees}
use Rattle.wg_bits.proofs.LowBits.{length-low_bits}
use Rattle.wg_bits.proofs.Words.{shift_at}
use Rattle.wg_codes.specs.declared.outcome.Word.{Word}
use Rattle.wg_codes.specs.Words.{word, top}
use Rattle.wg_codes.specs.Reading.{Begins}
use Rattle.wg_codes.specs.Standing.{IsWord}
use Rattle.wg_codes.specs.Windows.{Tells}
use Rattle.wg_codes.proofs.Standing.{read_one}
use Rattle.wg_decoder.specs.Proper.Near.{IsNear}

-- bits that were loaded
pub near_all : (near : ℕ) (z : List Bool) → low_bits 64 near ≡ front 64 z → IsNear near 64 z
near_all near z e = (omega arith, front_agrees near z e)

-- bits that are passed
pub near_passed : (near known by : ℕ) (z : List Bool) → IsNear near known z → by < known → IsNear (near * 2 ^ by % 2 ^ 64) (known - by) (drop by z)
near_passed near known by z is few = (
  omega (arith, is.0),
  λ i l. shift_at near by i (omega (arith, is.0)) ∙ is.1 (by + i) (omega arith) ∙ sym (get_or-drop by z i false),
)

-- bits with enough zeros behind them begin with their front
front_begins : (n m : ℕ) (z : List Bool) → n ≤ m → Begins (front n z) (z ++ replicate m false)
unfolding front
front_begins zero m z l = (z ++ replicate m false, refl)
front_begins (suc n) zero [] l = absurd (omega arith)
front_begins (suc n) (suc m) [] l = let r = front_begins n m [] (omega arith) in (r.0, ap (λ x. false ∷ x) r.1)
front_begins (suc n) m (b ∷ z) l = let r = front_begins n m z (omega arith) in (r.0, ap (λ x. b ∷ x) r.1)

-- the word that the bits at hand tell is the one that stands there
pub told : (c : Code) → IsCode c → (v : ℕ) (z behind : List Bool) → IsWord c v z behind
    → (near known : ℕ) → IsNear near known z → (w : Word) → Tells (word c) (top c) near w → w.bits ≤ known
    → (v ≡ w.value) × (w.bits ≤ length z) × (behind ≡ drop w.bits z)
told c is v z behind stand near known agrees w tells within =
    let bits : List Bool = low_bits 64 near in
    let zeros : List Bool = replicate 64 false in
    let found = tells.read (low_bits 64 near) (front_from 64 _ _ (length-low_bits 64 near) (λ i l. refl)) (omega (arith, tells.few, length-low_bits 64 near)) in
    let fronts : word c w.value ≡ front w.bits z =
    front_from w.bits z (word c w.value) (sym tells.size) (λ i l.
    sym (get_or_append_left (word c w.value) found.1.0 false i (omega (arith, tells.size))) ∙ ap (λ x. get_or x i false) (sym found.1.1) ∙ agrees.1 i (omega arith)) in
    let longer = front_begins w.bits 64 z tells.few in
    let here : z ++ replicate 64 false ≡ word c w.value ++ longer.0 = longer.1 ∙ ap (λ x. x ++ longer.0) (sym fronts) in
    let wider : IsWord c v (z ++ replicate 64 false) (behind ++ replicate 64 false) =
    (stand.0, ap (λ x. x ++ replicate 64 false) stand.1 ∙ append_assoc (word c v) behind (replicate 64 false)) in
    let one : v ≡ w.value = (read_one c is v w.value _ (behind ++ replicate 64 false) longer.0 wider found.0 here).0 in
    let first : z ≡ word c w.value ++ behind = stand.1 ∙ ap (λ (k : ℕ). word c k ++ behind) one in
    let size : length z ≡ length (word c w.value) + length behind = ap length first ∙ length-append (word c w.value) behind in
    (one, omega (arith, tells.size, size), sym (ap (drop w.bits) first ∙ drop_at (word c w.value) behind w.bits (sym tells.size)))

pub top_short : (c : Code) → IsCode c → top c < 2 ^ 63
top_short Unary is = omega arith
top_short Gamma is = omega arith
top_short Delta is = omega arith
top_short Nibble is = omega arith
top_short (Zeta k) is =
    let turn : k * (63 / k) ≡ 63 / k * k = mul_comm k (63 / k) in
    let fits : 63 / k * k ≤ 63 = div-mul-le_self 63 k in
    let big : 2 ^ (k * (63 / k)) ≤ 2 ^ 63 = pow_mono (let s : k * (63 / k) ≤ 63 = omega arith in s) in
    let pos : 0 < 2 ^ (k * (63 / k)) = pow_pos (k * (63 / k)) in
    omega arith
