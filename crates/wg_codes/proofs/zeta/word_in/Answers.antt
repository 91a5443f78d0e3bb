use Rattle.std.proofs.Common.{◌≡◌, ℕ, ◌+◌, ◌-◌, ◌*◌, ◌/◌, ◌%◌, ◌^◌, ◌<◌, ◌≤◌, Bool, List, false, length, get_or, arith, refl, sym, ap, ◌∙◌, subst}
use Rattle.std.specs.Int.Count.{count_leading_zeros}
use Rattle.std.proofs.Math.Nat.{div-div-eq-div-mul, mul_comm}
use Rattle.std.proofs.Math.Pow.{pow_mono}
use Rattle.std.proofs.lemmas.Nat.{pow_pos, pow-add, one_shl, div-mul-add, div-add-mod', mod_below, div_below, le-div}
use Rattle.wg_bits.specs.Bits.{low_bits}
use Rattle.wg_bits.proofs.Fronts.{front_agrees}
use Rattle.wg_bits.proofs.LowBits.{length-low_bits}
use Rattle.wg_codes.specs.Words.{zeta}
use Rattle.wg_codes.specs.Windows.{Tells}
use Rattle.wg_codes.proofs.Windows.{field_behind, window_short, window_long}
use Rattle.wg_codes.proofs.ZetaWords.{zeta_top}
use Rattle.wg_codes.proofs.zeta.word_in.Goals.{then-half-one, else-half-one}
use Rattle.wg_codes.proofs.zeta.word_in.Goals as goal

halved : (b p : ℕ) → b / p / 2 ≡ b / 2 / p
halved b p = div-div-eq-div-mul b p 2 ∙ ap (λ m. b / m) (mul_comm p 2) ∙ sym (div-div-eq-div-mul b 2 p)

span : (w k : ℕ) → k ≤ w → w ≤ 64 → 2 ^ (64 - k) ≡ 2 ^ (w - k) * 2 ^ (64 - w)
span w k few most = ap (λ m. 2 ^ m) (let s : 64 - k ≡ w - k + (64 - w) = omega arith in s) ∙ pow-add 2 (w - k) (64 - w)

-- the long form in its short one
short_low : (b w k : ℕ) → k ≤ w → w ≤ 64 → b / 2 < 2 ^ (64 - k) → b / 2 ^ (64 - w) / 2 < 2 ^ (w - k)
short_low b w k few most less =
    subst (λ m. m < 2 ^ (w - k)) (sym (halved b (2 ^ (64 - w)))) (div_below (b / 2) (2 ^ (64 - w)) (2 ^ (w - k)) (pow_pos (64 - w)) (omega (arith, span w k few most)))

long_low : (b w k : ℕ) → k ≤ w → w ≤ 64 → 2 ^ (64 - k) ≤ b / 2 → 2 ^ (w - k) ≤ b / 2 ^ (64 - w) / 2
long_low b w k few most more =
    subst (λ m. 2 ^ (w - k) ≤ m) (sym (halved b (2 ^ (64 - w)))) (le-div (2 ^ (w - k)) (b / 2) (2 ^ (64 - w)) (pow_pos (64 - w)) (omega (arith, span w k few most)))

summed : (b w k : ℕ) → k ≤ w → w ≤ 64 → (b / 2 + 2 ^ (64 - k)) / 2 ^ (64 - w) ≡ 2 ^ (w - k) + b / 2 ^ (64 - w) / 2
summed b w k few most =
    let parts : b / 2 + 2 ^ (64 - k) ≡ (2 ^ (w - k) + b / 2 / 2 ^ (64 - w)) * 2 ^ (64 - w) + b / 2 % 2 ^ (64 - w) =
    omega (arith, div-add-mod' (b / 2) (2 ^ (64 - w)), span w k few most) in
    ap (λ m. m / 2 ^ (64 - w)) parts
    ∙ div-mul-add (2 ^ (w - k) + b / 2 / 2 ^ (64 - w)) (2 ^ (64 - w)) (b / 2 % 2 ^ (64 - w)) (mod_below (b / 2) (2 ^ (64 - w)) (pow_pos (64 - w)))
    ∙ ap (λ m. 2 ^ (w - k) + m) (sym (halved b (2 ^ (64 - w))))

pub overflow_add-number : goal.overflow_add-number
overflow_add-number c =
    let most : 2 ^ (64 - c.args.k) ≤ 2 ^ 63 = pow_mono (let s : 64 - c.args.k ≤ 63 = omega (arith, c.requires.0) in s) in
    omega arith

-- what is taken less one
pub overflow_sub-result-2 : goal.overflow_sub-result-2
overflow_sub-result-2 c =
    let width : ℕ = count_leading_zeros 64 c.args.window * c.args.k + c.args.k in
    let one : 1 * 2 ^ (64 - c.args.k) % 2 ^ 64 ≡ 2 ^ (64 - c.args.k) = one_shl (64 - c.args.k) 64 (omega (arith, c.requires.0)) in
    let least : 2 ^ (64 - width) ≤ 2 ^ (64 - c.args.k) = pow_mono (let s : 64 - width ≤ 64 - c.args.k = omega arith in s) in
    le-div 1 c.if-half-one.number.0 (2 ^ (64 - width)) (pow_pos (64 - width)) (elim c.if-half-one.branch [
      | then-half-one w ↦ subst (λ (p : ℕ × ℕ). 1 * 2 ^ (64 - width) ≤ p.0) (sym w.number-is) (omega (arith, one, least))
      | else-half-one w ↦ subst (λ (p : ℕ × ℕ). 1 * 2 ^ (64 - width) ≤ p.0) (sym w.number-is) (omega (arith, one, least, w.if-half-one.false))
    ])

pub returns : goal.returns
returns c =
    let head : ℕ = count_leading_zeros 64 c.args.window in
    let width : ℕ = count_leading_zeros 64 c.args.window * c.args.k + c.args.k in
    let behind : ℕ = c.args.window * 2 ^ count_leading_zeros 64 c.args.window % 2 ^ 64 * 2 % 2 ^ 64 in
    let long : ℕ = c.args.window * 2 ^ count_leading_zeros 64 c.args.window % 2 ^ 64 * 2 % 2 ^ 64 / 2 ^ (64 - width) in
    let field = field_behind c.args.window head width c.ranges.window.fits refl (omega arith) in
    let one : 1 * 2 ^ (64 - c.args.k) % 2 ^ 64 ≡ 2 ^ (64 - c.args.k) = one_shl (64 - c.args.k) 64 (omega (arith, c.requires.0)) in
    let few : c.args.k ≤ width = omega arith in
    let most : width ≤ 64 = omega arith in
    let least : 2 ^ (width - c.args.k) ≡ 2 ^ (head * c.args.k) = ap (λ m. 2 ^ m) (let s : width - c.args.k ≡ head * c.args.k = omega arith in s) in
    elim c.if-half-one.branch [
      | then-half-one w ↦
          let less : behind / 2 < 2 ^ (64 - c.args.k) = omega (arith, one, w.if-half-one.true) in
          let is : (behind / 2 + 1 * 2 ^ (64 - c.args.k) % 2 ^ 64) / 2 ^ (64 - width) ≡ 2 ^ (head * c.args.k) + long / 2 =
          ap (λ m. (behind / 2 + m) / 2 ^ (64 - width)) one ∙ summed behind width c.args.k few most ∙ ap (λ m. m + long / 2) least in
          let short = λ (z : List Bool) (agrees : (i : ℕ) → i < 64 → get_or (low_bits 64 c.args.window) i false ≡ get_or z i false) (enough : head + width ≤ length z).
          window_short z c.args.k c.args.window head (2 ^ (head * c.args.k)) long c.requires.0 c.requires.1 c.ranges.window.fits refl (omega arith) refl field (subst (λ m. long / 2 < m) least (short_low behind width c.args.k few most less)) agrees enough in
          subst (λ p. Tells (zeta c.args.k) (zeta_top c.args.k) c.args.window (record { value = p.0 / 2 ^ (64 - width) - 1; bits = p.1 })) (sym w.number-is)
          (subst (λ m. Tells (zeta c.args.k) (zeta_top c.args.k) c.args.window (record { value = m - 1; bits = head + width })) (sym is) (record {
            few = omega arith;
            size = (short (low_bits 64 c.args.window) (λ i l. refl) (omega (arith, length-low_bits 64 c.args.window))).1;
            read = λ z front enough. (short z (front_agrees _ z front) enough).0;
          }))
      | else-half-one w ↦
          let more : 2 ^ (64 - c.args.k) ≤ behind / 2 = omega (arith, one, w.if-half-one.false) in
          let all = λ (z : List Bool) (agrees : (i : ℕ) → i < 64 → get_or (low_bits 64 c.args.window) i false ≡ get_or z i false) (enough : head + width + 1 ≤ length z).
          window_long z c.args.k c.args.window head (2 ^ (head * c.args.k)) long c.requires.0 c.requires.1 c.ranges.window.fits refl (omega arith) refl field (subst (λ m. m ≤ long / 2) least (long_low behind width c.args.k few most more)) agrees enough in
          subst (λ p. Tells (zeta c.args.k) (zeta_top c.args.k) c.args.window (record { value = p.0 / 2 ^ (64 - width) - 1; bits = p.1 })) (sym w.number-is) (record {
            few = omega arith;
            size = (all (low_bits 64 c.args.window) (λ i l. refl) (omega (arith, length-low_bits 64 c.args.window))).1;
            read = λ z front enough. (all z (front_agrees _ z front) enough).0;
          })
    ]
