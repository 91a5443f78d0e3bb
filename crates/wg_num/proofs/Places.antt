-- A number's text at the front of a place.
use Rattle.std.proofs.Common.{◌≡◌, ℕ, ◌+◌, ◌*◌, ◌%◌, ◌^◌, ◌<◌, ◌≤◌, List, ◌++◌, length, take, drop, ◌∙◌, ap, ⊎_elim, arith, length-append, length-drop}
use Rattle.std.specs.Fmt.{decimal}
use Rattle.std.proofs.lemmas.Bool.{cases_lt}
use Rattle.std.proofs.lemmas.Fmt.{decimal_by_steps, length-decimal-le}
use Rattle.std.proofs.lemmas.Grind.{pow_more}
use Rattle.std.proofs.lemmas.List.{length_push}
use Rattle.std.proofs.Math.Nat.{pow-le-pow_right}
use Rattle.std.proofs.Math.Seq.{take-append_seam, drop-append_seam}

-- so many digits are enough
below_power : (n : ℕ) → n < 2 ^ 64 → n < 10 ^ length (decimal n)
below_power = decimal_by_steps (λ m ds. m < 10 ^ length ds) (λ m l. l)
    (λ m ds l h. omega (arith, h, pow_more 10 (length ds), ap (λ (k : ℕ). 10 ^ k) (length_push ds (48 + m % 10))))

pub digits_of_power : (k n : ℕ) → 10 ^ k ≤ n → n < 10 * 10 ^ k → n < 2 ^ 64 → length (decimal n) ≡ k + 1
digits_of_power k n low high small =
    let most = length-decimal-le (k + 1) n (omega arith) (omega (arith, high, pow_more 10 k)) small in
    ⊎_elim
    (λ (l : k < length (decimal n)). omega (arith, l, most))
    (λ (l : length (decimal n) ≤ k). let few : 10 ^ length (decimal n) ≤ 10 ^ k = pow-le-pow_right {n = 10} (omega arith) l in absurd (omega (arith, few, low, below_power n small)))
    (cases_lt k (length (decimal n)))

-- digits that end where there are as many bytes before
pub at_front : (old new ds : List ℕ) (r count : ℕ) → r + length ds ≡ count → count ≡ length ds → drop r new ≡ ds ++ drop count old → new ≡ ds ++ drop count old
at_front old new ds r count ends many written = grind arith

pub front_is : (old new ds : List ℕ) (count : ℕ) → count ≡ length ds → new ≡ ds ++ drop count old → take count new ≡ ds
front_is old new ds count many is = ap (λ (l : List ℕ). take count l) is ∙ ap (λ (k : ℕ). take k (ds ++ drop count old)) many ∙ take-append_seam ds (drop count old)

pub length_kept : (old new ds : List ℕ) (count : ℕ) → count ≡ length ds → count ≤ length old → new ≡ ds ++ drop count old → length new ≡ length old
length_kept old new ds count many fits is = omega (arith, ap length is, length-append ds (drop count old), length-drop count old, many, fits)

pub rest_is : (old new ds : List ℕ) (count : ℕ) → count ≡ length ds → new ≡ ds ++ drop count old → drop count new ≡ drop count old
rest_is old new ds count many is = ap (λ (l : List ℕ). drop count l) is ∙ ap (λ (k : ℕ). drop k (ds ++ drop count old)) many ∙ drop-append_seam ds (drop count old)
