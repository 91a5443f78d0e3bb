-- How long words may be.
use Rattle.std.proofs.Common.{◌≢◌, ℕ, ◌+◌, ◌-◌, ◌*◌, ◌/◌, ◌^◌, ◌<◌, ◌≤◌, length, refl, ⊎_elim, arith}
use Rattle.std.proofs.lemmas.Bool.{cases_lt}
use Rattle.wg_params.specs.Codes.{IsCode}
use Rattle.wg_params.specs.declared.code.Code.{Code}
use Rattle.wg_params.specs.declared.code.Code.TheVariants.{Unary, Gamma, Delta, Zeta, Nibble}
use Rattle.wg_codes.specs.Words.{word, top, highest}
use Rattle.wg_codes.specs.Laws.{WordsAreShort}
use Rattle.wg_codes.proofs.Highest.{highest_small, highest_below}
use Rattle.wg_codes.proofs.Lengths.{length-gamma, length-delta, length-nibble, head_room, length-zeta_short, length-zeta_long}

-- no word but those of unary has more than 128 bits
pub short_word : (c : Code) (v : ℕ) → IsCode c → c ≢ Unary → v ≤ top c → length (word c v) ≤ 128
short_word Unary v is other fits = absurd (other refl)
short_word Gamma v is other fits = grind (arith, highest_small, length-gamma)
short_word Delta v is other fits =
    let m : ℕ = highest (v + 1) in
    let small : m ≤ 63 = highest_small (v + 1) in
    let head : highest (m + 1) ≤ 6 = highest_below (m + 1) 6 (omega arith) (omega arith) (omega arith) in
    omega (arith, length-delta v m refl, length-gamma m (highest (m + 1)) refl)
short_word (Zeta k) v is other fits =
    let h : ℕ = highest (v + 1) / k in
    let room = head_room k v h is.0 is.1 fits refl in
    ⊎_elim
    (λ (low : v + 1 - 2 ^ (h * k) < 2 ^ (h * k)). omega (arith, length-zeta_short k v h refl is.0 low, room.0, is.0))
    (λ (high : 2 ^ (h * k) ≤ v + 1 - 2 ^ (h * k)). omega (arith, length-zeta_long k v h refl high, room.0, is.0))
    (cases_lt (v + 1 - 2 ^ (h * k)) (2 ^ (h * k)))
short_word Nibble v is other fits = omega (arith, length-nibble v (highest v) fits refl, highest_small v)

pub words_are_short : WordsAreShort
words_are_short c is other v fits = short_word c v is other fits
