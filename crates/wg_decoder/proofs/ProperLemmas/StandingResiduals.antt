-- The residuals that stand at bits.
use Rattle.std.proofs.Common.{◌≡◌, ℕ, zero, suc, ◌-◌, ◌^◌, ◌<◌, ◌≤◌, Bool, List, [], ◌∷◌, length, Option, Some, refl, sym, ap, subst, ◌∙◌, arith}
use Rattle.wg_params.specs.declared.code.Code.{Code}
use Rattle.wg_params.specs.Codes.{IsCode}
use Rattle.wg_grammar.specs.SoFar.{value_or_0}
use Rattle.wg_codes.specs.Standing.{value_at, behind_value, IsWord}
use Rattle.wg_codes.proofs.Standing.{value_is, behind_is}
use Rattle.wg_codes.specs.Fold.{number_of_gap}
use Rattle.wg_decoder.specs.Proper.Remaining.{residuals_at, behind_values}
use Rattle.wg_decoder.specs.Proper.Laid.{IsResidual, ResidualsTo}
use Rattle.wg_decoder.proofs.ProperLemmas.Taking.{Takes}

-- the first of them, and the others
first_at : (c : Code) → IsCode c → (page : ℕ) (last : Option ℕ) (n y : ℕ) (z behind : List Bool) → IsResidual c page last y z behind → residuals_at c page last (suc n) z ≡ y ∷ residuals_at c page (Some y) n behind
unfolding residuals_at
first_at c is page last n y z behind r =
    let own : value_or_0 (number_of_gap page last (value_at c z)) ≡ y = ap (λ (k : ℕ). value_or_0 (number_of_gap page last k)) (value_is c is r.v z behind r.word) ∙ ap value_or_0 r.means in
    let after : behind_value c z ≡ behind = behind_is c is r.v z behind r.word in
    ap (λ (k : ℕ). k ∷ residuals_at c page (Some k) n (behind_value c z)) own ∙ ap (λ (l : List Bool). y ∷ residuals_at c page (Some y) n l) after

residuals_on : (c : Code) → IsCode c → (page : ℕ) (last : Option ℕ) (ys : List ℕ) (z behind : List Bool) → ResidualsTo c page last ys z behind → residuals_at c page last (length ys) z ≡ ys
unfolding residuals_at
residuals_on c is page last [] z behind h = refl
residuals_on c is page last (y ∷ ys) z behind h = first_at c is page last (length ys) y z h.0 h.1 ∙ ap (λ (l : List ℕ). y ∷ l) (residuals_on c is page (Some y) ys h.0 behind h.2)

pub residuals_is : (c : Code) → IsCode c → (page : ℕ) (last : Option ℕ) (n : ℕ) (ys : List ℕ) (z behind : List Bool) → length ys ≡ n → ResidualsTo c page last ys z behind → residuals_at c page last n z ≡ ys
residuals_is c is page last n ys z behind len h = subst (λ (k : ℕ). residuals_at c page last k z ≡ ys) len (residuals_on c is page last ys z behind h)

-- and what stands behind them
behind_on : (c : Code) → IsCode c → (page : ℕ) (last : Option ℕ) (ys : List ℕ) (z behind : List Bool) → ResidualsTo c page last ys z behind → behind_values c (length ys) z ≡ behind
unfolding behind_values
behind_on c is page last [] z behind h = sym h
behind_on c is page last (y ∷ ys) z behind h = ap (λ (l : List Bool). behind_values c (length ys) l) (behind_is c is h.1.v z h.0 h.1.word) ∙ behind_on c is page (Some y) ys h.0 behind h.2

pub behind_all : (c : Code) → IsCode c → (page : ℕ) (last : Option ℕ) (n : ℕ) (ys : List ℕ) (z behind : List Bool) → length ys ≡ n → ResidualsTo c page last ys z behind → behind_values c n z ≡ behind
behind_all c is page last n ys z behind len h = subst (λ (k : ℕ). behind_values c k z ≡ behind) len (behind_on c is page last ys z behind h)

-- none if none is left
pub none_at : (c : Code) (page : ℕ) (last : Option ℕ) (n : ℕ) (z : List Bool) → n ≡ 0 → residuals_at c page last n z ≡ []
unfolding residuals_at
none_at c page last zero z none = refl
none_at c page last (suc n) z none = absurd (omega (arith, none))

-- so many stand at the bits
abbrev pub Left : Code → ℕ → Option ℕ → ℕ → List Bool → Type 0
Left c page last n z = (ys : List ℕ) × (behind : List Bool) × (length ys ≡ n) × ResidualsTo c page last ys z behind

pub first_word : (c : Code) (page : ℕ) (last : Option ℕ) (n : ℕ) (z : List Bool) → 0 < n → Left c page last n z → (v : ℕ) × (behind : List Bool) × IsWord c v z behind
first_word c page last n z some ([], end, len, h) = absurd (omega (arith, some, len))
first_word c page last n z some (y ∷ ys, end, len, h) = (h.1.v, h.0, h.1.word)

pub means_page : (c : Code) (page : ℕ) (last : Option ℕ) (n : ℕ) (old new : List Bool) (w : ℕ) → Takes c old new w → 0 < n → Left c page last n old → (y : ℕ) × (y ≤ 2 ^ 62) × (number_of_gap page last w ≡ Some y)
means_page c page last n old new w takes some ([], end, len, h) = absurd (omega (arith, some, len))
means_page c page last n old new w takes some (y ∷ ys, end, len, h) =
    let e = takes h.1.v h.0 h.1.word in (y, omega (arith, h.1.low), ap (number_of_gap page last) (sym e.0) ∙ h.1.means)

same_number : (c : Code) (page : ℕ) (last : Option ℕ) (y number : ℕ) (old new behind : List Bool) (w : ℕ) → Takes c old new w → number_of_gap page last w ≡ Some number → IsResidual c page last y old behind → y ≡ number
same_number c page last y number old new behind w takes is r =
    let e = takes r.v behind r.word in
    ap value_or_0 (sym r.means ∙ ap (number_of_gap page last) e.0 ∙ is)

pub left_behind : (c : Code) (page : ℕ) (last : Option ℕ) (n : ℕ) (old new : List Bool) (w number : ℕ) → Takes c old new w → 0 < n → number_of_gap page last w ≡ Some number → Left c page last n old → Left c page (Some number) (n - 1) new
left_behind c page last n old new w number takes some is ([], end, len, h) = absurd (omega (arith, some, len))
left_behind c page last n old new w number takes some is (y ∷ ys, end, len, h) =
    let e = takes h.1.v h.0 h.1.word in
    (ys, end, omega (arith, len), subst (λ (k : ℕ). ResidualsTo c page (Some k) ys new end) (same_number c page last y number old new h.0 w takes is h.1) (subst (λ (l : List Bool). ResidualsTo c page (Some y) ys l end) e.1 h.2))

pub given : (c : Code) → IsCode c → (page : ℕ) (last : Option ℕ) (n : ℕ) (old new : List Bool) (w number : ℕ) → Takes c old new w → 0 < n → number_of_gap page last w ≡ Some number → Left c page last n old
    → residuals_at c page last n old ≡ number ∷ residuals_at c page (Some number) (n - 1) new
given c is page last n old new w number takes some is_number ([], end, len, h) = absurd (omega (arith, some, len))
given c is page last n old new w number takes some is_number (y ∷ ys, end, len, h) =
    let e = takes h.1.v h.0 h.1.word in
    let count : n ≡ suc (n - 1) = omega (arith, some) in
    ap (λ (k : ℕ). residuals_at c page last k old) count ∙ first_at c is page last (n - 1) y old h.0 h.1
    ∙ ap (λ (l : List Bool). y ∷ residuals_at c page (Some y) (n - 1) l) e.1
    ∙ ap (λ (k : ℕ). k ∷ residuals_at c page (Some k) (n - 1) new) (same_number c page last y number old new h.0 w takes is_number h.1)

-- what stands behind all of them stays if one is given
pub behind_same : (c : Code) → IsCode c → (page : ℕ) (last : Option ℕ) (n : ℕ) (old new : List Bool) (w : ℕ) → Takes c old new w → 0 < n → Left c page last n old → behind_values c n old ≡ behind_values c (n - 1) new
unfolding behind_values
behind_same c is page last n old new w takes some ([], end, len, h) = absurd (omega (arith, some, len))
behind_same c is page last n old new w takes some (y ∷ ys, end, len, h) =
    let e = takes h.1.v h.0 h.1.word in
    let count : n ≡ suc (n - 1) = omega (arith, some) in
    ap (λ (k : ℕ). behind_values c k old) count ∙ ap (λ (l : List Bool). behind_values c (n - 1) l) (behind_is c is h.1.v old h.0 h.1.word ∙ e.1)

-- if no residual is left, these are the bits that stand there
pub behind_none : (c : Code) (page : ℕ) (last : Option ℕ) (n : ℕ) (z : List Bool) → residuals_at c page last n z ≡ [] → behind_values c n z ≡ z
unfolding behind_values residuals_at
behind_none c page last zero z none = refl
behind_none c page last (suc n) z none = absurd cc
