-- A word that stands at some bits is the one that is read there, and its value is a function of the bits.
use Rattle.std.proofs.Common.{◌≡◌, ℕ, ◌<◌, ◌≤◌, Bool, true, false, inl, inr, List, ◌++◌, length, drop, refl, ap, arith}
use Rattle.std.proofs.Math.Bool.{beq}
use Rattle.std.specs.Cmp.{booleans_Decides}
use Rattle.std.specs.List.{starts_with}
use Rattle.std.proofs.lemmas.Bool.{cases_Bool}
use Rattle.std.proofs.lemmas.List.{append_cancel_left, drop_at}
use Rattle.std.proofs.lemmas.Slice.Eq.{starts_is}
use Rattle.wg_params.specs.declared.code.Code.{Code}
use Rattle.wg_params.specs.Codes.{IsCode}
use Rattle.wg_codes.specs.declared.outcome.Read.{Read}
use Rattle.wg_codes.specs.declared.outcome.Read.TheVariants.{Value, Cut, NoWord}
use Rattle.wg_codes.specs.Words.{word, top}
use Rattle.wg_codes.specs.Reading.{Reads}
use Rattle.wg_codes.specs.Standing.{IsWord, value_at, behind_value}
use Rattle.wg_codes.proofs.CodeLaws.{words_free, one_result}
use Rattle.wg_codes.proofs.Highest.{first_is}

-- 1 at a value
abbrev number_of : Read → ℕ
number_of (Value v) = 1
number_of Cut = 0
number_of NoWord = 2

pub not_cut : (c : Code) → IsCode c → (v : ℕ) (bits behind : List Bool) → IsWord c v bits behind → Reads (word c) (top c) bits Cut → ⊥
not_cut c is v bits behind stand cut =
    let e : 1 ≡ 0 = ap number_of (one_result c is bits (Value v) Cut (stand.0, (behind, stand.1)) cut) in omega (arith, e)

pub not_none : (c : Code) (v : ℕ) (bits behind : List Bool) → IsWord c v bits behind → Reads (word c) (top c) bits NoWord → ⊥
not_none c v bits behind stand none = (none v stand.0).0 (behind, stand.1)

-- the word that was read is the one that stands there
pub read_one : (c : Code) → IsCode c → (v w : ℕ) (bits behind after : List Bool) → IsWord c v bits behind → w ≤ top c → bits ≡ word c w ++ after → (v ≡ w) × (behind ≡ after)
read_one c is v w bits behind after stand le e = grind (arith, append_cancel_left, words_free)

-- ---- the value as a function of the bits

begins_is : (c : Code) (bits : List Bool) (v : ℕ) → (starts_with beq bits (word c v) ≡ true → bits ≡ word c v ++ drop (length (word c v)) bits) × ((behind : List Bool) → bits ≡ word c v ++ behind → starts_with beq bits (word c v) ≡ true)
begins_is c bits v = starts_is booleans_Decides bits (word c v) (starts_with beq bits (word c v)) refl

not_before : (c : Code) → IsCode c → (v : ℕ) (bits behind : List Bool) → IsWord c v bits behind → (u : ℕ) → u < v → starts_with beq bits (word c u) ≡ false
not_before c is v bits behind stand u lt =
    elim (cases_Bool (starts_with beq bits (word c u))) [
      | inl so ↦
          let e : v ≡ u = (read_one c is v u bits behind _ stand (omega (arith, stand.0)) ((begins_is c bits u).0 so)).0 in
          absurd (omega (arith, e, lt))
      | inr not_so ↦ not_so
    ]

-- the value whose word stands there
pub value_is : (c : Code) → IsCode c → (v : ℕ) (bits behind : List Bool) → IsWord c v bits behind → value_at c bits ≡ v
unfolding value_at
value_is c is v bits behind stand =
    first_is (λ u. starts_with beq bits (word c u)) v 0 (top c) (omega arith) (omega (arith, stand.0)) ((begins_is c bits v).1 behind stand.1) (not_before c is v bits behind stand)

-- what stands behind it
pub behind_is : (c : Code) → IsCode c → (v : ℕ) (bits behind : List Bool) → IsWord c v bits behind → behind_value c bits ≡ behind
unfolding behind_value
behind_is c is v bits behind stand = grind (arith, drop_at, value_is)
