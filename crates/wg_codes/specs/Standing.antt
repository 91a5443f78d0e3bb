-- What stands at some bits, as a function of the bits: the values whose words stand there one after the other.
use Rattle.std.specs.Prelude.{◌≡◌, ℕ, zero, suc, ◌≤◌, Bool, List, [], ◌∷◌, ◌++◌, length, drop}
use Rattle.std.specs.List.{starts_with}
use Rattle.std.proofs.Math.Bool.{beq}
use Rattle.wg_params.specs.declared.code.Code.{Code}
use Rattle.wg_codes.specs.Words.{first_where, word, top}

-- the word of v stands at the bits, with these behind it
abbrev pub IsWord : Code → ℕ → List Bool → List Bool → Type 0
IsWord c v bits behind = (v ≤ top c) × (bits ≡ word c v ++ behind)

-- the value whose word the bits begin with; the greatest, if they begin with none
unfoldable pub value_at : Code → List Bool → ℕ
value_at c bits = first_where (λ v. starts_with beq bits (word c v)) 0 (top c)

-- the bits behind that word
unfoldable pub behind_value : Code → List Bool → List Bool
behind_value c bits = drop (length (word c (value_at c bits))) bits

-- the values of the n words that stand at the bits
unfoldable pub values_at : Code → ℕ → List Bool → List ℕ
values_at c zero bits = []
values_at c (suc n) bits = value_at c bits ∷ values_at c n (behind_value c bits)
