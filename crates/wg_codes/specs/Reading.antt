-- What stands at some bits, for any family of words.
use Rattle.std.specs.Prelude.{◌≡◌, ℕ, ◌<◌, ◌≤◌, Bool, List, ◌++◌, length}
use Rattle.wg_bits.specs.Bits.{Position, rest, moved}
use Rattle.wg_codes.specs.declared.outcome.Read.{Read}
use Rattle.wg_codes.specs.declared.outcome.Read.TheVariants.{Value, Cut, NoWord}

-- z begins with w
abbrev pub Begins : List Bool → List Bool → Type 0
Begins w z = (t : List Bool) × (z ≡ w ++ t)

-- w begins with z, and is longer
abbrev pub ProperlyBegins : List Bool → List Bool → Type 0
ProperlyBegins z w = (t : List Bool) × (0 < length t) × (w ≡ z ++ t)

-- What stands at the bits z, if the words are those of the values up to most: the word of v; or a proper
-- prefix of some word and nothing more; or neither.
abbrev pub Reads : (ℕ → List Bool) → ℕ → List Bool → Read → Type 0
Reads words most z (Value v) = (v ≤ most) × Begins (words v) z
Reads words most z Cut = (v : ℕ) × (v ≤ most) × ProperlyBegins z (words v)
Reads words most z NoWord = (v : ℕ) → v ≤ most → (¬ Begins (words v) z) × (¬ ProperlyBegins z (words v))

-- the offset after the word that was read, or the same offset if none was
abbrev pub after : (ℕ → List Bool) → Position → Read → Position
after words p (Value v) = moved p (length (words v))
after words p Cut = p
after words p NoWord = p

-- A value's word is what stands between the two places; else they are one.
abbrev pub Passes : (ℕ → List Bool) → Position → Position → Read → Type 0
Passes words p q (Value v) = rest p ≡ words v ++ rest q
Passes words p q Cut = rest p ≡ rest q
Passes words p q NoWord = rest p ≡ rest q
