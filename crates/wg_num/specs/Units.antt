-- The texts of parts of 1, in units of 10^-24.
use Rattle.std.specs.Prelude.{ℕ, zero, suc, ◌+◌, ◌/◌, ◌%◌, ◌^◌, nat_le, ◌&&◌, if◌then◌else◌, List, [], ◌∷◌, ◌++◌, take, drop, Option, Some, None}
use Rattle.std.specs.Str.{bytes_eq}
use Rattle.std.specs.Str.Parse.{digits_value}
use Rattle.wg_num.specs.declared.units.TheConstants.{UNITS}

-- the last k decimal digits of v, the highest first
abbrev pub last_digits : ℕ → ℕ → List ℕ
last_digits zero v = []
last_digits (suc k) v = (48 + v / 10 ^ k % 10) ∷ last_digits k v

-- v units as a decimal: the whole part, a point, 24 digits
unfoldable pub text_of_units : ℕ → List ℕ
text_of_units v = (48 + v / UNITS) ∷ 46 ∷ last_digits 24 v

-- what the first byte and those after the second write as decimal digits
abbrev pub value_of_units : List ℕ → ℕ
value_of_units text = digits_value 10 (take 1 text ++ drop 2 text)

-- the units, at most 1 whole, whose text this is
unfoldable pub units_of : List ℕ → Option ℕ
units_of text =
    if nat_le (value_of_units text) UNITS && bytes_eq (text_of_units (value_of_units text)) text
    then Some (value_of_units text) else None
