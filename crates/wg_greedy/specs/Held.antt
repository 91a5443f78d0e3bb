-- What a file holds of a text.
use Rattle.std.specs.Prelude.{◌≡◌, ℕ, ◌<◌, ◌^◌, List, length, take, All, Option, Some}

-- each number is a byte
abbrev pub AreBytes : List ℕ → Type 0
AreBytes bytes = All (λ b. b < 2 ^ 8) bytes

-- the file holds a prefix of a text
abbrev pub HoldsFront : Option (List ℕ) → List ℕ → Type 0
HoldsFront file text = (k : ℕ) × (file ≡ Some (take k text))

-- the file holds a proper prefix of a text
abbrev pub HoldsLess : Option (List ℕ) → List ℕ → Type 0
HoldsLess file text = (k : ℕ) × (k < length text) × (file ≡ Some (take k text))
