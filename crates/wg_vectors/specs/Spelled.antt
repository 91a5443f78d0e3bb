-- Bits that are spelled as a text.
use Rattle.std.specs.Prelude.{ℕ, Bool, ◌==◌, if◌then◌else◌, List, [], ◌∷◌}

-- a one for each letter `1`, and a zero for each other letter but blanks
abbrev pub bits_in : List ℕ → List Bool
bits_in [] = []
bits_in (c ∷ cs) = if c == 32 then bits_in cs else (c == 49) ∷ bits_in cs
