-- A text that goes out.
use Rattle.std.specs.Prelude.{◌≡◌, ◌<◌, ℕ, List, [], ◌∷◌, ◌++◌, length, take, Result, Ok, Err}

-- all of the text at Ok, and else a prefix of it, with something left out
abbrev pub Puts : {E : Type 0} → List ℕ → List ℕ → List ℕ → Result (Unit {0}) E → Type 0
Puts text old new (Ok done) = new ≡ old ++ text
Puts text old new (Err e) = (k : ℕ) × (k < length text) × (new ≡ old ++ take k text)

-- texts, one after the other
abbrev pub joined : List (List ℕ) → List ℕ
joined [] = []
joined (piece ∷ pieces) = piece ++ joined pieces
