-- Bytes that wait in a buffer on their way out.
use Rattle.std.specs.Prelude.{◌≡◌, ◌<◌, ℕ, List, ◌++◌, length, codes, decimal, Result, Ok, Err}

-- Some bytes went out, and the others wait: together they are those that waited, and then the text.
pub record HasPrinted (old new waited text waits : List ℕ) : Type 0 where
  pub out : List ℕ
  pub taken : new ≡ old ++ out
  pub bytes : waited ++ text ≡ out ++ waits

-- Some bytes went out: a prefix of those that waited and of the text, with something left out.
pub record HasPrintedLess (old new waited text : List ℕ) : Type 0 where
  pub out : List ℕ
  pub left : List ℕ
  pub some : 0 < length left
  pub taken : new ≡ old ++ out
  pub bytes : waited ++ text ≡ out ++ left

-- The text is on its way at Ok, and else a prefix of it, with something left out.
abbrev pub Prints : {E : Type 0} → List ℕ → List ℕ → List ℕ → List ℕ → List ℕ → Result (Unit {0}) E → Type 0
Prints text old new waited waits (Ok done) = HasPrinted old new waited text waits
Prints text old new waited waits (Err e) = HasPrintedLess old new waited text

-- a line of two numbers, parted by a space
abbrev pub pair_line : ℕ × ℕ → List ℕ
pair_line pair = decimal pair.0 ++ codes " " ++ decimal pair.1 ++ codes "\n"
