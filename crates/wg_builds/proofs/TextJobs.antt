-- A text that is there while it is read line by line.
use Rattle.std.proofs.Common.{◌≡◌, ℕ, ◌≤◌, List, length, Option, Some, ap, ◌∙◌, arith}
use Rattle.std.specs.FinMap as map
use Rattle.wg_outside.specs.{Outside.Files, declared.limits.TheConstants.MOST_BYTES}
use Rattle.wg_lines.specs.Reading.{IsReadable}

-- ---- a file that is there
found : (o : Option (List ℕ)) → IsReadable o → (file : List ℕ) × (o ≡ Some file) × (length file ≤ MOST_BYTES)
found o h = grind arith

-- and is there still
pub still : (name : List ℕ) (f g : Files) → g ≡ f → IsReadable (map.get f name) → (file : List ℕ) × (map.get f name ≡ Some file) × (length file ≤ MOST_BYTES) × (map.get g name ≡ Some file)
still name f g same r = let x = found (map.get f name) r in (x.0, x.1, x.2, ap (λ (d : Files). map.get d name) same ∙ x.1)
