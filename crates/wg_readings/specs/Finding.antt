-- A file that was found, of which parts are read.
use Rattle.std.specs.Prelude.{◌≡◌, ℕ, ◌≤◌, List, length, Option, Some}
use Rattle.wg_outside.specs.declared.limits.TheConstants.{MOST_BYTES}
use Rattle.wg_source.specs.Held.{HeldBytes, IsHeldOf}

-- the file is there, and no longer than the limit, and what is held is a part of it
pub record IsOpenOn (found : Option (List ℕ)) (h : HeldBytes) : Type 0 where
  pub file : List ℕ
  pub is : found ≡ Some file
  pub short : length file ≤ MOST_BYTES
  pub held : IsHeldOf file h
