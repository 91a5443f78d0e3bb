-- What contracts see of a mask: the blocks from the position that it has reached on.
use Rattle.std.specs.Prelude.{ℕ, Bool, true, false, List, [], ◌∷◌, Option, Some, None}
use Rattle.wg_params.specs.declared.code.Code.{Code}
use Rattle.wg_codes.specs.Standing.{values_at}
use Rattle.wg_blocks.specs.Stored.{later_blocks}

-- the lengths of the runs, if so much is left of the first, and these values are stored for the others; a first run
-- without an end is not listed
abbrev pub runs_of : Option ℕ → List ℕ → List ℕ
runs_of None values = []
runs_of (Some n) values = n ∷ later_blocks values

-- blocks begin with a run that is copied, which is empty if the first run is skipped
abbrev pub begun_by : Bool → List ℕ → List ℕ
begun_by true runs = runs
begun_by false runs = 0 ∷ runs

-- the blocks that are left, if the values of so many stand at the bits
abbrev pub blocks_ahead : Code → ℕ → Option ℕ → Bool → List Bool → List ℕ
blocks_ahead code left run copied bits = begun_by copied (runs_of run (values_at code left bits))
