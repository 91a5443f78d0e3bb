use Rattle.std.proofs.Common.{List, ℕ, Bool}
use Rattle.wg_params.specs.Parameters.{Parameters}
use Rattle.wg_stream.specs.Sweeping.{PassFinds}
use Rattle.wg_memory.specs.Checking.{IsSound}
use Rattle.wg_memory.proofs.checking.check.Goals as goal

sound : (p : Parameters) (bits : List Bool) (offsets : List ℕ) (greatest : ℕ) → PassFinds p bits offsets greatest → IsSound p bits
sound p bits offsets greatest finds = (record { graph = finds.0; places = offsets }, finds.1)

pub returns-clause-sound : goal.returns-clause-sound
returns-clause-sound c = sound _ _ _ _ c.in_ok-pass.ensures.finds
