use Rattle.std.proofs.Common.{All, take}
use Rattle.wg_io.specs.Held.{IsOther}
use Rattle.wg_io.proofs.held.index_of.Given as goal

-- the name is another's so far
abbrev pub invariant-loop-index : goal.invariant-loop-index
invariant-loop-index l = All (IsOther l.name) (take l.index l.helds)
