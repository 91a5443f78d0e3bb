use Rattle.std.proofs.Common.{◌≤◌}
use Rattle.wg_blocks.proofs.Made.{Making}
use Rattle.wg_blocks.proofs.blocks.Blocks.refill.Given as goal

abbrev pub invariant-loop-y : goal.invariant-loop-y
invariant-loop-y l = record { short : l.run.length ≤ l.y-index; making : Making l.list l.referenced l.members l.y-index l.run l.self-inside.blocks.items }
