use Rattle.std.proofs.Common.{rules}
use Rattle.wg_transpose.proofs.ranges.range_room.Goals as goal

pub returns-clause-exact : goal.returns-clause-exact
returns-clause-exact c = search rules
