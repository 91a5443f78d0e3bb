use Rattle.std.proofs.Common.{rules}
use Rattle.wg_io.proofs.tally.Tally.refused_read.Goals as goal

pub returns-in-NotFound-clause-absent : goal.returns-in-NotFound-clause-absent
returns-in-NotFound-clause-absent c = search rules
