use Rattle.std.proofs.Common.{[]}
use Rattle.wg_io.proofs.stream.StdSinkSink.write.Goals as goal

pub returns-in-Err-clause-later : goal.returns-in-Err-clause-later
returns-in-Err-clause-later g c = rw (← c.self.view_is) ((c.refused_write.ensures.later.write_faults [], c.refused_write.ensures.later.wants []))
