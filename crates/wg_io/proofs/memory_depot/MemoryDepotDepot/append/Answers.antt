use Rattle.std.proofs.Common.{arith}
use Rattle.wg_io.proofs.memory_depot.MemoryDepotDepot.append.Goals as goal

pub returns-clause-later : goal.returns-clause-later
returns-clause-later c =
    rw (← c.self.view_is) (record { read_faults = λ n. omega arith; write_faults = λ n. omega arith; absences = c.append.ensures.later.absences; wants = c.append.ensures.later.wants })
