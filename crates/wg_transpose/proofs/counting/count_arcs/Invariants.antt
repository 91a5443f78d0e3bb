use Rattle.std.proofs.Common.{take}
use Rattle.wg_transpose.proofs.Steps.{HaveOneMore}
use Rattle.wg_transpose.proofs.counting.count_arcs.Given as goal

abbrev pub invariant-loop-target : goal.invariant-loop-target
invariant-loop-target l = HaveOneMore (take l.target-index l.list) l.fn.counts l.counts
