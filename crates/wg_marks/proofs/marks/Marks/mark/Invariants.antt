use Rattle.std.proofs.Common.{length, ◌-◌}
use Rattle.wg_marks.proofs.marks.Marks.mark.Given as goal

abbrev pub decreases-loop-place : goal.decreases-loop-place
decreases-loop-place l = length l.list - l.place
