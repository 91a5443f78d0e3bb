use Rattle.std.proofs.Common.{◌-◌, ◌^◌, mod-lt}
use Rattle.std.proofs.Math.Pow.{pow_pos}
use Rattle.wg_marks.proofs.Kept.{left_over, cut_is}
use Rattle.wg_marks.proofs.extras.others.Goals as goal

pub returns-clause-within : goal.returns-clause-within
returns-clause-within c = rw (cut_is _ (2 ^ 64 - 1 - c.args.ours) c.requires.short) (mod-lt (2 ^ 64 - 1 - c.args.ours) (pow_pos _))

pub returns-clause-left : goal.returns-clause-left
returns-clause-left c referenced same = left_over c.args.list.now referenced c.args.ours c.requires.some c.requires.short c.ranges.ours.fits same
