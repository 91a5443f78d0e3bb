use Rattle.std.proofs.Common.{◌^◌}
use Rattle.wg_encoder.proofs.Low.{extras_ascend, extras_low}
use Rattle.wg_encoder.proofs.common.room_after_extras.Goals as goal

pub room_after_residuals-requires-clause-low : goal.room_after_residuals-requires-clause-low
room_after_residuals-requires-clause-low c = extras_low (2 ^ 62) c.args.list.now c.requires.common.0 _ (c.of-extras.ensures c.requires.common.0 c.requires.common.1.ours) c.requires.low

pub room_after_runs-requires-clause-up : goal.room_after_runs-requires-clause-up
room_after_runs-requires-clause-up c = extras_ascend c.args.list.now c.requires.common.0 _ (c.of-extras.ensures c.requires.common.0 c.requires.common.1.ours) c.requires.list

pub room_after_runs-requires-clause-low : goal.room_after_runs-requires-clause-low
room_after_runs-requires-clause-low c = extras_low (2 ^ 62) c.args.list.now c.requires.common.0 _ (c.of-extras.ensures c.requires.common.0 c.requires.common.1.ours) c.requires.low
