use Rattle.wg_greedy.proofs.Extra.{below_at}
use Rattle.wg_encoder.proofs.parts.add_residuals.Goals as goal

pub stored_gap-requires-clause-number : goal.stored_gap-requires-clause-number
stored_gap-requires-clause-number c = below_at _ c.args.residuals.now c.loop-y.y-index c.requires.low c.loop-y-test.true
