use Rattle.std.proofs.Common.{◌∙◌, ap}
use Rattle.wg_grammar.specs.declared.fault.Field.TheVariants as field
use Rattle.wg_encoder.specs.Cost.{room_after}
use Rattle.wg_encoder.proofs.Dues.{blocks_end}
use Rattle.wg_encoder.proofs.blocks.BlockTally.last.Goals as goal

pub returns-then-self : goal.returns-then-self
returns-then-self c = c.room_after.ensures field.BlockCount ∙ ap (room_after c.args.room) (blocks_end c.args.self.now c.if-self.true)
