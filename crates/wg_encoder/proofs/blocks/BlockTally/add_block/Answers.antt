use Rattle.wg_grammar.specs.declared.fault.Field.TheVariants as field
use Rattle.wg_encoder.proofs.Dues.{block_written}
use Rattle.wg_encoder.proofs.blocks.BlockTally.add_block.Goals as goal

pub returns-then-self-clause-fields : goal.returns-then-self-clause-fields
returns-then-self-clause-fields c = λ blocks. block_written c.args.self.now c.args.room c.room_after.result c.args.block c.stored_block-stored.result blocks c.if-self.true c.stored_block-stored.ensures (c.room_after.ensures field.Block)
