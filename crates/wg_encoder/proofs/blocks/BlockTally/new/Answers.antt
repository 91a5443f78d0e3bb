use Rattle.std.proofs.Common.{ltb, refl}
use Rattle.wg_blocks.specs.Canonical.{mask_of}
use Rattle.wg_encoder.proofs.Dues.{blocks_begin, blocks_start}
use Rattle.wg_encoder.proofs.blocks.BlockTally.new.Goals as goal

pub returns-clause-fields : goal.returns-clause-fields
returns-clause-fields c = λ referenced list. blocks_begin c.args.params.now _ c.args.reference referenced list refl c.block_counts.ensures.value c.blocks-2.ensures.value refl (c.first.ensures.blocks (mask_of list referenced))

pub returns-clause-blocks : goal.returns-clause-blocks
returns-clause-blocks c = λ referenced list. blocks_start c.args.params.now (record { is_written = ltb 0 c.args.reference; counts = c.block_counts.result; code = c.blocks-2.result; count = 0; run = c.first.result }) c.args.reference referenced list refl c.block_counts.ensures.value c.blocks-2.ensures.value refl
