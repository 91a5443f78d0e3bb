use Rattle.std.proofs.Common.{◌≡◌, ◌++◌, map, drop}
use Rattle.wg_grammar.specs.declared.fault.Field.TheVariants as field
use Rattle.wg_greedy.specs.Fields.{written, stored_blocks}
use Rattle.wg_encoder.proofs.Adding.{lengths_from}
use Rattle.wg_encoder.proofs.parts.add_lengths.Given as goal

abbrev pub invariant-loop-block : goal.invariant-loop-block
invariant-loop-block l = record {
  counted : l.count ≡ l.block-index;
  all : l.fields ++ lengths_from l.code l.block-index (drop l.block-index l.blocks) ≡ l.fn.fields ++ map (written field.Block l.code) (stored_blocks l.blocks);
}
