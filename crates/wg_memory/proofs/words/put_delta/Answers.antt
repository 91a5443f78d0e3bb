use Rattle.wg_memory.proofs.WritingLemmas.{full_before, delta_bits, puts_then}
use Rattle.wg_memory.proofs.words.put_delta.Goals as goal

pub overflow_sub-v : goal.overflow_sub-v
overflow_sub-v c = (delta_bits c.args.v c.index_of-index.result c.requires.value c.index_of-index.ensures.index).0

pub put_bits-requires-clause-value : goal.put_bits-requires-clause-value
put_bits-requires-clause-value c =
    (delta_bits c.args.v c.index_of-index.result c.requires.value c.index_of-index.ensures.index).1

pub returns-in_err-head : goal.returns-in_err-head
returns-in_err-head c =
    let w = delta_bits c.args.v c.index_of-index.result c.requires.value c.index_of-index.ensures.index in
    rw c.from_residual.ensures (full_before c.args.file.now c.put_gamma.new.file c.args.held _ _ _ w.2 c.in_err-head.ensures)

pub returns : goal.returns
returns c =
    let w = delta_bits c.args.v c.index_of-index.result c.requires.value c.index_of-index.ensures.index in
    puts_then _ _ _ _ _ _ _ _ _ w.2 c.in_ok-head.ensures c.put_bits.ensures
