use Rattle.wg_memory.proofs.WritingLemmas.{full_before, gamma_bits, puts_then}
use Rattle.wg_memory.proofs.words.put_gamma.Goals as goal

pub put_bits-requires-2-clause-value : goal.put_bits-requires-2-clause-value
put_bits-requires-2-clause-value c =
    (gamma_bits c.args.v c.index_of-index.result c.requires.value c.index_of-index.ensures.index).1

pub returns-in_err-head : goal.returns-in_err-head
returns-in_err-head c =
    let w = gamma_bits c.args.v c.index_of-index.result c.requires.value c.index_of-index.ensures.index in
    rw c.from_residual.ensures (full_before c.args.file.now c.put_bits.new.file c.args.held _ _ _ w.0 c.in_err-head.ensures)

pub returns : goal.returns
returns c =
    let w = gamma_bits c.args.v c.index_of-index.result c.requires.value c.index_of-index.ensures.index in
    puts_then _ _ _ _ _ _ _ _ _ w.0 c.in_ok-head.ensures c.put_bits-2.ensures
