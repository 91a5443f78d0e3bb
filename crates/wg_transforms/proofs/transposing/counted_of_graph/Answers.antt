use Rattle.wg_bits.specs.Bits.{bits_of}
use Rattle.wg_transforms.proofs.transposing.counted_of_graph.Goals as goal

pub returns-in-Err-clause-only : goal.returns-in-Err-clause-only
returns-in-Err-clause-only c = c.graph_ending.ensures.only (bits_of c.args.bytes.now) c.in-Err.ensures.fault
