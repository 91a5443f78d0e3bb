use Rattle.std.proofs.Common.{Err, subst}
use Rattle.wg_bits.specs.Bits.{bits_of}
use Rattle.wg_grammar.specs.Archive.{ReadsGraph}
use Rattle.wg_grammar.specs.Errors.{OfFault}
use Rattle.wg_stream.proofs.SweepLemmas.{no_fault}
use Rattle.wg_stream.proofs.sweep.Sweep.new.Goals as goal

pub unreachable-requires : goal.unreachable-requires
unreachable-requires c =
    let bits = bits_of c.args.bytes.now in
    no_fault _ _ _ _ c.nodes.ensures.limits c.requires.graph.1 (subst (λ e. OfFault e (λ f. ReadsGraph c.args.params bits (Err f))) c.in-Err-Fault.field-0-is c.in-Err-Fault.ensures.fault)
