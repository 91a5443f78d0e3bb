use Rattle.std.proofs.Common.{Err, sym, subst}
use Rattle.wg_bits.specs.Bits.{bits_of}
use Rattle.wg_grammar.specs.Archive.{ReadsGraph}
use Rattle.wg_grammar.specs.Errors.{OfFault}
use Rattle.wg_random.proofs.records.Records.check.Goals as goal

pub returns-in-Err-Fault-clause-refused : goal.returns-in-Err-Fault-clause-refused
returns-in-Err-Fault-clause-refused c =
    let bits = bits_of c.args.bytes.now in
    let fault = subst (λ e. OfFault e (λ f. ReadsGraph c.args.params bits (Err f))) c.in-Err-Fault.field-0-is c.in-Err-Fault.ensures.fault in
    subst (λ f. ReadsGraph c.args.params bits (Err f)) (sym c.in-Err-Fault.fault-is) fault
