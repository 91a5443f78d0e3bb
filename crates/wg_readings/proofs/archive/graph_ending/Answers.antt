use Rattle.std.proofs.Common.{ap, sym, subst, inl, Err}
use Rattle.wg_bits.specs.Bits.{bits_of}
use Rattle.wg_grammar.specs.{Archive.ReadsGraph, Errors.OfFault}
use Rattle.wg_outcomes.specs.{Answers.Answers, Judged.status_of, Judged.with_graph, declared.ending.Ending.Ending}
use Rattle.wg_outcomes.specs.declared.status.Status.{Status}
use Rattle.wg_readings.proofs.ReadingsLemmas.{is_refused}
use Rattle.wg_readings.proofs.archive.graph_ending.Goals as goal

pub returns-in-Fault-clause-refused : goal.returns-in-Fault-clause-refused
returns-in-Fault-clause-refused c = λ limits r bytes reads next.
    let p = c.args.params.now in
    let fault = subst (λ e. OfFault e (λ f. ReadsGraph p (bits_of bytes) (Err f))) c.in-Fault.is reads in
    subst (λ (s : Status). Answers (with_graph r p bytes next) s) (sym (ap (λ (e : Ending). e.status) c.bad_archive.ensures))
    (inl (sym (ap status_of (is_refused r p limits bytes c.in-Fault.fault fault next))))
