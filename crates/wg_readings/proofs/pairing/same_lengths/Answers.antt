use Rattle.std.proofs.Common.{ap, sym, inl}
use Rattle.wg_outcomes.specs.Judged.{status_of}
use Rattle.wg_readings.proofs.ReadingsLemmas.{all_agree, one_differs}
use Rattle.wg_readings.proofs.pairing.same_lengths.Goals as goal

pub returns-in-None-clause-steps : goal.returns-in-None-clause-steps
returns-in-None-clause-steps c = λ here there compared next. all_agree here there (c.in-None.ensures.judges here there compared) next

pub returns-in-Some-clause-steps : goal.returns-in-Some-clause-steps
returns-in-Some-clause-steps c = λ here there compared next.
    inl (sym (ap status_of (one_differs here there c.in-Some.page c.in-Some.found c.in-Some.stored (c.in-Some.ensures.judges here there compared) next)))
