use Rattle.wg_properties.proofs.Flagged.{Flagged}
use Rattle.wg_properties.proofs.writing.add_flags.Given as goal

abbrev pub invariant-loop-flag : goal.invariant-loop-flag
invariant-loop-flag l = Flagged l.initial.text l.params l.flag-index l.is_first l.text
