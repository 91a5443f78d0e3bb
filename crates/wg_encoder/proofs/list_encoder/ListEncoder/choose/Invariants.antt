use Rattle.wg_encoder.specs.Encoding.{IsBest}
use Rattle.wg_encoder.proofs.list_encoder.ListEncoder.choose.Given as goal

abbrev pub invariant-loop-r : goal.invariant-loop-r
invariant-loop-r l = IsBest l.self.params l.self.next l.list l.r l.best
