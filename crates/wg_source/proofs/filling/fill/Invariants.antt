use Rattle.std.proofs.Common.{◌≡◌, ◌/◌}
use Rattle.wg_source.specs.Stepping.{Steps}
use Rattle.wg_source.proofs.FillLemmas.{waits}
use Rattle.wg_source.proofs.filling.fill.Given as goal

abbrev pub invariant-loop-held : goal.invariant-loop-held
invariant-loop-held g l = let d = g.D.Depot in record {
  steps : Steps d.told l.name (d.files l.fn.depot) (d.files l.depot) (d.counts l.fn.depot) (d.counts l.depot) l.fn.held l.held;
  at : l.held.at ≡ l.fn.held.at;
  first : l.held.first ≡ l.held.at / 8;
}

abbrev pub decreases-loop-held : goal.decreases-loop-held
decreases-loop-held g l = waits l.held
