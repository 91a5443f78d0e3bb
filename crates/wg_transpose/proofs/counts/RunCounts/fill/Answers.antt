use Rattle.std.proofs.Common.{sym, subst}
use Rattle.wg_transpose.specs.Runs.{Counted, IsCountOf}
use Rattle.wg_transpose.proofs.Made.{ready_runs}
use Rattle.wg_transpose.proofs.counts.RunCounts.fill.Goals as goal

pub of-requires : goal.of-requires
of-requires g c =
    let graph = g.L.Lists.graph c.args.lists.now in
    let h = subst (λ (k : Counted). IsCountOf graph k) (sym c.self.view_is) c.requires.counted in
    record { ready = ready_runs graph _ _ h c.self.invariant; degrees = h.degrees }
