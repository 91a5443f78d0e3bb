use Rattle.std.proofs.Common.{ℕ, sym, subst, arith}
use Rattle.wg_transpose.specs.Transposed.{predecessors}
use Rattle.wg_transpose.specs.SoFar.{AreCounts}
use Rattle.wg_transpose.proofs.Totals.{start_of_all}
use Rattle.wg_transpose.proofs.Held.{none_held}
use Rattle.wg_transpose.proofs.transposer.Transposer.with_counts.Goals as goal

pub invariant_of-result : goal.invariant_of-result
invariant_of-result g c =
    let graph = g.L.Lists.graph c.args.lists in
    let r = c.requires in
    let counts = c.args.counts.items in
    let counted = subst (λ (n : ℕ). AreCounts n (predecessors graph) counts) (sym r.counted.pages) r.counted in
    rw c.new.ensures (record {
      proper = c.nodes.ensures.proper;
      few_pages = r.few_pages;
      few_arcs = r.few_arcs;
      pages = r.counted.pages;
      held = none_held (predecessors graph) counts (rw r.counted.pages (omega (arith, r.few_arcs, start_of_all graph c.nodes.ensures.proper))) counted;
    })
