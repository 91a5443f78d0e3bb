use Rattle.std.proofs.Common.{arith}
use Rattle.wg_transpose.specs.Runs.{runs_to}
use Rattle.wg_transpose.proofs.Totals.{sum_is_all}
use Rattle.wg_transpose.proofs.RunWhole.{few_in_all}
use Rattle.wg_transpose.proofs.run_counting.count.Goals as goal

pub total-requires : goal.total-requires
total-requires g c =
    let graph = g.L.Lists.graph c.args.lists.now in
    let e = c.count_lists-arcs.ensures in
    omega (arith, sum_is_all graph.nodes (runs_to graph) c.count_lists-arcs.new.counts e.counted.counted, few_in_all graph e.proper, c.requires.few_arcs)
