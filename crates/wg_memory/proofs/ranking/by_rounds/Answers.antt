use Rattle.std.proofs.Common.{◌∙◌, ap, sym}
use Rattle.wg_graph.specs.Digraph.{Digraph}
use Rattle.wg_rank.specs.Weights.{weights_of}
use Rattle.wg_memory.proofs.ranking.by_rounds.Goals as goal

pub returns : goal.returns
returns g c =
    let e = c.in_ok-first.ensures in
    let same = c.pulled_for-pulled.ensures.graph in
    rw (same, e.damping) at (c.bounds_by_rounds.ensures c.args.weights (e.weights ∙ ap (λ (graph : Digraph). weights_of graph.nodes c.args.weights) (sym same)))
