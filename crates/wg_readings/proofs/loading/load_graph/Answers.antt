use Rattle.wg_outside.proofs.PutsLemmas.{is_that_err}
use Rattle.wg_readings.proofs.LoadLemmas.{graph_loaded, graph_unloaded}
use Rattle.wg_readings.proofs.loading.load_graph.Goals as goal

pub returns-in_err-bytes : goal.returns-in_err-bytes
returns-in_err-bytes g c = rw (is_that_err c.from_residual.result _ c.from_residual.ensures.1) (graph_unloaded _ c.args.params.now _ _ _ _ _ _ c.in_err-bytes.ensures)

pub returns : goal.returns
returns g c =
    let e = c.graph_of_records.ensures in
    graph_loaded _ c.args.params.now _ _ _ _ _ c.in_ok-bytes.bytes _ c.as_slice.ensures c.in_ok-bytes.ensures c.graph_of_records.result e.steps e.only e.nodes
