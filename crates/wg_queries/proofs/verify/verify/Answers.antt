use Rattle.std.proofs.Common.{◌∙◌, Ok, Err, refl}
use Rattle.wg_outcomes.specs.Verified.{verified_line}
use Rattle.wg_readings.proofs.{LoadLemmas.graph_loaded, LoadLemmas.graph_unloaded, JobSteps.does_exit}
use Rattle.wg_readings.proofs.GraphJobs.{no_graph, no_params}
use Rattle.wg_queries.proofs.VerifyJobs.{no_claim, no_gap, no_weights, of_graph, verifies}
use Rattle.wg_queries.proofs.UntoldLemmas.{all_put, some_gap, undone, undone_claim, undone_gap, undone_graph, undone_params, undone_reading, undone_weights}
use Rattle.wg_queries.proofs.verify.verify.Goals as goal

pub returns-in_err-params-clause-does : goal.returns-in_err-params-clause-does
returns-in_err-params-clause-does g c =
    does_exit _ _ _ _ _ _ _ _ g.met.O.Sink.stays c.from_residual.ensures.1
    (no_params _ _ _ (of_graph c.args.job.now) _ _ _ _ _ refl c.in_err-params.ensures)

pub returns-in_err-bytes-clause-does : goal.returns-in_err-bytes-clause-does
returns-in_err-bytes-clause-does g c =
    let p = c.in_ok-params.params in
    does_exit _ _ _ _ _ _ _ _ g.met.O.Sink.stays c.from_residual-in_err-bytes.ensures.1
    (no_graph _ _ _ (of_graph c.args.job.now) _ _ _ p _ _ c.in_ok-params.ensures _ _ refl
    (graph_unloaded c.args.job.now.base p _ _ _ _ _ _ c.in_err-bytes.ensures))

pub returns-in_err-lists-clause-does : goal.returns-in_err-lists-clause-does
returns-in_err-lists-clause-does g c =
    let p = c.in_ok-params.params in
    let e = c.in_err-lists.ensures in
    does_exit _ _ _ _ _ _ _ _ g.met.O.Sink.stays c.from_residual-in_err-lists.ensures.1
    (no_graph _ _ _ (of_graph c.args.job.now) _ _ _ p _ _ c.in_ok-params.ensures _ _ refl
    (graph_loaded c.args.job.now.base p _ _ _ _ _ c.in_ok-bytes.bytes _ c.as_slice.ensures c.in_ok-bytes.ensures (Err c.in_err-lists.field-0.0) e.refused e.only tt))

pub returns-in_err-weighed-clause-does : goal.returns-in_err-weighed-clause-does
returns-in_err-weighed-clause-does g c =
    let p = c.in_ok-params.params in
    does_exit _ _ _ _ _ _ _ _ g.met.O.Sink.stays c.from_residual-in_err-weighed.ensures.1
    (no_weights c.args.job.now _ _ _ p _ _ c.in_ok-params.ensures _ _ c.in_ok-lists.lists.graph
    (graph_loaded c.args.job.now.base p _ _ _ _ _ c.in_ok-bytes.bytes _ c.as_slice.ensures c.in_ok-bytes.ensures
    (Ok c.in_ok-lists.lists.graph) c.in_ok-lists.ensures.goes tt c.in_ok-lists.ensures.nodes)
    _ _ refl (rw c.nodes-pages.ensures.count at c.in_err-weighed.ensures))

pub returns-in_err-claimed-clause-does : goal.returns-in_err-claimed-clause-does
returns-in_err-claimed-clause-does g c =
    let p = c.in_ok-params.params in
    does_exit _ _ _ _ _ _ _ _ g.met.O.Sink.stays c.from_residual-in_err-claimed.ensures.1
    (no_claim c.args.job.now _ _ _ p _ _ c.in_ok-params.ensures _ _ c.in_ok-lists.lists.graph
    (graph_loaded c.args.job.now.base p _ _ _ _ _ c.in_ok-bytes.bytes _ c.as_slice.ensures c.in_ok-bytes.ensures
    (Ok c.in_ok-lists.lists.graph) c.in_ok-lists.ensures.goes tt c.in_ok-lists.ensures.nodes)
    _ _ c.in_ok-weighed.weighed (rw c.nodes-pages.ensures.count at c.in_ok-weighed.ensures)
    _ _ refl (rw c.nodes-pages.ensures.count at c.in_err-claimed.ensures))

pub returns-in_err-left-clause-does : goal.returns-in_err-left-clause-does
returns-in_err-left-clause-does g c =
    let p = c.in_ok-params.params in
    does_exit _ _ _ _ _ _ _ _ g.met.O.Sink.stays c.from_residual-in_err-left.ensures.1
    (no_gap c.args.job.now _ g.O.Sink.told _ p _ _ c.in_ok-params.ensures _ _ c.in_ok-lists.lists.graph
    (graph_loaded c.args.job.now.base p _ _ _ _ _ c.in_ok-bytes.bytes _ c.as_slice.ensures c.in_ok-bytes.ensures
    (Ok c.in_ok-lists.lists.graph) c.in_ok-lists.ensures.goes tt c.in_ok-lists.ensures.nodes)
    _ _ c.in_ok-weighed.weighed (rw c.nodes-pages.ensures.count at c.in_ok-weighed.ensures)
    _ _ c.in_ok-claimed.claimed (rw c.nodes-pages.ensures.count at c.in_ok-claimed.ensures)
    _ _ _ refl c.in_err-left.ensures.only c.in_err-left.ensures.steps)

pub returns-clause-does : goal.returns-clause-does
returns-clause-does g c =
    let p = c.in_ok-params.params in
    let o = c.print_verified.ensures in
    record {
      does = verifies c.args.job.now _ g.O.Sink.told _ p _ _ c.in_ok-params.ensures _ _ c.in_ok-lists.lists.graph
          (graph_loaded c.args.job.now.base p _ _ _ _ _ c.in_ok-bytes.bytes _ c.as_slice.ensures c.in_ok-bytes.ensures
          (Ok c.in_ok-lists.lists.graph) c.in_ok-lists.ensures.goes tt c.in_ok-lists.ensures.nodes)
          _ _ c.in_ok-weighed.weighed (rw c.nodes-pages.ensures.count at c.in_ok-weighed.ensures)
          _ _ c.in_ok-claimed.claimed (rw c.nodes-pages.ensures.count at c.in_ok-claimed.ensures)
          c.in_ok-left.left c.in_ok-left.ensures.steps _ _ c.print_verified.result o.puts o.refusals.only o.refusals.failed o.refusals.memory;
      later = o.later;
    }

pub returns-in_err-params-clause-anywhere : goal.returns-in_err-params-clause-anywhere
returns-in_err-params-clause-anywhere g c = λ t done. absurd (undone _ _ c.from_residual.ensures.1 (undone_params _ _ _ _ _ _ _ c.in_err-params.ensures) done)

pub returns-in_err-bytes-clause-anywhere : goal.returns-in_err-bytes-clause-anywhere
returns-in_err-bytes-clause-anywhere g c = λ t done. absurd (undone _ _ c.from_residual-in_err-bytes.ensures.1 (undone_reading _ c.in_err-bytes.field-0.0 c.in_err-bytes.ensures.mine) done)

pub returns-in_err-lists-clause-anywhere : goal.returns-in_err-lists-clause-anywhere
returns-in_err-lists-clause-anywhere g c = λ t done. absurd (undone _ _ c.from_residual-in_err-lists.ensures.1 (undone_graph _ _ c.in_err-lists.ensures.only) done)

pub returns-in_err-weighed-clause-anywhere : goal.returns-in_err-weighed-clause-anywhere
returns-in_err-weighed-clause-anywhere g c = λ t done. absurd (undone _ _ c.from_residual-in_err-weighed.ensures.1 (undone_weights _ _ c.in_err-weighed.ensures.reads.only) done)

pub returns-in_err-claimed-clause-anywhere : goal.returns-in_err-claimed-clause-anywhere
returns-in_err-claimed-clause-anywhere g c = λ t done. absurd (undone _ _ c.from_residual-in_err-claimed.ensures.1 (undone_claim c.in_err-claimed.field-0.0 c.in_err-claimed.ensures.reads.only) done)

pub returns-in_err-left-clause-anywhere : goal.returns-in_err-left-clause-anywhere
returns-in_err-left-clause-anywhere g c = λ t done. absurd (undone _ _ c.from_residual-in_err-left.ensures.1 (undone_gap c.in_err-left.field-0.0 c.in_err-left.ensures.only) done)

pub returns-clause-anywhere : goal.returns-clause-anywhere
returns-clause-anywhere g c = λ t done.
    let o = c.print_verified.ensures in
    some_gap c.in_ok-lists.lists.graph c.args.job.now.weights c.in_ok-weighed.weighed c.in_ok-weighed.ensures.alike c.in_ok-claimed.claimed c.in_ok-left.left _ _ c.nodes-pages.ensures.proper
    (rw c.nodes-pages.ensures.count at c.in_ok-weighed.ensures.weights) (c.in_ok-claimed.ensures.pages ∙ c.nodes-pages.ensures.count) c.in_ok-left.ensures.leaves
    (all_put (verified_line c.in_ok-claimed.claimed c.in_ok-left.left)
    (g.O.Sink.taken c.args.out.now) (g.O.Sink.taken c.print_verified.new.out) c.print_verified.result o.refusals.only (o.puts t) done)
