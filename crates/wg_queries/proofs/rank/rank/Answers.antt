use Rattle.std.proofs.Common.{◌≡◌, ◌∙◌, inl, inr, Ok, Err, refl, subst}
use Rattle.wg_outside.proofs.FilesLemmas.{none_falls-trans}
use Rattle.wg_readings.proofs.{LoadLemmas.graph_loaded, LoadLemmas.graph_unloaded, JobSteps.does_exit}
use Rattle.wg_outcomes.specs.{declared.status.Status.TheVariants.Memory, Answers.HasOutput}
use Rattle.wg_outcomes.specs.Ranked.{bounds_for, text_for}
use Rattle.wg_queries.proofs.RankJobs.{certifies, last_is, no_room, no_weights, of_graph, only_prints}
use Rattle.wg_readings.proofs.GraphJobs.{no_graph, no_params}
use Rattle.wg_queries.proofs.UntoldLemmas.{all_put, ranks_none, some_ranking, undone_graph, undone_params, undone_reading, undone_room, undone_weights, wants_since}
use Rattle.wg_queries.proofs.rank.rank.Goals as goal

pub returns-in_err-params-clause-does : goal.returns-in_err-params-clause-does
returns-in_err-params-clause-does g c =
    does_exit _ _ _ _ _ _ _ _ g.met.O.Sink.stays c.from_residual.ensures.1
    (no_params _ _ _ (of_graph c.args.job.now) _ _ _ _ _ refl c.in_err-params.ensures)

pub returns-in_err-bytes-clause-does : goal.returns-in_err-bytes-clause-does
returns-in_err-bytes-clause-does g c =
    let p = c.in_ok-params.params in
    does_exit _ _ _ _ _ _ _ _ g.met.O.Sink.stays c.from_residual-in_err-bytes.ensures.1
    (no_graph _ _ _ (of_graph c.args.job.now) _ _ _ p _ _ c.in_ok-params.ensures _ _ refl
    (graph_unloaded c.args.job.now.base p _ _ _ _ _ _ c.in_err-bytes.ensures))

pub returns-in_err-lists-clause-does : goal.returns-in_err-lists-clause-does
returns-in_err-lists-clause-does g c =
    let p = c.in_ok-params.params in
    let e = c.in_err-lists.ensures in
    does_exit _ _ _ _ _ _ _ _ g.met.O.Sink.stays c.from_residual-in_err-lists.ensures.1
    (no_graph _ _ _ (of_graph c.args.job.now) _ _ _ p _ _ c.in_ok-params.ensures _ _ refl
    (graph_loaded c.args.job.now.base p _ _ _ _ _ c.in_ok-bytes.bytes _ c.as_slice.ensures c.in_ok-bytes.ensures (Err c.in_err-lists.field-0.0) e.refused e.only tt))

pub returns-in_err-given-clause-does : goal.returns-in_err-given-clause-does
returns-in_err-given-clause-does g c =
    let p = c.in_ok-params.params in
    does_exit _ _ _ _ _ _ _ _ g.met.O.Sink.stays c.from_residual-in_err-given.ensures.1
    (no_weights c.args.job.now _ _ _ p _ _ c.in_ok-params.ensures _ _ c.in_ok-lists.lists.graph
    (graph_loaded c.args.job.now.base p _ _ _ _ _ c.in_ok-bytes.bytes _ c.as_slice.ensures c.in_ok-bytes.ensures
    (Ok c.in_ok-lists.lists.graph) c.in_ok-lists.ensures.goes tt c.in_ok-lists.ensures.nodes)
    _ _ refl (rw c.nodes.ensures.count at c.in_err-given.ensures))

pub returns-in_err-first-clause-does : goal.returns-in_err-first-clause-does
returns-in_err-first-clause-does g c =
    let p = c.in_ok-params.params in
    does_exit _ _ _ _ _ _ _ _ g.met.O.Sink.stays c.from_residual-in_err-first.ensures.1
    (no_room c.args.job.now _ g.O.Sink.told _ p _ _ c.in_ok-params.ensures _ _ c.in_ok-lists.lists.graph
    (graph_loaded c.args.job.now.base p _ _ _ _ _ c.in_ok-bytes.bytes _ c.as_slice.ensures c.in_ok-bytes.ensures
    (Ok c.in_ok-lists.lists.graph) c.in_ok-lists.ensures.goes tt c.in_ok-lists.ensures.nodes)
    _ _ c.in_ok-given.given (rw c.nodes.ensures.count at c.in_ok-given.ensures)
    _ _ _ refl refl)

pub returns-in-None-clause-does : goal.returns-in-None-clause-does
returns-in-None-clause-does g c =
    let p = c.in_ok-params.params in
    let job = c.args.job.now in
    let graph = c.in_ok-lists.lists.graph in
    let f = c.in_ok-first.ensures in
    let o = c.print_ranks.ensures in
    let is : c.bounds_by_rounds-bounds.result ≡ bounds_for job graph c.in_ok-given.given =
    last_is c.in_ok-lists.lists.graph c.pulled_for-pulled.new.lists.graph c.in_ok-first.first c.in_ok-given.given job c.bounds_by_rounds-bounds.result c.pulled_for-pulled.ensures.graph
    (c.bounds_by_rounds-bounds.ensures c.in_ok-given.given) f.weights f.damping in
    record {
      does = only_prints c.args.job.now _ g.O.Sink.told _ p _ _ c.in_ok-params.ensures _ _ graph
          (graph_loaded c.args.job.now.base p _ _ _ _ _ c.in_ok-bytes.bytes _ c.as_slice.ensures c.in_ok-bytes.ensures (Ok graph) c.in_ok-lists.ensures.goes tt c.in_ok-lists.ensures.nodes)
          _ _ c.in_ok-given.given (rw c.nodes.ensures.count at c.in_ok-given.ensures)
          c.bounds_by_rounds-bounds.result is c.in-None.is _ _ c.print_ranks.result o.puts o.refusals.only o.refusals.failed o.refusals.memory;
      later = o.later;
    }

pub returns-clause-does : goal.returns-clause-does
returns-clause-does g c =
    let p = c.in_ok-params.params in
    let job = c.args.job.now in
    let graph = c.in_ok-lists.lists.graph in
    let f = c.in_ok-first.ensures in
    let is : c.bounds_by_rounds-bounds.result ≡ bounds_for job graph c.in_ok-given.given =
    last_is c.in_ok-lists.lists.graph c.pulled_for-pulled.new.lists.graph c.in_ok-first.first c.in_ok-given.given job c.bounds_by_rounds-bounds.result c.pulled_for-pulled.ensures.graph
    (c.bounds_by_rounds-bounds.ensures c.in_ok-given.given) f.weights f.damping in
    record {
      does = certifies c.args.job.now _ g.O.Sink.told _ p _ _ c.in_ok-params.ensures _ _ graph
          (graph_loaded c.args.job.now.base p _ _ _ _ _ c.in_ok-bytes.bytes _ c.as_slice.ensures c.in_ok-bytes.ensures (Ok graph) c.in_ok-lists.ensures.goes tt c.in_ok-lists.ensures.nodes)
          _ _ c.in_ok-given.given (rw c.nodes.ensures.count at c.in_ok-given.ensures)
          c.bounds_by_rounds-bounds.result is c.in-Some.name c.in-Some.is _ c.certify.result c.certify.ensures.does;
      later = c.certify.ensures.later;
    }

pub returns-in_err-params-clause-anywhere : goal.returns-in_err-params-clause-anywhere
returns-in_err-params-clause-anywhere g c =
    ranks_none g.D.Depot g.O.Sink _ _ _ _ _ _ c.from_residual.ensures.1 c.in_err-params.ensures.same (undone_params _ _ _ _ _ _ _ c.in_err-params.ensures)

pub returns-in_err-bytes-clause-anywhere : goal.returns-in_err-bytes-clause-anywhere
returns-in_err-bytes-clause-anywhere g c =
    ranks_none g.D.Depot g.O.Sink _ _ _ _ _ _ c.from_residual-in_err-bytes.ensures.1 (c.in_err-bytes.ensures.same ∙ c.in_ok-params.ensures.same)
    (undone_reading _ c.in_err-bytes.field-0.0 c.in_err-bytes.ensures.mine)

pub returns-in_err-lists-clause-anywhere : goal.returns-in_err-lists-clause-anywhere
returns-in_err-lists-clause-anywhere g c =
    ranks_none g.D.Depot g.O.Sink _ _ _ _ _ _ c.from_residual-in_err-lists.ensures.1 (c.in_ok-bytes.ensures.same ∙ c.in_ok-params.ensures.same) (undone_graph _ _ c.in_err-lists.ensures.only)

pub returns-in_err-given-clause-anywhere : goal.returns-in_err-given-clause-anywhere
returns-in_err-given-clause-anywhere g c =
    ranks_none g.D.Depot g.O.Sink _ _ _ _ _ _ c.from_residual-in_err-given.ensures.1
    (c.in_err-given.ensures.reads.same ∙ c.in_ok-bytes.ensures.same ∙ c.in_ok-params.ensures.same) (undone_weights _ _ c.in_err-given.ensures.reads.only)

pub returns-in_err-first-clause-anywhere : goal.returns-in_err-first-clause-anywhere
returns-in_err-first-clause-anywhere g c =
    ranks_none g.D.Depot g.O.Sink _ _ _ _ _ _ c.from_residual-in_err-first.ensures.1
    (c.in_ok-given.ensures.reads.same ∙ c.in_ok-bytes.ensures.same ∙ c.in_ok-params.ensures.same) (undone_room (record { status = Memory; promised = 0 }) refl)

pub returns-in-None-clause-anywhere : goal.returns-in-None-clause-anywhere
returns-in-None-clause-anywhere g c =
    let job = c.args.job.now in
    let graph = c.in_ok-lists.lists.graph in
    let f = c.in_ok-first.ensures in
    let o = c.print_ranks.ensures in
    let is : c.bounds_by_rounds-bounds.result ≡ bounds_for job graph c.in_ok-given.given =
    last_is c.in_ok-lists.lists.graph c.pulled_for-pulled.new.lists.graph c.in_ok-first.first c.in_ok-given.given job c.bounds_by_rounds-bounds.result c.pulled_for-pulled.ensures.graph
    (c.bounds_by_rounds-bounds.ensures c.in_ok-given.given) f.weights f.damping in
    record {
      wants = λ want. inr (inl (o.refusals.memory want));
      ranking = λ t done r.
          some_ranking graph job c.in_ok-given.given c.in_ok-given.ensures.alike c.bounds_by_rounds-bounds.result _ _ r c.requires.rounds c.requires.damping c.nodes.ensures.proper
          c.in_ok-lists.ensures.few
          (rw c.nodes.ensures.count at c.in_ok-given.ensures.weights) is
          (all_put (text_for r job c.bounds_by_rounds-bounds.result)
          (g.O.Sink.taken c.args.out.now) (g.O.Sink.taken c.print_ranks.new.out) c.print_ranks.result o.refusals.only (o.puts t r) done);
    }

pub returns-clause-anywhere : goal.returns-clause-anywhere
returns-clause-anywhere g c =
    let job = c.args.job.now in
    let graph = c.in_ok-lists.lists.graph in
    let f = c.in_ok-first.ensures in
    let is : c.bounds_by_rounds-bounds.result ≡ bounds_for job graph c.in_ok-given.given =
    last_is c.in_ok-lists.lists.graph c.pulled_for-pulled.new.lists.graph c.in_ok-first.first c.in_ok-given.given job c.bounds_by_rounds-bounds.result c.pulled_for-pulled.ensures.graph
    (c.bounds_by_rounds-bounds.ensures c.in_ok-given.given) f.weights f.damping in
    record {
      wants = λ want.
          inr (wants_since _ _ c.in-Some.is _ _ _ (none_falls-trans _ _ _ (none_falls-trans _ _ _ c.in_ok-params.ensures.later c.in_ok-bytes.ensures.later) c.in_ok-given.ensures.reads.later)
          (c.certify.ensures.wants want));
      ranking = λ t done r.
          some_ranking graph job c.in_ok-given.given c.in_ok-given.ensures.alike c.bounds_by_rounds-bounds.result _ _ r c.requires.rounds c.requires.damping c.nodes.ensures.proper
          c.in_ok-lists.ensures.few
          (rw c.nodes.ensures.count at c.in_ok-given.ensures.weights) is
          (subst (HasOutput (text_for r job c.bounds_by_rounds-bounds.result) (g.O.Sink.taken c.args.out.now) (g.O.Sink.taken c.certify.new.out)) done (c.certify.ensures.does.output t r));
    }

pub bounds_by_rounds-bounds-requires-clause-pulled : goal.bounds_by_rounds-bounds-requires-clause-pulled
bounds_by_rounds-bounds-requires-clause-pulled g c = rw c.pulled_for-pulled.ensures.graph c.pulled_for-pulled.ensures.pulled

pub bounds_by_rounds-bounds-requires-clause-ready : goal.bounds_by_rounds-bounds-requires-clause-ready
bounds_by_rounds-bounds-requires-clause-ready g c = rw c.pulled_for-pulled.ensures.graph c.in_ok-first.ensures.ready
