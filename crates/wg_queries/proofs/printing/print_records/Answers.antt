use Rattle.std.proofs.Common.{refl}
use Rattle.wg_params.specs.Parameters.{Parameters}
use Rattle.wg_outcomes.specs.{Judged.accepted, Performs.Outside, Performs.out_counts, Performs.outside}
use Rattle.wg_readings.specs.Passes.{graph_then}
use Rattle.wg_queries.specs.Printed.{job_of, listed}
use Rattle.wg_outcomes.specs.declared.status.Input.TheVariants as input
use Rattle.wg_queries.proofs.PrintedJobs.{printed_again}
use Rattle.wg_readings.proofs.JobSteps.{ends_reading, loaded, does_exit, unloaded}
use Rattle.wg_queries.proofs.PrintedLines.{judges, named_graph, named_properties, none_written, prints_reading, told}
use Rattle.wg_queries.proofs.printing.print_records.Goals as goal

pub returns-in_err-params : goal.returns-in_err-params
returns-in_err-params g c =
    let job = job_of c.args.listing c.args.base.now in
    let base = c.args.base.now in
    does_exit _ _ _ _ _ _ _ _ g.met.O.Sink.stays c.from_residual.ensures.1
    (unloaded job base _ g.O.Sink.told _ (named_properties c.args.listing base) (told c.args.listing) (judges c.args.listing base) _ _ refl c.in_err-params.ensures)

pub returns-in_err-judge_graph : goal.returns-in_err-judge_graph
returns-in_err-judge_graph g c =
    let job = job_of c.args.listing c.args.base.now in
    let base = c.args.base.now in
    let p : Parameters = c.in_ok-params.params in
    let before : Outside = outside (g.D.Depot.files c.args.depot.now) (g.D.Depot.counts c.args.depot.now) (g.O.Sink.taken c.args.out.now) (out_counts g.O.Sink c.args.out.now) in
    let come = loaded job base g.D.Depot.told g.O.Sink.told before (named_properties c.args.listing base) (told c.args.listing) (judges c.args.listing base) p _ _ c.in_ok-params.ensures in
    does_exit _ _ _ _ _ _ _ _ g.met.O.Sink.stays c.from_residual-in_err-judge_graph.ensures.1
    (ends_reading job base _ _ before p _ _ _ input.Graph (named_graph c.args.listing base) (λ r. graph_then r p) (λ a r h. accepted (listed c.args.listing p.nodes a)) come
    (λ h holds. holds) (λ t r n. refl) refl _ _ refl c.in_err-judge_graph.ensures.reads)

pub returns : goal.returns
returns g c =
    let job = job_of c.args.listing c.args.base.now in
    let base = c.args.base.now in
    let p : Parameters = c.in_ok-params.params in
    let before : Outside = outside (g.D.Depot.files c.args.depot.now) (g.D.Depot.counts c.args.depot.now) (g.O.Sink.taken c.args.out.now) (out_counts g.O.Sink c.args.out.now) in
    let come = loaded job base g.D.Depot.told g.O.Sink.told before (named_properties c.args.listing base) (told c.args.listing) (judges c.args.listing base) p _ _ c.in_ok-params.ensures in
    record {
      does = printed_again base p (listed c.args.listing p.nodes) job _ _ _ _ _ _ _ _ c.print_again.result (none_written c.args.listing base) (prints_reading c.args.listing base) (named_graph c.args.listing base) refl refl
          (λ h holds. holds) come c.in_ok-judge_graph.ensures c.print_again.ensures.prints;
      later = c.print_again.ensures.later;
    }
