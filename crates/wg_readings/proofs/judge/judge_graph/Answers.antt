use Rattle.std.proofs.Common.{◌∙◌}
use Rattle.wg_outside.proofs.{FilesLemmas.none_falls-trans, PutsLemmas.is_that_err}
use Rattle.wg_readings.proofs.UnderWay.{begins, goes_further, judged_by}
use Rattle.wg_readings.proofs.JudgeLemmas.{graph_stops, graph_unread}
use Rattle.wg_readings.proofs.judge.judge_graph.Goals as goal

pub loop-page-init : goal.loop-page-init
loop-page-init g c = begins _ _ _ _ _ _ (λ whole. Unit {0}) c.in_ok-reader.ensures.fresh tt

pub loop-page-preserved : goal.loop-page-preserved
loop-page-preserved g c =
    let n = c.in_ok-next_record.ensures in
    goes_further _ _ _ _ _ _ _ _ _ _ _ _ _ c.loop-page.invariant (λ whole. Unit {0}) n.advances n.open n.page n.in_step (λ whole w count list end h. tt)

pub returns-in_err-next_record : goal.returns-in_err-next_record
returns-in_err-next_record g c =
    rw (is_that_err c.from_residual-in_err-next_record.result _ c.from_residual-in_err-next_record.ensures.1)
    (graph_stops _ _ _ _ _ _ _ _ _ _ _ _ _ c.loop-page.invariant c.nodes-page-end.ensures.limits _ c.in_err-next_record.ensures.advances)

pub returns-in_err-end_records : goal.returns-in_err-end_records
returns-in_err-end_records g c =
    rw (is_that_err c.from_residual-in_err-end_records.result _ c.from_residual-in_err-end_records.ensures.1)
    (graph_stops _ _ _ _ _ _ _ _ _ _ _ _ _ c.loop-page.invariant c.nodes-page-end.ensures.limits _ c.in_err-end_records.ensures.advances)

pub returns-in_err-reader : goal.returns-in_err-reader
returns-in_err-reader g c = rw (is_that_err c.from_residual.result _ c.from_residual.ensures.1) (graph_unread _ _ _ _ _ _ c.in_err-reader.ensures.only)

pub returns : goal.returns
returns g c =
    let e = c.in_ok-end_records.ensures in
    record {
      reads = record { ends = tt; same = e.advances.same ∙ c.loop-page.invariant.same; later = none_falls-trans _ _ _ c.loop-page.invariant.later e.advances.later };
      limits = c.nodes-page-end.ensures.limits;
      accepted = λ t. judged_by _ _ _ _ _ _ _ _ _ _ _ _ _ c.loop-page.invariant e.advances e.judged t;
    }
