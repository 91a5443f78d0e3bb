use Rattle.std.proofs.Common.{◌∙◌}
use Rattle.wg_outside.proofs.FilesLemmas.{none_falls-trans}
use Rattle.wg_outside.proofs.PutsLemmas.{is_that_err}
use Rattle.wg_encoder.proofs.Failed.{failed_on_graph, failed_on_offsets, failed_since}
use Rattle.wg_encoder.proofs.Sent.{other_put, other_less}
use Rattle.wg_encoder.proofs.Finished.{finished, stopped_at_graph, stopped_at_offsets}
use Rattle.wg_encoder.proofs.paging.close_both.Goals as goal

pub returns-in_err-close : goal.returns-in_err-close
returns-in_err-close g c =
    let e = c.in_err-close.ensures in
    rw (is_that_err c.from_residual.result _ c.from_residual.ensures.1) record {
      ok = λ p lists t h. tt;
      err = λ p lists t h. stopped_at_graph c.args.names.now p lists _ _ _ _ _ _ _ (rw c.graph.ensures at e.err t) e.fault h;
      only_two = λ t name graph offsets. other_less _ _ _ name _ _ (rw c.graph.ensures at e.err t) graph;
      fault = failed_on_graph c.args.names.now (g.D.Depot.counts c.args.depot.now) (g.D.Depot.counts c.close.new.depot) _ (rw c.graph.ensures at e.fault);
      later = e.later;
    }

pub returns-in_err-close-2 : goal.returns-in_err-close-2
returns-in_err-close-2 g c =
    let o = c.in_ok-close.ensures in
    let e = c.in_err-close-2.ensures in
    rw (is_that_err c.from_residual-in_err-close-2.result _ c.from_residual-in_err-close-2.ensures.1) record {
      ok = λ p lists t h. tt;
      err = λ p lists t h. stopped_at_offsets c.args.names.now p lists _ _ _ _ _ _ _ _ (rw c.graph.ensures at o.ok t) (rw c.offsets.ensures at e.err t) e.fault h;
      only_two = λ t name graph offsets.
          other_less _ _ _ name _ _ (rw c.offsets.ensures at e.err t) offsets ∙ other_put _ _ _ name _ _ _ (rw c.graph.ensures at o.ok t) graph;
      fault =
          failed_since c.args.names.now (g.D.Depot.counts c.args.depot.now) (g.D.Depot.counts c.close.new.depot) (g.D.Depot.counts c.close-2.new.depot) _ o.later
          (failed_on_offsets c.args.names.now (g.D.Depot.counts c.close.new.depot) (g.D.Depot.counts c.close-2.new.depot) _ (rw c.offsets.ensures at e.fault));
      later = none_falls-trans _ _ _ o.later e.later;
    }

pub returns : goal.returns
returns g c =
    let a = c.in_ok-close.ensures in
    let b = c.in_ok-close-2.ensures in
    record {
      ok = λ p lists t h. finished c.args.names.now p lists _ _ _ _ _ (rw c.graph.ensures at a.ok t) (rw c.offsets.ensures at b.ok t) h;
      err = λ p lists t h. tt;
      only_two = λ t name graph offsets.
          other_put _ _ _ name _ _ _ (rw c.offsets.ensures at b.ok t) offsets ∙ other_put _ _ _ name _ _ _ (rw c.graph.ensures at a.ok t) graph;
      fault = tt;
      later = none_falls-trans _ _ _ a.later b.later;
    }
