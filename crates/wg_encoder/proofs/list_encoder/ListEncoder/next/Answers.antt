use Rattle.std.proofs.Common.{◌≡◌, ◌∙◌, [], ◌∷◌, ◌++◌, refl, sym, ap, subst}
use Rattle.wg_outside.proofs.PutsLemmas.{is_that_err}
use Rattle.wg_outside.proofs.FilesLemmas.{none_falls-refl, none_falls-trans}
use Rattle.wg_outside.specs.Suffixes.{graph_name, offsets_name}
use Rattle.wg_encoder.specs.Encoding.{Encoded, HasWritten}
use Rattle.wg_encoder.proofs.Failed.{failed_on_graph, failed_on_offsets, failed_since}
use Rattle.wg_encoder.proofs.Sent.{other_put, other_less}
use Rattle.wg_encoder.proofs.Going.{written_on}
use Rattle.wg_encoder.proofs.Stopped.{IsMade, word_put, word_less, next_on, next_gone, stopped_by_memory, stopped_on_offsets, next_stopped_on_graph, next_stopped_by_memory}
use Rattle.wg_encoder.proofs.list_encoder.ListEncoder.next.Goals as goal

pub returns-in_err-ready : goal.returns-in_err-ready
returns-in_err-ready g c =
    rw (is_that_err c.from_residual.result _ c.from_residual.ensures.1) record {
      on = tt;
      written = λ lists w. tt;
      ok = λ lists w t h. tt;
      err = λ lists more w t h. stopped_by_memory _ _ c.args.self lists (c.args.list.now ∷ more) _ h refl;
      only_two = λ t name graph offsets. refl;
      fault = tt;
      later = none_falls-refl _;
    }

pub returns-in_err-begun : goal.returns-in_err-begun
returns-in_err-begun g c =
    let sends = c.in_err-begun.ensures.sends in
    let offsets : c.offsets.result.now ≡ offsets_name c.args.base.now = c.offsets.ensures ∙ ap offsets_name (c.deref.ensures ∙ c.in_ok-ready.ensures.names) in
    rw (is_that_err c.from_residual-in_err-begun.result _ c.from_residual-in_err-begun.ensures.1) record {
      on = tt;
      written = λ lists w. tt;
      ok = λ lists w t h. tt;
      err = λ lists more written t h.
          let less = word_less _ _ c.args.base.now _ c.args.self _ c.prepare.ensures.same offsets (sends.err t) in
          stopped_on_offsets _ _ c.args.base.now c.args.self lists (c.args.list.now ∷ more) _ _ _ less sends.fault written h;
      only_two = λ t name graph other. other_less _ _ _ name _ _ (rw offsets at (sends.err t)) other;
      fault = failed_on_offsets c.args.base.now (g.D.Depot.counts c.args.depot.now) (g.D.Depot.counts c.put_offset.new.depot) _ (rw offsets at sends.fault);
      later = sends.later;
    }

pub returns-in_err-put : goal.returns-in_err-put
returns-in_err-put g c =
    let first = c.in_ok-begun.ensures in
    let sends = c.in_err-put.ensures.sends in
    let offsets : c.offsets.result.now ≡ offsets_name c.args.base.now = c.offsets.ensures ∙ ap offsets_name (c.deref.ensures ∙ c.in_ok-ready.ensures.names) in
    let graph : c.graph.result.now ≡ graph_name c.args.base.now = c.graph.ensures ∙ ap graph_name (c.deref-3.ensures ∙ c.in_ok-ready.ensures.names) in
    let same = c.prepare.ensures.same in
    let made : IsMade c.args.self c.args.list.now c.in_ok-ready.ready.choice c.record.result.now = c.record.ensures ∙ c.deref-2.ensures ∙ c.in_ok-ready.ensures.record_is in
    rw (is_that_err c.from_residual-in_err-put.result _ c.from_residual-in_err-put.ensures.1) record {
      on = tt;
      written = λ lists w. tt;
      ok = λ lists w t h. tt;
      err = λ lists more written t h.
          let put = word_put _ _ c.args.base.now _ c.args.self _ _ same offsets (first.sends.ok t) in
          next_stopped_on_graph _ _ _ c.args.base.now c.args.self c.in_ok-begun.begun lists more c.args.list.now c.in_ok-ready.ready.choice c.record.result.now _ _ _ c.in_ok-ready.ensures.chosen made (rw same at first.on) put (rw graph at (sends.err t)) sends.fault written h;
      only_two = λ t name other also. other_less _ _ _ name _ _ (rw graph at (sends.err t)) other ∙ other_put _ _ _ name _ _ _ (rw offsets at (first.sends.ok t)) also;
      fault = failed_since c.args.base.now (g.D.Depot.counts c.args.depot.now) (g.D.Depot.counts c.put_offset.new.depot) (g.D.Depot.counts c.put_record.new.depot) _ first.sends.later
          (failed_on_graph c.args.base.now (g.D.Depot.counts c.put_offset.new.depot) (g.D.Depot.counts c.put_record.new.depot) _ (rw graph at sends.fault));
      later = none_falls-trans _ _ _ first.sends.later sends.later;
    }

pub returns-in_err-next_page : goal.returns-in_err-next_page
returns-in_err-next_page g c =
    let first = c.in_ok-begun.ensures in
    let second = c.in_ok-put.ensures in
    let offsets : c.offsets.result.now ≡ offsets_name c.args.base.now = c.offsets.ensures ∙ ap offsets_name (c.deref.ensures ∙ c.in_ok-ready.ensures.names) in
    let graph : c.graph.result.now ≡ graph_name c.args.base.now = c.graph.ensures ∙ ap graph_name (c.deref-3.ensures ∙ c.in_ok-ready.ensures.names) in
    let same = c.prepare.ensures.same in
    let made : IsMade c.args.self c.args.list.now c.in_ok-ready.ready.choice c.record.result.now = c.record.ensures ∙ c.deref-2.ensures ∙ c.in_ok-ready.ensures.record_is in
    rw (is_that_err c.from_residual-in_err-next_page.result _ c.from_residual-in_err-next_page.ensures.1) record {
      on = tt;
      written = λ lists w. tt;
      ok = λ lists w t h. tt;
      err = λ lists more written t h.
          let put = word_put _ _ c.args.base.now _ c.args.self _ _ same offsets (first.sends.ok t) in
          next_stopped_by_memory _ _ _ c.args.base.now c.args.self c.in_ok-begun.begun c.in_ok-put.put lists more c.args.list.now c.in_ok-ready.ready.choice c.record.result.now _ c.in_ok-ready.ensures.chosen made (rw same at first.on) put (rw graph at (second.sends.ok t)) written h refl;
      only_two = λ t name other also. other_put _ _ _ name _ _ _ (rw graph at (second.sends.ok t)) other ∙ other_put _ _ _ name _ _ _ (rw offsets at (first.sends.ok t)) also;
      fault = tt;
      later = none_falls-trans _ _ _ first.sends.later second.sends.later;
    }

pub returns : goal.returns
returns g c =
    let first = c.in_ok-begun.ensures in
    let second = c.in_ok-put.ensures in
    let offsets : c.offsets.result.now ≡ offsets_name c.args.base.now = c.offsets.ensures ∙ ap offsets_name (c.deref.ensures ∙ c.in_ok-ready.ensures.names) in
    let graph : c.graph.result.now ≡ graph_name c.args.base.now = c.graph.ensures ∙ ap graph_name (c.deref-3.ensures ∙ c.in_ok-ready.ensures.names) in
    let same = c.prepare.ensures.same in
    let made : IsMade c.args.self c.args.list.now c.in_ok-ready.ready.choice c.record.result.now = c.record.ensures ∙ c.deref-2.ensures ∙ c.in_ok-ready.ensures.record_is in
    let on = next_on c.args.self c.in_ok-begun.begun c.in_ok-put.put c.in_ok-next_page.field-0 c.args.list.now (rw same at first.on) second.on c.in_ok-next_page.ensures in
    record {
      on = on;
      written = λ lists written. subst (λ (e : Encoded). HasWritten e (lists ++ c.args.list.now ∷ [])) (sym on) (written_on c.args.self c.args.list.now _ _ lists written);
      ok = λ lists written t h.
          let put = word_put _ _ c.args.base.now _ c.args.self _ _ same offsets (first.sends.ok t) in
          next_gone _ _ _ c.args.base.now c.args.self c.in_ok-begun.begun c.in_ok-put.put c.in_ok-next_page.field-0 lists c.args.list.now c.in_ok-ready.ready.choice c.record.result.now c.in_ok-ready.ensures.chosen made (rw same at first.on) second.on c.in_ok-next_page.ensures
          put (rw graph at (second.sends.ok t)) written h;
      err = λ lists more w t h. tt;
      only_two = λ t name other also. other_put _ _ _ name _ _ _ (rw graph at (second.sends.ok t)) other ∙ other_put _ _ _ name _ _ _ (rw offsets at (first.sends.ok t)) also;
      fault = tt;
      later = none_falls-trans _ _ _ first.sends.later second.sends.later;
    }
