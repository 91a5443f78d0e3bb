use Rattle.std.proofs.Common.{◌≡◌, ◌∙◌, refl, ap}
use Rattle.wg_outside.proofs.PutsLemmas.{is_that_err}
use Rattle.wg_outside.proofs.FilesLemmas.{none_falls-refl, none_falls-trans}
use Rattle.wg_outside.specs.Suffixes.{offsets_name}
use Rattle.wg_encoder.proofs.Failed.{failed_on_offsets, failed_since}
use Rattle.wg_encoder.proofs.Sent.{other_put, other_less}
use Rattle.wg_encoder.proofs.Stopped.{word_put, word_less, all_stopped_by_memory, all_stopped_on_offsets}
use Rattle.wg_encoder.proofs.Finished.{all_gone}
use Rattle.wg_encoder.proofs.list_encoder.ListEncoder.finish.Goals as goal

pub returns-in_err-names : goal.returns-in_err-names
returns-in_err-names g c =
    rw (is_that_err c.from_residual.result _ c.from_residual.ensures.1) record {
      bits = tt;
      ok = λ lists written t h. tt;
      err = λ lists written t h. all_stopped_by_memory _ _ c.args.self lists _ h refl;
      only_two = λ t name graph offsets. refl;
      fault = tt;
      later = none_falls-refl _;
    }

pub returns-in_err-put : goal.returns-in_err-put
returns-in_err-put g c =
    let sends = c.in_err-put.ensures.sends in
    let offsets : c.offsets.result.now ≡ offsets_name c.args.base.now = c.offsets.ensures ∙ ap offsets_name (c.deref.ensures ∙ c.in_ok-names.ensures.names) in
    rw (is_that_err c.from_residual-in_err-put.result _ c.from_residual-in_err-put.ensures.1) record {
      bits = tt;
      ok = λ lists written t h. tt;
      err = λ lists written t h.
          let less = word_less _ _ c.args.base.now _ c.args.self _ c.take_names.ensures.same offsets (sends.err t) in
          all_stopped_on_offsets _ _ c.args.base.now c.args.self lists _ _ _ less sends.fault written h;
      only_two = λ t name graph other. other_less _ _ _ name _ _ (rw offsets at (sends.err t)) other;
      fault = failed_on_offsets c.args.base.now (g.D.Depot.counts c.args.depot.now) (g.D.Depot.counts c.put_offset.new.depot) _ (rw offsets at sends.fault);
      later = sends.later;
    }

pub returns-in_err-close_both : goal.returns-in_err-close_both
returns-in_err-close_both g c =
    let first = c.in_ok-put.ensures in
    let n = c.in_err-close_both.ensures in
    let offsets : c.offsets.result.now ≡ offsets_name c.args.base.now = c.offsets.ensures ∙ ap offsets_name (c.deref.ensures ∙ c.in_ok-names.ensures.names) in
    let on : c.deref-2.result.now ≡ c.args.base.now = c.deref-2.ensures ∙ c.in_ok-names.ensures.names in
    rw (is_that_err c.from_residual-in_err-close_both.result _ c.from_residual-in_err-close_both.ensures.1) record {
      bits = tt;
      ok = λ lists written t h. tt;
      err = λ lists written t h.
          let put = word_put _ _ c.args.base.now _ c.args.self _ _ c.take_names.ensures.same offsets (first.sends.ok t) in
          let all = all_gone _ _ c.args.base.now c.args.self c.in_ok-put.put _ lists (rw c.take_names.ensures.same at first.on) c.put.view_is put written h in
          (rw on at n.err) c.args.self.params lists t all;
      only_two = λ t name graph other. (rw on at n.only_two) t name graph other ∙ other_put _ _ _ name _ _ _ (rw offsets at (first.sends.ok t)) other;
      fault = failed_since c.args.base.now (g.D.Depot.counts c.args.depot.now) (g.D.Depot.counts c.put_offset.new.depot) (g.D.Depot.counts c.close_both.new.depot) _ first.sends.later (rw on at n.fault);
      later = none_falls-trans _ _ _ first.sends.later n.later;
    }

pub returns-clause-ok : goal.returns-clause-ok
returns-clause-ok g c lists written t h =
    let offsets : c.offsets.result.now ≡ offsets_name c.args.base.now = c.offsets.ensures ∙ ap offsets_name (c.deref.ensures ∙ c.in_ok-names.ensures.names) in
    let put = word_put _ _ c.args.base.now _ c.args.self _ _ (c.take_names.ensures.same) offsets (c.in_ok-put.ensures.sends.ok t) in
    let all = all_gone _ _ c.args.base.now c.args.self c.in_ok-put.put _ lists (rw c.take_names.ensures.same at c.in_ok-put.ensures.on) c.put.view_is put written h in
    let on : c.deref-2.result.now ≡ c.args.base.now = c.deref-2.ensures ∙ c.in_ok-names.ensures.names in
    (rw on at c.in_ok-close_both.ensures.ok) c.args.self.params lists t all

pub returns-clause-only_two : goal.returns-clause-only_two
returns-clause-only_two g c t name graph offsets =
    let first : c.offsets.result.now ≡ offsets_name c.args.base.now = c.offsets.ensures ∙ ap offsets_name (c.deref.ensures ∙ c.in_ok-names.ensures.names) in
    let on : c.deref-2.result.now ≡ c.args.base.now = c.deref-2.ensures ∙ c.in_ok-names.ensures.names in
    (rw on at c.in_ok-close_both.ensures.only_two) t name graph offsets ∙ other_put _ _ _ name _ _ _ (rw first at c.in_ok-put.ensures.sends.ok t) offsets

pub returns-clause-later : goal.returns-clause-later
returns-clause-later g c = none_falls-trans _ _ _ c.in_ok-put.ensures.sends.later c.in_ok-close_both.ensures.later
