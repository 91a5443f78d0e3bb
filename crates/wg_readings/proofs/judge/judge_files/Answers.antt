use Rattle.std.proofs.Common.{◌∙◌, ℕ, List, [], ◌∷◌, ◌++◌, inr, refl, sym, ap, subst}
use Rattle.std.specs.FinMap as map
use Rattle.wg_outside.specs.declared.suffixes.TheConstants.{OFFSETS}
use Rattle.wg_outside.proofs.{FilesLemmas.none_falls-trans, PutsLemmas.is_that_err}
use Rattle.wg_grammar.specs.Archive.{places_of}
use Rattle.wg_offsets.specs.Places.{last_place}
use Rattle.wg_offsets.proofs.WordsLemmas.{last_more}
use Rattle.wg_stream.proofs.PrefixLemmas.{places_more}
use Rattle.wg_outcomes.specs.Names.{file_of, held_by}
use Rattle.wg_readings.specs.Pairing.{ComesWith}
use Rattle.wg_readings.proofs.PairingLemmas.{both_done, both_stop, come_at, come_before, come_here, come_last, come_paired, come_until, page_before, page_last}
use Rattle.wg_readings.proofs.UnderWay.{all_read, begins, goes_further, judged_by, way_later}
use Rattle.wg_readings.proofs.JudgeLemmas.{files_stop, files_unread}
use Rattle.wg_readings.proofs.judge.judge_files.Goals as goal

pub loop-page-init : goal.loop-page-init
loop-page-init g c =
    let files = g.D.Depot.files c.args.depot.now in
    let u = c.in_ok-reader.ensures.fresh in
    let named = c.in_ok-pairing.ensures.name in
    let b = c.begin_pairing.ensures in
    record {
      way = way_later _ _ _ _ _ _ _ _ _ _ _ _ b.same b.later
          (begins _ _ _ _ _ _ _ u (sym u.at, λ t file is. b.reads t file (ap (λ (n : List ℕ). map.get files n) named ∙ is)));
      name = b.name ∙ named;
      come = come_at _ _ _ _ _ _ _ _ _ _ c.begin_pairing.new.pairing named (sym u.at) b.come;
    }

pub returns-in_err-next_record : goal.returns-in_err-next_record
returns-in_err-next_record g c =
    rw (is_that_err c.from_residual-in_err-next_record.result _ c.from_residual-in_err-next_record.ensures.1)
    (files_stop _ _ _ _ _ _ _ _ _ _ _ _ _ c.loop-page.invariant.way c.nodes-page-end.ensures.limits _ c.in_err-next_record.ensures.advances)

pub loop-page-preserved : goal.loop-page-preserved
loop-page-preserved g c =
    let files = g.D.Depot.files c.args.depot.now in
    let name = c.args.base.now ++ OFFSETS.now in
    let h = c.loop-page.invariant in
    let r = c.in_ok-next_record.ensures in
    let s = c.pair_next.ensures in
    let same = r.advances.same ∙ h.way.same in
    record {
      way = way_later _ _ _ _ _ _ _ _ _ _ _ _ s.same s.later
          (goes_further _ _ _ _ _ _ _ _ _ _ _ _ _ h.way _ r.advances r.open r.page r.in_step
          (λ whole w count list end k. (
            ap last_place (places_more w whole) ∙ last_more (places_of whole) w.end ∙ end,
            λ t file is.
                subst (λ (places : List ℕ). ComesWith file c.pair_next.new.pairing places)
                (ap (λ (e : ℕ). places_of whole ++ e ∷ []) (c.at.ensures.value ∙ sym end) ∙ sym (places_more w whole))
                (s.reads t files same name h.name file is (places_of whole) (k.1 t file is)),
          )));
      name = s.name ∙ h.name;
      come = come_at _ _ _ _ _ _ _ _ _ _ c.pair_next.new.pairing refl c.at.ensures.value
          (s.come files same _ (none_falls-trans _ _ _ h.way.later r.advances.later) name h.name _ _
          (come_until _ _ _ _ _ _ _ _ _ c.loop-page.pairing r.advances.later h.come)
          (λ t file is.
          let f = r.advances.there t files h.way.same (h.way.found t) in
          let k = h.way.follows t f.0 (ap (λ (n : List ℕ). map.get files n) (sym h.way.name) ∙ f.1) in
          (places_of k.0, k.2.1 t file is)));
    }

pub returns-in_err-end_records : goal.returns-in_err-end_records
returns-in_err-end_records g c =
    rw (is_that_err c.from_residual-in_err-end_records.result _ c.from_residual-in_err-end_records.ensures.1)
    (files_stop _ _ _ _ _ _ _ _ _ _ _ _ _ c.loop-page.invariant.way c.nodes-page-end.ensures.limits _ c.in_err-end_records.ensures.advances)

pub returns-in_err-reader : goal.returns-in_err-reader
returns-in_err-reader g c = rw (is_that_err c.from_residual.result _ c.from_residual.ensures.1) (files_unread _ _ _ _ _ _ c.in_err-reader.ensures.only)

pub returns-in_err-pairing : goal.returns-in_err-pairing
returns-in_err-pairing g c = rw (is_that_err c.from_residual-in_err-pairing.result _ c.from_residual-in_err-pairing.ensures.1) (files_unread _ _ _ _ _ _ c.in_err-pairing.ensures.only)

pub returns-in_err-end_pairing : goal.returns-in_err-end_pairing
returns-in_err-end_pairing g c =
    let p = c.args.params.now in
    let base = c.args.base.now in
    let files = g.D.Depot.files c.args.depot.now in
    let counts = g.D.Depot.counts c.args.depot.now in
    let held = held_by (file_of base) files in
    let name = base ++ OFFSETS.now in
    let h = c.loop-page.invariant in
    let r = c.in_ok-end_records.ensures in
    let limits = c.nodes-page-end.ensures.limits in
    let s = c.in_err-end_pairing.ensures in
    let stands = judged_by _ _ _ _ _ _ _ _ _ _ _ _ _ h.way r.advances r.judged in
    let e = s.ends files (r.advances.same ∙ h.way.same) _ (none_falls-trans _ _ _ h.way.later r.advances.later) name h.name _ _ (come_until _ _ _ _ _ _ _ _ _ c.loop-page.pairing r.advances.later h.come)
    (λ t file is. let x = stands t in let k = all_read _ _ _ _ _ _ files _ counts _ _ c.loop-page.reader _ h.way limits r.judged t x.0 x.1 in (places_of k.0, k.1.1 t file is)) in
    rw (is_that_err c.from_residual-in_err-end_pairing.result _ c.from_residual-in_err-end_pairing.ensures.1)
    (record {
      limits = tt;
      steps = λ t q.
          let x = stands t in
          let k = all_read _ _ _ _ _ _ files _ counts _ _ c.loop-page.reader _ h.way limits r.judged t x.0 x.1 in
          both_stop q p limits held x.0 x.1 k.0 k.2 c.in_err-end_pairing.field-0.0 (e.steps t limits (places_of k.0) (λ file is. k.1.1 t file is) q);
      only = inr (e.only, limits, stands);
      causes = e.causes (file_of base) refl;
      same = s.same ∙ r.advances.same ∙ h.way.same;
      later = none_falls-trans _ _ _ h.way.later (none_falls-trans _ _ _ r.advances.later s.later);
    })

pub returns : goal.returns
returns g c =
    let p = c.args.params.now in
    let base = c.args.base.now in
    let files = g.D.Depot.files c.args.depot.now in
    let counts = g.D.Depot.counts c.args.depot.now in
    let held = held_by (file_of base) files in
    let name = base ++ OFFSETS.now in
    let h = c.loop-page.invariant in
    let r = c.in_ok-end_records.ensures in
    let limits = c.nodes-page-end.ensures.limits in
    let s = c.in_ok-end_pairing.ensures in
    let stands = judged_by _ _ _ _ _ _ _ _ _ _ _ _ _ h.way r.advances r.judged in
    let e = s.ends files (r.advances.same ∙ h.way.same) _ (none_falls-trans _ _ _ h.way.later r.advances.later) name h.name _ _ (come_until _ _ _ _ _ _ _ _ _ c.loop-page.pairing r.advances.later h.come)
    (λ t file is. let x = stands t in let k = all_read _ _ _ _ _ _ files _ counts _ _ c.loop-page.reader _ h.way limits r.judged t x.0 x.1 in (places_of k.0, k.1.1 t file is)) in
    record {
      limits = limits;
      steps = λ t q.
          let x = stands t in
          let k = all_read _ _ _ _ _ _ files _ counts _ _ c.loop-page.reader _ h.way limits r.judged t x.0 x.1 in
          both_done q p limits held x.0 x.1 k.0 k.2 c.at-bits.result (k.1.0 ∙ sym c.at-bits.ensures.value) (e.steps t limits (places_of k.0) (λ file is. k.1.1 t file is) q);
      only = tt;
      causes = e.causes (file_of base) refl;
      same = s.same ∙ r.advances.same ∙ h.way.same;
      later = none_falls-trans _ _ _ h.way.later (none_falls-trans _ _ _ r.advances.later s.later);
    }

pub begin_pairing-requires : goal.begin_pairing-requires
begin_pairing-requires g c = c.in_ok-pairing.ensures.unread

pub next_record-requires-clause-open : goal.next_record-requires-clause-open
next_record-requires-clause-open g c = c.loop-page.invariant.way.state

pub next_record-requires-clause-params : goal.next_record-requires-clause-params
next_record-requires-clause-params g c = c.loop-page.invariant.way.params

pub next_record-requires-clause-more : goal.next_record-requires-clause-more
next_record-requires-clause-more g c = page_before _ _ _ _ c.loop-page.invariant.way.page c.loop-page-test.true c.nodes-page-end.ensures.value

pub pair_next-requires-clause-limits : goal.pair_next-requires-clause-limits
pair_next-requires-clause-limits g c = c.nodes-page-end.ensures.limits

pub pair_next-requires-clause-paired : goal.pair_next-requires-clause-paired
pair_next-requires-clause-paired g c = come_paired _ _ _ _ _ _ _ _ c.loop-page.pairing c.loop-page.invariant.come

pub pair_next-requires-clause-more : goal.pair_next-requires-clause-more
pair_next-requires-clause-more g c = come_before _ _ _ _ _ _ _ _ c.loop-page.pairing c.loop-page.invariant.come _ _ c.loop-page-test.true c.nodes-page-end.ensures.value

pub pair_next-requires-clause-here : goal.pair_next-requires-clause-here
pair_next-requires-clause-here g c = come_here _ _ _ _ _ _ _ _ c.loop-page.pairing c.loop-page.invariant.come _ _ c.in_ok-next_record.ensures.advances.onward c.at.ensures.value

pub end_records-requires-clause-open : goal.end_records-requires-clause-open
end_records-requires-clause-open g c = c.loop-page.invariant.way.state

pub end_records-requires-clause-params : goal.end_records-requires-clause-params
end_records-requires-clause-params g c = c.loop-page.invariant.way.params

pub end_records-requires-clause-done : goal.end_records-requires-clause-done
end_records-requires-clause-done g c = page_last _ _ _ _ c.loop-page.invariant.way.page c.loop-page-test.false c.loop-page.auto._page-end c.nodes-page-end.ensures.value

pub end_pairing-requires-clause-paired : goal.end_pairing-requires-clause-paired
end_pairing-requires-clause-paired g c = come_paired _ _ _ _ _ _ _ _ c.loop-page.pairing c.loop-page.invariant.come

pub end_pairing-requires-clause-done : goal.end_pairing-requires-clause-done
end_pairing-requires-clause-done g c = come_last _ _ _ _ _ _ _ _ c.loop-page.pairing c.loop-page.invariant.come _ _ c.loop-page-test.false c.loop-page.auto._page-end c.nodes-page-end.ensures.value
