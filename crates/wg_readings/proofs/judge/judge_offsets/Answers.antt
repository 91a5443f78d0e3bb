use Rattle.std.proofs.Common.{◌≡◌, ◌∙◌, ℕ, suc, ◌<◌, ◌≤◌, List, [], ◌∷◌, ◌++◌, ◌+◌, length, take, refl, sym, ap, subst, arith}
use Rattle.std.specs.Prelude.{get_or}
use Rattle.std.specs.FinMap as map
use Rattle.std.proofs.{Math.Seq.take-suc, lemmas.List.take_all}
use Rattle.wg_outside.specs.declared.suffixes.TheConstants.{OFFSETS}
use Rattle.wg_outside.proofs.{FilesLemmas.none_falls-trans, PutsLemmas.is_that_err}
use Rattle.wg_outcomes.specs.{Answers.Steps, Names.file_of}
use Rattle.wg_readings.specs.{Loading.lengths_then, Pairing.ComesWith}
use Rattle.wg_readings.proofs.PairingLemmas.{come_at, come_before, come_last, come_paired}
use Rattle.wg_readings.proofs.JudgeLemmas.{offsets_judged, offsets_unread}
use Rattle.wg_readings.proofs.judge.judge_offsets.Goals as goal

-- one place more
taken : (l : List ℕ) (j : ℕ) → j + 1 < length l → take (j + 1) l ++ get_or l (j + 1) 0 ∷ [] ≡ take (j + 1 + 1) l
taken l j lt = let next : suc (j + 1) ≡ j + 1 + 1 = omega arith in sym (take-suc l (j + 1) 0 lt) ∙ ap (λ (k : ℕ). take k l) next

pub loop-page-init : goal.loop-page-init
loop-page-init g c =
    let named = c.in_ok-pairing.ensures.name in
    let b = c.begin_pairing.ensures in
    let first = c.len.ensures.places.first in
    record {
      name = b.name ∙ named;
      same = b.same;
      later = b.later;
      come = come_at _ _ _ _ _ _ _ _ _ _ c.begin_pairing.new.pairing named (sym first) b.come;
      reads = λ t file is.
          subst (λ (places : List ℕ). ComesWith file c.begin_pairing.new.pairing places)
          (ap (λ (v : ℕ). v ∷ []) (sym first) ∙ sym (take-suc c.args.offsets.now 0 0 (omega (arith, c.requires))))
          (b.reads t file (ap (λ (n : List ℕ). map.get (g.D.Depot.files c.args.depot.now) n) named ∙ is));
    }

pub loop-page-preserved : goal.loop-page-preserved
loop-page-preserved g c =
    let files = g.D.Depot.files c.args.depot.now in
    let found : List ℕ = c.args.offsets.now in
    let name = c.args.base.now ++ OFFSETS.now in
    let page = c.loop-page.page in
    let h = c.loop-page.invariant in
    let o = c.place-here.ensures in
    let s = c.pair_next.ensures in
    let within : page + 1 < length found = omega (arith, c.requires, c.loop-page-test.true, c.nodes-page-end.ensures.value) in
    record {
      name = s.name ∙ h.name;
      same = s.same ∙ h.same;
      later = none_falls-trans _ _ _ h.later s.later;
      come = come_at _ _ _ _ _ _ _ _ _ _ c.pair_next.new.pairing refl o.value
          (s.come files h.same _ h.later name h.name _ _ h.come (λ t file is. (take (page + 1) found, h.reads t file is)));
      reads = λ t file is.
          subst (λ (places : List ℕ). ComesWith file c.pair_next.new.pairing places)
          (ap (λ (v : ℕ). take (page + 1) found ++ v ∷ []) o.value ∙ taken found page within)
          (s.reads t files h.same name h.name file is (take (page + 1) found) (h.reads t file is));
    }

pub returns-in_err-pairing : goal.returns-in_err-pairing
returns-in_err-pairing g c =
    rw (is_that_err c.from_residual.result _ c.from_residual.ensures.1) (offsets_unread _ _ _ _ _ _ c.in_err-pairing.ensures.only c.args.offsets.now)

pub returns : goal.returns
returns g c =
    let files = g.D.Depot.files c.args.depot.now in
    let base = c.args.base.now in
    let p = c.args.params.now in
    let found : List ℕ = c.args.offsets.now in
    let name = base ++ OFFSETS.now in
    let page = c.loop-page.page in
    let h = c.loop-page.invariant in
    let s = c.end_pairing.ensures in
    let all : length found ≤ page + 1 =
    omega (arith, c.requires, c.loop-page-test.false, c.nodes-page-end.ensures.value, c.loop-page.auto.page-end)
    in
    let e = s.ends files h.same _ h.later name h.name _ _ h.come (λ t file is. (take (page + 1) found, h.reads t file is)) in
    offsets_judged base p found _ files _ _ _ c.end_pairing.result e.only (e.causes (file_of base) refl)
    (λ t r.
    subst (λ (l : List ℕ). Steps {B = Unit {0}} (lengths_then r p l (map.get files name)) c.end_pairing.result) (take_all (page + 1) found all)
    (e.steps t c.nodes-page-end.ensures.limits (take (page + 1) found) (λ file is. h.reads t file is) r))
    (s.same ∙ h.same) (none_falls-trans _ _ _ h.later s.later)

pub begin_pairing-requires : goal.begin_pairing-requires
begin_pairing-requires g c = c.in_ok-pairing.ensures.unread

pub pair_next-requires-clause-limits : goal.pair_next-requires-clause-limits
pair_next-requires-clause-limits g c = c.nodes-page-end.ensures.limits

pub pair_next-requires-clause-paired : goal.pair_next-requires-clause-paired
pair_next-requires-clause-paired g c = come_paired _ _ _ _ _ _ _ _ c.loop-page.pairing c.loop-page.invariant.come

pub pair_next-requires-clause-more : goal.pair_next-requires-clause-more
pair_next-requires-clause-more g c = come_before _ _ _ _ _ _ _ _ c.loop-page.pairing c.loop-page.invariant.come _ _ c.loop-page-test.true c.nodes-page-end.ensures.value

pub end_pairing-requires-clause-paired : goal.end_pairing-requires-clause-paired
end_pairing-requires-clause-paired g c = come_paired _ _ _ _ _ _ _ _ c.loop-page.pairing c.loop-page.invariant.come

pub end_pairing-requires-clause-done : goal.end_pairing-requires-clause-done
end_pairing-requires-clause-done g c = come_last _ _ _ _ _ _ _ _ c.loop-page.pairing c.loop-page.invariant.come _ _ c.loop-page-test.false c.loop-page.auto.page-end c.nodes-page-end.ensures.value
