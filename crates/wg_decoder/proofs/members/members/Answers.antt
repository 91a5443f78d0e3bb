use Rattle.std.proofs.Common.{◌≡◌, ◌-◌, cond, length, refl, ap, arith}
use Rattle.std.proofs.lemmas.Result.{err_from_is_err_and, on_ok_weaker}
use Rattle.wg_decoder.specs.Answer.{context_at}
use Rattle.wg_grammar.proofs.ErrorLemmas.{fault_weaker, faults_weaker, refusal_weaker, refusals_weaker}
use Rattle.wg_decoder.proofs.MemberLemmas.{inside_reached}
use Rattle.wg_decoder.proofs.SpareLemmas.{all_short}
use Rattle.wg_decoder.proofs.WholeLemmas.{no_copies, no_intervals, no_residuals, to_copies, all_read, union_ascends, union_below, union_short}
use Rattle.wg_decoder.proofs.members.members.Goals as goal

pub returns-in_err-whole-clause-fault : goal.returns-in_err-whole-clause-fault
returns-in_err-whole-clause-fault g c = λ bits r.
    let h = c.args.head in
    let p = err_from_is_err_and c.from_residual.result c.from_residual.ensures.1 in
    rw (p.1, p.2) (fault_weaker c.in_err-whole.field-0.0 _ _
    (λ e not_so before start behind names head.
    no_copies c.args.params.now c.args.page before behind bits bits start h.outdegree (g.S.Source.offset c.args.source.now) h.reference e refl head (not_so behind names))
    (c.in_err-whole.ensures.fault bits r))

pub returns-in_err-intervals-clause-later : goal.returns-in_err-intervals-clause-later
returns-in_err-intervals-clause-later g c = g.met.S.Source.goes_on _ _ _ c.in_ok-whole.ensures.later c.in_err-intervals.ensures.later

pub returns-in_err-intervals-clause-refused : goal.returns-in_err-intervals-clause-refused
returns-in_err-intervals-clause-refused g c =
    let p = err_from_is_err_and c.from_residual-in_err-intervals.result c.from_residual-in_err-intervals.ensures.1 in
    rw (p.1, p.2) (refusal_weaker c.in_err-intervals.field-0.0 _ _
    (λ x h. g.met.S.Source.still_caused _ _ _ x c.in_ok-whole.ensures.later h)
    c.in_err-intervals.ensures.refused)

pub returns-in_err-intervals-clause-fault : goal.returns-in_err-intervals-clause-fault
returns-in_err-intervals-clause-fault g c = λ bits r.
    let q = c.args.params.now in
    let page = c.args.page in
    let h = c.args.head in
    let at = g.S.Source.offset c.copied.new.source in
    let kept = cond c.in_ok-whole.whole c.args.named.now c.copied.new.spare in
    let on = g.met.S.Source.same_bits _ _ bits c.in_ok-whole.ensures.later r in
    let extra = h.outdegree - length c.chosen-members.result.now in
    let p = err_from_is_err_and c.from_residual-in_err-intervals.result c.from_residual-in_err-intervals.ensures.1 in
    rw (p.1, p.2) (fault_weaker c.in_err-intervals.field-0.0 _ _
    (λ e not_so before start behind names head.
    let copies = to_copies q page before behind bits bits start h.outdegree (g.S.Source.offset c.args.source.now) h.reference kept at refl head (c.in_ok-whole.ensures.ok bits r behind names) in
    no_intervals q (context_at page before behind) page bits bits start h.outdegree h.reference kept at extra e refl refl c.requires.some (omega (arith, ap length c.chosen-members.ensures)) copies not_so)
    (c.in_err-intervals.ensures.fault bits on))

pub with_residuals-requires-clause-ascends : goal.with_residuals-requires-clause-ascends
with_residuals-requires-clause-ascends g c =
    let n = c.args.params.now.nodes in
    union_ascends n (cond c.in_ok-whole.whole c.args.named.now c.copied.new.spare) c.intervals.new.inside c.in_ok-others.others.now ((rw (c.as_slice-inside.ensures, c.chosen-members.ensures) at c.in_ok-others.ensures.union) n c.in_ok-whole.ensures.below c.in_ok-intervals.ensures.below)

pub with_residuals-requires-clause-below : goal.with_residuals-requires-clause-below
with_residuals-requires-clause-below g c =
    let n = c.args.params.now.nodes in
    union_below n (cond c.in_ok-whole.whole c.args.named.now c.copied.new.spare) c.intervals.new.inside c.in_ok-others.others.now ((rw (c.as_slice-inside.ensures, c.chosen-members.ensures) at c.in_ok-others.ensures.union) n c.in_ok-whole.ensures.below c.in_ok-intervals.ensures.below)

pub returns : goal.returns
returns g c = record {
  later = g.met.S.Source.goes_on _ _ _ c.in_ok-whole.ensures.later (g.met.S.Source.goes_on _ _ _ c.in_ok-intervals.ensures.later c.with_residuals.ensures.later);
  refused =
      refusals_weaker c.with_residuals.result _ _
      (λ x h. g.met.S.Source.still_caused _ _ _ x c.in_ok-whole.ensures.later (g.met.S.Source.still_caused _ _ _ x c.in_ok-intervals.ensures.later h))
      c.with_residuals.ensures.refused;
  reads = λ bits r.
      let q = c.args.params.now in
      let page = c.args.page in
      let h = c.args.head in
      let s = g.S.Source in
      let kept = cond c.in_ok-whole.whole c.args.named.now c.copied.new.spare in
      let inside = c.intervals.new.inside in
      let others = c.in_ok-others.others.now in
      let on = g.met.S.Source.same_bits _ _ bits c.in_ok-whole.ensures.later r in
      let further = g.met.S.Source.same_bits _ _ bits c.in_ok-intervals.ensures.later on in
      let extra = h.outdegree - length c.chosen-members.result.now in
      let missing = extra - length c.as_slice-inside.result.now in
      let extra_is : extra ≡ h.outdegree - length kept = omega (arith, ap length c.chosen-members.ensures) in
      let missing_is : missing ≡ h.outdegree - length kept - length inside = omega (arith, extra_is, ap length c.as_slice-inside.ensures) in
      on_ok_weaker c.with_residuals.result
      (λ joined before start behind names head.
      let reached = inside_reached q page h.outdegree h.reference bits c.requires.some before start behind (s.offset c.args.source.now) head kept (s.offset c.copied.new.source) extra inside (s.offset c.intervals.new.source)
      extra_is (c.in_ok-whole.ensures.ok bits r behind names) (c.in_ok-intervals.ensures.ok bits on) in
      all_read q (context_at page before behind) page (s.reads_from c.intervals.new.source) bits bits start h.outdegree h.reference kept inside (s.offset c.intervals.new.source) missing others c.with_residuals.new.list (s.offset c.with_residuals.new.source)
      refl refl c.requires.some missing_is reached ((rw (c.as_slice-inside.ensures, c.chosen-members.ensures) at c.in_ok-others.ensures.union) q.nodes c.in_ok-whole.ensures.below c.in_ok-intervals.ensures.below) further joined)
      c.with_residuals.ensures.ok;
  fault = λ bits r.
      let q = c.args.params.now in
      let page = c.args.page in
      let h = c.args.head in
      let s = g.S.Source in
      let kept = cond c.in_ok-whole.whole c.args.named.now c.copied.new.spare in
      let inside = c.intervals.new.inside in
      let on = g.met.S.Source.same_bits _ _ bits c.in_ok-whole.ensures.later r in
      let further = g.met.S.Source.same_bits _ _ bits c.in_ok-intervals.ensures.later on in
      let extra = h.outdegree - length c.chosen-members.result.now in
      let missing = extra - length c.as_slice-inside.result.now in
      let extra_is : extra ≡ h.outdegree - length kept = omega (arith, ap length c.chosen-members.ensures) in
      let missing_is : missing ≡ h.outdegree - length kept - length inside = omega (arith, extra_is, ap length c.as_slice-inside.ensures) in
      faults_weaker c.with_residuals.result _ _
      (λ e not_so before start behind names head.
      let reached = inside_reached q page h.outdegree h.reference bits c.requires.some before start behind (s.offset c.args.source.now) head kept (s.offset c.copied.new.source) extra inside (s.offset c.intervals.new.source)
      extra_is (c.in_ok-whole.ensures.ok bits r behind names) (c.in_ok-intervals.ensures.ok bits on) in
      no_residuals q (context_at page before behind) page bits bits start h.outdegree h.reference kept inside (s.offset c.intervals.new.source) missing e refl refl c.requires.some missing_is reached not_so)
      (c.with_residuals.ensures.fault bits further);
  ascends =
      on_ok_weaker c.with_residuals.result (λ j. union_ascends c.args.params.now.nodes c.in_ok-others.others.now j.residuals c.with_residuals.new.list j.union) c.with_residuals.ensures.ok;
  below =
      on_ok_weaker c.with_residuals.result (λ j. union_below c.args.params.now.nodes c.in_ok-others.others.now j.residuals c.with_residuals.new.list j.union) c.with_residuals.ensures.ok;
  few =
      let n = c.args.params.now.nodes in
      let united = (rw (c.as_slice-inside.ensures, c.chosen-members.ensures) at c.in_ok-others.ensures.union) n c.in_ok-whole.ensures.below c.in_ok-intervals.ensures.below in
      let few = union_short n (cond c.in_ok-whole.whole c.args.named.now c.copied.new.spare) c.intervals.new.inside c.in_ok-others.others.now united in
      on_ok_weaker c.with_residuals.result
      (λ j.
      let all = union_short n c.in_ok-others.others.now j.residuals c.with_residuals.new.list j.union in
      omega (arith, few, all, j.all, c.in_ok-whole.ensures.fits, c.in_ok-intervals.ensures.fits, ap length c.as_slice-inside.ensures, ap length c.chosen-members.ensures))
      c.with_residuals.ensures.ok;
  short =
      let s = c.spares.inside in
      let n = c.args.params.now.nodes in
      all_short n s.copied s.inside s.united s.furthest _ _ _ c.args.spares.now c.spares.view_is c.in_ok-whole.ensures.short c.in_ok-intervals.ensures.short
      (c.union.follows.holds-at-none n (rw c.chosen-members.ensures c.in_ok-whole.ensures.below) (rw c.as_slice-inside.ensures c.in_ok-intervals.ensures.below));
}

pub returns-in_err-others-clause-later : goal.returns-in_err-others-clause-later
returns-in_err-others-clause-later g c = g.met.S.Source.goes_on _ _ _ c.in_ok-whole.ensures.later c.in_ok-intervals.ensures.later

pub returns-in_err-reserve-clause-later : goal.returns-in_err-reserve-clause-later
returns-in_err-reserve-clause-later g c = g.met.S.Source.goes_on _ _ _ c.in_ok-whole.ensures.later c.in_ok-intervals.ensures.later

pub returns-in_err-whole-clause-short : goal.returns-in_err-whole-clause-short
returns-in_err-whole-clause-short g c =
    let s = c.spares.inside in
    all_short c.args.params.now.nodes s.copied s.inside s.united s.furthest _ _ _ c.args.spares.now c.spares.view_is c.in_err-whole.ensures.short (λ h. h) (λ h. h)

pub returns-in_err-intervals-clause-short : goal.returns-in_err-intervals-clause-short
returns-in_err-intervals-clause-short g c =
    let s = c.spares.inside in
    all_short c.args.params.now.nodes s.copied s.inside s.united s.furthest _ _ _ c.args.spares.now c.spares.view_is c.in_ok-whole.ensures.short c.in_err-intervals.ensures.short (λ h. h)

pub returns-in_err-others-clause-short : goal.returns-in_err-others-clause-short
returns-in_err-others-clause-short g c =
    let s = c.spares.inside in
    let n = c.args.params.now.nodes in
    all_short n s.copied s.inside s.united s.furthest _ _ _ c.args.spares.now c.spares.view_is c.in_ok-whole.ensures.short c.in_ok-intervals.ensures.short
    (c.union.follows.holds-at-none n (rw c.chosen-members.ensures c.in_ok-whole.ensures.below) (rw c.as_slice-inside.ensures c.in_ok-intervals.ensures.below))

pub returns-in_err-reserve-clause-short : goal.returns-in_err-reserve-clause-short
returns-in_err-reserve-clause-short g c =
    let s = c.spares.inside in
    let n = c.args.params.now.nodes in
    all_short n s.copied s.inside s.united s.furthest _ _ _ c.args.spares.now c.spares.view_is c.in_ok-whole.ensures.short c.in_ok-intervals.ensures.short
    (c.union.follows.holds-at-none n (rw c.chosen-members.ensures c.in_ok-whole.ensures.below) (rw c.as_slice-inside.ensures c.in_ok-intervals.ensures.below))
