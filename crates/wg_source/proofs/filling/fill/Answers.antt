use Rattle.std.proofs.Common.{◌∙◌, ◌/◌, sym, ap, refl, arith}
use Rattle.std.proofs.lemmas.Result.{err_from_is_err_and}
use Rattle.wg_source.specs.Held.{HeldBytes}
use Rattle.wg_source.specs.StepLaws.{no_step, two_steps, later_cause}
use Rattle.wg_source.proofs.FillLemmas.{fewer_waits, passed_dropped, dropped_small}
use Rattle.wg_source.proofs.filling.fill.Goals as goal

pub loop-held-init : goal.loop-held-init
loop-held-init g c =
    let d = g.D.Depot in
    let none = no_step d.told c.args.name.now (d.files c.args.depot.now) (d.counts c.args.depot.now) c.args.held.now in
    record {
      steps = record {
        same = refl;
        later = none.later;
        onward = omega (arith, ap (λ (h : HeldBytes). h.at) c.drop_passed.ensures);
        looked = λ e. ap (λ (h : HeldBytes). h.looked) c.drop_passed.ensures ∙ e;
        in_step = λ t file is i. passed_dropped file _ _ c.is_ready.ensures.inside c.drop_passed.ensures i;
        small = λ s. dropped_small _ _ c.drop_passed.ensures s;
      };
      at = ap (λ (h : HeldBytes). h.at) c.drop_passed.ensures;
      first = ap (λ (h : HeldBytes). h.first) c.drop_passed.ensures ∙ ap (λ n. n / 8) (sym (ap (λ (h : HeldBytes). h.at) c.drop_passed.ensures));
    }

pub loop-held-smaller : goal.loop-held-smaller
loop-held-smaller g c = fewer_waits c.loop-held.held c.read_piece.new.self (c.is_ready-in-loop-held.ensures.more c.loop-held-test.true) (omega (arith, c.is_ready-in-loop-held.ensures.few c.loop-held-test.true, c.loop-held.invariant.first)) c.in_ok-read_piece.ensures.least c.in_ok-read_piece.ensures.more

pub returns-then-is_ready-clause-steps : goal.returns-then-is_ready-clause-steps
returns-then-is_ready-clause-steps g c = no_step _ _ _ _ _

pub loop-held-preserved : goal.loop-held-preserved
loop-held-preserved g c =
    let v = c.loop-held.invariant in
    let n = c.in_ok-read_piece.ensures in
    record {
      steps = two_steps _ _ _ _ _ _ _ _ _ _ _ _ refl v.steps n.steps;
      at = n.at ∙ v.at;
      first = n.first ∙ v.first ∙ ap (λ m. m / 8) (sym n.at);
    }

pub returns-in_err-read_piece : goal.returns-in_err-read_piece
returns-in_err-read_piece g c =
    let v = c.loop-held.invariant in
    let n = c.in_err-read_piece.ensures in
    let e = err_from_is_err_and c.from_residual.result c.from_residual.ensures.1 in
    rw (e.1, e.2) record {
      steps = two_steps _ _ _ _ _ _ _ _ _ _ _ _ refl v.steps n.steps;
      cause = later_cause _ _ _ _ _ _ _ _ _ _ _ refl v.steps n.cause;
      next = tt;
      at = n.at ∙ v.at;
      inside = tt;
    }
