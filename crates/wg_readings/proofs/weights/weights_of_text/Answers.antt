use Rattle.std.proofs.Common.{◌≡◌, inl, inr, ℕ, nat_eq, true, List, length, sym, ap, subst, arith}
use Rattle.wg_rank.specs.{Sum.sum_below, Intervals.by_page}
use Rattle.wg_outcomes.specs.{Answers.Answers, Judged.with_weights, declared.ending.Ending.Ending}
use Rattle.wg_outcomes.specs.declared.status.Status.{Status}
use Rattle.wg_outcomes.specs.declared.status.WeightsFault.TheVariants as weights
use Rattle.wg_readings.proofs.ClassLemmas.{by_fault, is_out, some_pages, weights_refused, weights_zero}
use Rattle.wg_readings.proofs.weights.weights_of_text.Goals as goal

pub returns-in-Err-Fault : goal.returns-in-Err-Fault
returns-in-Err-Fault c =
    let is = ap (λ (e : Ending). e.status) c.bad_weights.ensures in
    record {
      steps = λ next.
          subst (λ (s : Status). Answers (with_weights c.args.nodes c.args.bytes.now next) s) (sym is)
          (weights_refused c.args.nodes c.args.bytes.now next _ (by_fault _ _ c.in-Err-Fault.fault c.in-Err-Fault.field-0-is c.in-Err-Fault.ensures.read));
      only = inr (weights.Numbers c.in-Err-Fault.fault, is, ap (λ (e : Ending). e.promised) c.bad_weights.ensures);
      weights = tt;
    }

pub returns-in-Err-Memory : goal.returns-in-Err-Memory
returns-in-Err-Memory c = record { steps = λ next. inr (is_out c.of.ensures.status); only = inl c.of.ensures.status; weights = tt }

pub returns-then-all_zero : goal.returns-then-all_zero
returns-then-all_zero c =
    let e = c.bad_weights-then-all_zero.ensures in
    let is = ap (λ (e : Ending). e.status) e in
    record {
      steps = λ next.
          subst (λ (s : Status). Answers (with_weights c.args.nodes c.args.bytes.now next) s) (sym is)
          (weights_zero c.args.nodes c.args.bytes.now next c.in-Ok.weights c.in-Ok.ensures.read (some_pages c.args.nodes c.in-Ok.weights _ (omega arith) c.in-Ok.ensures.count
          (sym (subst (λ (ws : List ℕ). true ≡ nat_eq (sum_below (length ws) (by_page ws)) 0) c.as_slice.ensures c.if-all_zero.ensures))));
      only = inr (weights.Zero, is, ap (λ (e : Ending). e.promised) e);
      weights = tt;
    }
