use Rattle.std.proofs.Common.{refl}
use Rattle.wg_params.specs.Parameters.{Parameters}
use Rattle.wg_words.specs.declared.jobs.Job.TheVariants.{Check}
use Rattle.wg_outcomes.specs.Commands.{ok_line}
use Rattle.wg_queries.proofs.CheckLemmas.{check_goes, check_stops, checks}
use Rattle.wg_readings.proofs.JobSteps.{loaded, does_exit, prints, unloaded}
use Rattle.wg_queries.proofs.check.check.Goals as goal

pub returns-in_err-params : goal.returns-in_err-params
returns-in_err-params g c =
    does_exit _ _ _ _ _ _ _ _ g.met.O.Sink.stays c.from_residual.ensures.1 (unloaded (Check c.args.base.now) c.args.base.now _ _ _ refl checks (λ r h. refl) _ _ refl c.in_err-params.ensures)

pub returns-in_err-bits : goal.returns-in_err-bits
returns-in_err-bits g c =
    let base = c.args.base.now in
    let p : Parameters = c.in_ok-params.params in
    does_exit _ _ _ _ _ _ _ _ g.met.O.Sink.stays c.from_residual-in_err-bits.ensures.1
    (check_stops base p _ _ _ _ _ (loaded (Check base) base _ g.O.Sink.told _ refl checks (λ r h. refl) p _ _ c.in_ok-params.ensures) _ _ refl c.in_err-bits.ensures)

pub returns : goal.returns
returns g c =
    let base = c.args.base.now in
    let p : Parameters = c.in_ok-params.params in
    let o = c.print_ok.ensures in
    record {
      does = prints (Check base) base _ _ _ p _ _ _ _
          (check_goes base p _ g.O.Sink.told _ _ _ (loaded (Check base) base _ g.O.Sink.told _ refl checks (λ r h. refl) p _ _ c.in_ok-params.ensures) _ _ c.in_ok-bits.bits c.in_ok-bits.ensures)
          (λ r. ok_line p c.in_ok-bits.bits) (λ r. refl) refl _ _ c.print_ok.result (λ t q. o.puts t) o.refusals.only o.refusals.failed (λ apart. o.refusals.memory);
      later = o.later;
    }
