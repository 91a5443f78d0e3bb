use Rattle.std.proofs.Common.{◌∙◌, ap, refl, subst}
use Rattle.wg_outside.proofs.FilesLemmas.{none_falls-refl}
use Rattle.wg_outside.specs.Puts.{Puts}
use Rattle.wg_vectors.specs.Generated.{generated}
use Rattle.wg_words.specs.declared.jobs.Job.TheVariants.{Bulk}
use Rattle.wg_outcomes.specs.Bulk.{outcome_of, outcome_text}
use Rattle.wg_builds.proofs.BulkLemmas.{ends_alone}
use Rattle.wg_readings.proofs.JobSteps.{performs_exit}
use Rattle.wg_outcomes.proofs.PerformsLemmas.{printed_by}
use Rattle.wg_builds.proofs.bulk.bulk.Goals as goal

pub returns-in_err-outcome : goal.returns-in_err-outcome
returns-in_err-outcome g c = record {
  does = λ told files counts.
      performs_exit _ _ _ _ _ _ _ c.from_residual.ensures.1 (ends_alone (Bulk c.args.seed c.args.pages) told g.O.Sink.told files counts _ _ c.in_err-outcome.field-0.0 c.in_err-outcome.ensures.only);
  later = g.met.O.Sink.stays _;
}

pub returns : goal.returns
returns g c =
    let o = c.print_piece.ensures in
    record {
      does = λ told files counts.
          printed_by (Bulk c.args.seed c.args.pages) told g.O.Sink.told _ _ (λ q. outcome_text (outcome_of q (generated c.args.seed c.args.pages))) c.print_piece.result refl (λ t q. refl) refl (none_falls-refl counts)
          (λ t q. subst (λ text. Puts text (g.O.Sink.taken c.args.out.now) (g.O.Sink.taken c.print_piece.new.out) c.print_piece.result) (c.as_bytes.ensures ∙ c.text.ensures ∙ ap outcome_text (c.in_ok-outcome.ensures.value q)) (o.puts t))
          o.refusals.only o.refusals.failed (λ apart. o.refusals.memory);
      later = o.later;
    }
