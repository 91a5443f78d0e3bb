use Rattle.std.proofs.Common.{refl}
use Rattle.wg_words.specs.{Jobs.writing, declared.jobs.Origin.TheVariants.Import}
use Rattle.wg_outcomes.proofs.BuildLemmas.{written}
use Rattle.wg_readings.proofs.JobSteps.{does_exit}
use Rattle.wg_builds.proofs.ImportJobs.{text_unread}
use Rattle.wg_builds.proofs.import.import.Goals as goal

pub returns-in_err-params : goal.returns-in_err-params
returns-in_err-params g c =
    does_exit _ _ _ _ _ _ _ _ g.met.O.Sink.stays c.from_residual.ensures.1 (text_unread c.args.text.now c.args.base.now c.args.layout.now _ _ _ _ _ refl c.in_err-params.ensures.ends)

pub returns : goal.returns
returns g c =
    let l = c.args.layout.now in
    let h = c.in_ok-params.ensures.makes in
    record {
      does = written (writing c.args.base.now l (Import c.args.text.now)) _ _ _ _ _ _ l h.graph c.args.base.now c.build_archive.result refl refl
          (λ t r. h.loads.steps t r _) h.loads.same h.loads.later (c.build_archive.ensures.builds l h.graph h.params h.is);
      later = c.build_archive.ensures.later;
    }
