use Rattle.std.proofs.Common.{refl}
use Rattle.wg_words.specs.{Jobs.writing, declared.jobs.Origin.TheVariants.Build}
use Rattle.wg_outcomes.proofs.BuildLemmas.{written}
use Rattle.wg_readings.proofs.JobSteps.{does_exit}
use Rattle.wg_builds.proofs.ListedJobs.{list_unread}
use Rattle.wg_builds.proofs.build.build.Goals as goal

pub returns-in_err-params : goal.returns-in_err-params
returns-in_err-params g c =
    does_exit _ _ _ _ _ _ _ _ g.met.O.Sink.stays c.from_residual.ensures.1
    (list_unread c.args.arcs.now c.args.base.now c.args.nodes c.args.layout.now _ _ _ _ _ refl c.in_err-params.ensures.ends)

pub returns : goal.returns
returns g c =
    let l = c.args.layout.now in
    let h = c.in_ok-params.ensures.makes in
    record {
      does = written (writing c.args.base.now l (Build c.args.arcs.now c.args.nodes)) _ _ _ _ _ _ l h.graph c.args.base.now c.build_archive.result refl refl
          (λ t r. h.loads.steps t r _) h.loads.same h.loads.later (c.build_archive.ensures.builds l h.graph h.params h.is);
      later = c.build_archive.ensures.later;
    }
