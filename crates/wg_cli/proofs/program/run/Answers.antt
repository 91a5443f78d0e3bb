use Rattle.std.proofs.Common.{◌≡◌, ◌∙◌, inl, inr, refl, sym, ap, subst, Option, Some}
use Rattle.wg_words.specs.{Jobs.job_of, declared.jobs.Job.Job}
use Rattle.wg_words.specs.declared.jobs.Job.TheVariants.{Bulk, Rank, Verify}
use Rattle.wg_outcomes.specs.{Answers.Answers, Answers.HasOutput, Judged.Judged, Judged.output_of, JobFiles.held_for}
use Rattle.wg_outcomes.specs.Performs.{Outside, Performs, judged_on, out_counts, outside}
use Rattle.wg_outcomes.specs.declared.status.Status.TheVariants.{Done, Memory}
use Rattle.wg_outcomes.specs.Readings.{Readings}
use Rattle.std.specs.Bool.{IsTrue}
use Rattle.wg_cli.specs.Wanted.{ArePromisedBy, some_calls_depot, some_writes_files}
use Rattle.wg_cli.proofs.{LineLemmas.nothing_promised, RunLemmas.not_begun, RunLemmas.not_done, RunLemmas.not_usage}
use Rattle.wg_words.proofs.JobLemmas.{bulk_within, job_within}
use Rattle.wg_outcomes.proofs.{PerformsLemmas.unhindered, Statuses.IsRead, Statuses.IsStop, SureLemmas.proven_outcome}
use Rattle.wg_outside.proofs.FilesLemmas.{none_falls-refl}
use Rattle.wg_cli.proofs.ProvenLemmas.{proven_ranking, when_done}
use Rattle.wg_laws.specs.Certificates.{AreStill}
use Rattle.wg_laws.proofs.{VerifiedLemmas.proven_gap, WrittenLemmas.written_accepted}
use Rattle.wg_cli.proofs.program.run.Goals as goal

pub returns-in_default : goal.returns-in_default
returns-in_default g c =
    let counts = g.D.Depot.counts c.args.depot.now in
    let at : Outside = outside (g.D.Depot.files c.args.depot.now) counts (g.O.Sink.taken c.args.out.now) (out_counts g.O.Sink c.args.out.now) in
    let stop : (job : Job) → Performs job g.D.Depot.told g.O.Sink.told at at Memory 0 = λ job. not_begun job g.D.Depot.told g.O.Sink.told at in
    record {
      usage = λ is. not_usage is;
      no_job = λ none. inr refl;
      no_output = λ none. refl;
      answers = λ t r job asked. inr tt;
      possible = λ job asked. refl;
      complete = λ t r job asked quiet. inr refl;
      causes = λ job asked. (stop job).causes;
      reached = λ t r job asked i is. absurd (subst IsRead is tt);
      needed = λ t r job asked o is. absurd (subst IsStop is tt);
      silent = λ job asked apart. inr (inr refl);
      unprinted = λ job asked apart want. inl refl;
      printed_last = λ t r job asked want. inl refl;
      certified = λ t o r job asked is. not_done is;
      ranked = λ o r job asked is. not_done is;
      wants_first = λ job asked want. inl (refl, refl);
      sure = λ o r seed pages asked is. not_done is;
      verified = λ t o r job asked is. not_done is;
      leaves = λ o job asked is. not_done is;
      accepts = λ t r job asked holds. inr tt;
      output = λ t o r job asked. (stop job).output t o r;
      files = λ t r job asked. (stop job).files t r;
      same = λ none. refl;
      untouched = λ none. refl;
      later = none_falls-refl counts;
      later_out = g.met.O.Sink.stays _;
      later_err = c.report.ensures.later;
      line = λ e. (0, λ t. nothing_promised (job_of c.args.words.now) (g.D.Depot.files c.args.depot.now) 0, c.report.ensures.line e);
      quiet = λ is. not_done is;
    }

pub returns : goal.returns
returns g c =
    let e = c.in-Ok.ensures.job in
    let ended = c.try_job-ending.ensures in
    let files = g.D.Depot.files c.args.depot.now in
    let does = λ (job : Job) (asked : job_of c.args.words.now ≡ Some job). ended.performs job (e ∙ asked) in
    let is_status = λ (r : Readings) (job : Job) (t : IsTrue g.D.Depot.told) (asked : job_of c.args.words.now ≡ Some job) (done : c.try_job-ending.result.status ≡ Done).
    when_done (judged_on r job files) (subst (Answers (judged_on r job files)) done ((does job asked).answers t r)) in
    let is_output = λ (r : Readings) (job : Job) (t : IsTrue g.D.Depot.told) (o : IsTrue g.O.Sink.told) (asked : job_of c.args.words.now ≡ Some job) (done : c.try_job-ending.result.status ≡ Done).
    subst (HasOutput (output_of (judged_on r job files)) (g.O.Sink.taken c.args.out.now) (g.O.Sink.taken c.try_job-ending.new.out)) done ((does job asked).output t o r) in
    record {
      usage = λ is. sym e ∙ ended.usage is;
      no_job = λ none. inl (ended.no_job (e ∙ none));
      no_output = λ none. ended.no_output (e ∙ none);
      answers = λ t r job asked. (does job asked).answers t r;
      possible = λ job asked. (does job asked).possible;
      complete = λ t r job asked quiet.
          unhindered _ _ _ _ _ _ quiet (judged_on r job files) _ (does job asked).causes ((does job asked).answers t r);
      causes = λ job asked. (does job asked).causes;
      reached = λ t r job asked i fault. (does job asked).reached t r i fault;
      needed = λ t r job asked o fault. (does job asked).needed t r o fault;
      silent = λ job asked apart. (does job asked).silent apart;
      unprinted = λ job asked apart. (does job asked).unprinted apart;
      printed_last = λ t r job asked want. (does job asked).printed_last t r want;
      certified = λ t o r job asked done.
          let within = job_within c.args.words.now (Rank job) asked in
          proven_ranking r (held_for (Rank job) files) job _ _ within.0 within.1 (is_status r (Rank job) t asked done) (is_output r (Rank job) t o asked done);
      ranked = λ o r job asked done. (ended.anywhere (Rank job) (e ∙ asked)).ranking o done r;
      wants_first = λ job asked. (ended.anywhere (Rank job) (e ∙ asked)).wants;
      sure = λ o r seed pages asked done.
          proven_outcome r seed pages _ _ (bulk_within c.args.words.now seed pages asked) (ended.anywhere (Bulk seed pages) (e ∙ asked) o done r);
      verified = λ t o r job asked done.
          proven_gap r (held_for (Verify job) files) job _ _ (is_status r (Verify job) t asked done) (is_output r (Verify job) t o asked done);
      leaves = λ o job asked done. ended.anywhere (Verify job) (e ∙ asked) o done;
      accepts = λ t r job asked holds.
          let held = held_for (Verify job) files in
          let still : AreStill held held = record { properties = refl; graph = refl; weights = refl } in
          let accepted = written_accepted r held held still holds.job job holds.text holds.out holds.few holds.damped holds.weighed holds.ranked holds.there in
          subst (λ (j : Judged). Answers j c.try_job-ending.result.status) accepted.1 ((does (Verify job) asked).answers t r);
      output = λ t o r job asked. (does job asked).output t o r;
      files = λ t r job asked. (does job asked).files t r;
      same = λ none. ended.same (ap some_writes_files e ∙ none);
      untouched = λ none. ended.untouched (ap some_calls_depot e ∙ none);
      later = ended.later;
      later_out = ended.later_out;
      later_err = c.report-2.ensures.later;
      line = λ told. (
        c.try_job-ending.result.promised,
        λ t. subst (λ (asked : Option Job). ArePromisedBy asked files c.try_job-ending.result.status c.try_job-ending.result.promised) e (ended.promised t),
        rw e at c.report-2.ensures.line told,
      );
      quiet = λ is. c.report-2.ensures.quiet is;
    }

pub try_job-ending-requires : goal.try_job-ending-requires
try_job-ending-requires g c = c.in-Ok.ensures.within
