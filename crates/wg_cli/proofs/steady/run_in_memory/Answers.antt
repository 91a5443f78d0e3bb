use Rattle.std.proofs.Common.{ℕ, List, refl}
use Rattle.wg_io.specs.Memory.{steady_counts}
use Rattle.wg_words.specs.Jobs.{job_of}
use Rattle.wg_outcomes.proofs.PerformsLemmas.{faultless}
use Rattle.wg_cli.proofs.SteadyLemmas.{no_read_fault, no_write_fault, only_wants}
use Rattle.wg_cli.proofs.steady.run_in_memory.Goals as goal

pub returns-clause-usage : goal.returns-clause-usage
returns-clause-usage c = c.run.ensures.usage

pub returns-clause-no_job : goal.returns-clause-no_job
returns-clause-no_job c = c.run.ensures.no_job

pub returns-clause-no_output : goal.returns-clause-no_output
returns-clause-no_output c = c.run.ensures.no_output

pub returns-clause-answers : goal.returns-clause-answers
returns-clause-answers c = λ r job is. c.run.ensures.complete refl r job is (faultless _ _ (λ n. (refl, refl, refl, refl)))

pub returns-clause-no_read_fault : goal.returns-clause-no_read_fault
returns-clause-no_read_fault c =
    no_read_fault _ _ _ _ (faultless (λ (n : List ℕ). steady_counts c.args.depot.now) (λ (n : List ℕ). steady_counts c.run.new.depot) (λ n. (refl, refl, refl, refl))) c.run.result
    (job_of c.args.words.now) c.run.ensures.no_job c.run.ensures.causes

pub returns-clause-no_write_fault : goal.returns-clause-no_write_fault
returns-clause-no_write_fault c =
    no_write_fault _ _ _ _ (faultless (λ (n : List ℕ). steady_counts c.args.depot.now) (λ (n : List ℕ). steady_counts c.run.new.depot) (λ n. (refl, refl, refl, refl))) c.run.result
    (job_of c.args.words.now) c.run.ensures.no_job c.run.ensures.causes

pub returns-clause-output : goal.returns-clause-output
returns-clause-output c = λ r job is. c.run.ensures.output refl refl r job is

pub returns-clause-files : goal.returns-clause-files
returns-clause-files c = λ r job is. c.run.ensures.files refl r job is

pub returns-clause-line : goal.returns-clause-line
returns-clause-line c = let told = c.run.ensures.line refl in (told.0, told.1 refl, only_wants _ _ _ _ told.2)

pub returns-clause-same : goal.returns-clause-same
returns-clause-same c = c.run.ensures.same

pub returns-clause-quiet : goal.returns-clause-quiet
returns-clause-quiet c = c.run.ensures.quiet

pub returns-clause-unprinted : goal.returns-clause-unprinted
returns-clause-unprinted c = c.run.ensures.unprinted
