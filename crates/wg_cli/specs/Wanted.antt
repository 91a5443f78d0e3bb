-- What holds of the job that some words ask for, if they ask for one.
use Rattle.std.specs.Prelude.{ℕ, Bool, true, false, Option, Some, None}
use Rattle.wg_outside.specs.Outside.{Files}
use Rattle.wg_words.specs.declared.jobs.Job.{Job}
use Rattle.wg_words.specs.declared.jobs.Job.TheVariants.{Bulk}
use Rattle.wg_outcomes.specs.JobFiles.{input_name, writes_files}
use Rattle.wg_outcomes.specs.Names.{held_by}
use Rattle.wg_outcomes.specs.Promised.{ArePromised}
use Rattle.wg_outcomes.specs.declared.status.Status.{Status}

-- whether it writes files
abbrev pub some_writes_files : Option Job → Bool
some_writes_files None = false
some_writes_files (Some job) = writes_files job

-- whether a job makes calls of the depot
abbrev pub calls_depot : Job → Bool
calls_depot (Bulk seed pages) = false
calls_depot _ = true

abbrev pub some_calls_depot : Option Job → Bool
some_calls_depot None = false
some_calls_depot (Some job) = calls_depot job

-- what its properties promise, if the line of the status names it
abbrev pub ArePromisedBy : Option Job → Files → Status → ℕ → Type 0
ArePromisedBy None files status promised = Unit {0}
ArePromisedBy (Some job) files status promised = ArePromised (held_by (input_name job) files) status promised
