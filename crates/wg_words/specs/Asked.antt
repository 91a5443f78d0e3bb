-- What is answered when a job is asked for.
use Rattle.std.specs.Prelude.{◌≡◌, ⊤, List, Option, Some, None, Result, Ok, Err, codes, if◌then◌else◌}
use Rattle.std.specs.Str.{bytes_eq}
use Rattle.clap.specs.Words.{Row, Text}
use Rattle.wg_words.specs.Jobs.{show_on, spot_on, rank_on, verify_on, build_on, import_on}
use Rattle.wg_words.specs.declared.jobs.Job.{Job}
use Rattle.wg_words.specs.declared.jobs.JobError.{JobError}
use Rattle.wg_words.specs.declared.jobs.JobError.TheVariants.{Usage, Memory}

-- the job; that there is none; or that memory ran out
abbrev pub IsAsked : Option Job → Result Job JobError → Type 0
IsAsked wanted (Ok job) = wanted ≡ Some job
IsAsked wanted (Err Usage) = wanted ≡ None
IsAsked wanted (Err Memory) = ⊤

-- the job of a command that takes more than the archive
abbrev pub more_on : Text → List Row → Text → Option Job
more_on command rows base =
    if bytes_eq command (codes "show") then show_on rows base
    else if bytes_eq command (codes "spot") then spot_on rows base
    else if bytes_eq command (codes "rank") then rank_on rows base
    else if bytes_eq command (codes "verify") then verify_on rows base
    else if bytes_eq command (codes "build") then build_on rows base
    else if bytes_eq command (codes "import") then import_on rows base
    else None
