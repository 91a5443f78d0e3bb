-- What a job comes to is one, by whichever readings of the files it is said.
use Rattle.std.specs.Prelude.{◌≡◌, ℕ, List, Option}
use Rattle.wg_words.specs.declared.jobs.Job.{Job}
use Rattle.wg_outcomes.specs.Commands.{judged}
use Rattle.wg_outcomes.specs.Readings.{Readings}
use Rattle.wg_outcomes.specs.declared.status.Input.{Input}

abbrev pub JudgementsAreOne : Type 0
JudgementsAreOne = (r q : Readings) (job : Job) (held : Input → Option (List ℕ)) → judged r job held ≡ judged q job held
