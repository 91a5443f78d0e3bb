-- How far a job had come.
use Rattle.wg_outcomes.specs.Answers.{without}
use Rattle.std.specs.Prelude.{◌≡◌, ℕ, List, Option}
use Rattle.wg_words.specs.declared.jobs.Job.{Job}
use Rattle.wg_outcomes.specs.Readings.{Readings}
use Rattle.wg_outcomes.specs.Commands.{judged}
use Rattle.wg_outcomes.specs.Judged.{refused}
use Rattle.wg_outcomes.specs.declared.status.Input.{Input}
use Rattle.wg_outcomes.specs.declared.status.Status.TheVariants.{Missing}

-- all inputs before this one are held and without refusal: were it absent, it would be the one to miss
abbrev pub Reaches : Readings → Job → (Input → Option (List ℕ)) → Input → Type 0
Reaches r job held i = judged r job (without i held) ≡ refused (Missing i)
