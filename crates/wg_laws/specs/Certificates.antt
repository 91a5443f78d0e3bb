-- What is proved of certificates that are written and verified.
use Rattle.std.specs.Prelude.{ℕ, ◌≡◌, ◌≤◌, List, ◌++◌, Option, Some}
use Rattle.wg_params.specs.declared.limits.TheConstants.{MOST_DAMPING, MOST_ROUNDS}
use Rattle.wg_words.specs.declared.jobs.Job.TheVariants.{Rank, Verify}
use Rattle.wg_words.specs.declared.jobs.RankJob.{RankJob}
use Rattle.wg_words.specs.declared.jobs.VerifyJob.{VerifyJob}
use Rattle.wg_outcomes.specs.Judged.{accepted, certified}
use Rattle.wg_outcomes.specs.Readings.{Readings}
use Rattle.wg_outcomes.specs.declared.status.Input.{Input}
use Rattle.wg_outcomes.specs.declared.status.Input.TheVariants as input
use Rattle.wg_outcomes.specs.Commands.{judged}
use Rattle.wg_outcomes.specs.Verified.{PrintsProvenGap}

-- What is printed of a certificate that is accepted is proved, whoever made it.
abbrev pub AcceptedAreProven : Readings → Type 0
AcceptedAreProven r =
    (held : Input → Option (List ℕ)) (job : VerifyJob) (out old : List ℕ) → judged r (Verify job) held ≡ accepted out
    → PrintsProvenGap r held job.weights old (old ++ out)

-- the files of an archive's records and of the weights hold what they held
pub record AreStill (held after : Input → Option (List ℕ)) : Type 0 where
  pub properties : after input.Properties ≡ held input.Properties
  pub graph : after input.Graph ≡ held input.Graph
  pub weights : after input.Weights ≡ held input.Weights

-- The file of the certificate holds what a ranking writes of the same graph and the same weights.
pub record HoldsWritten (r : Readings) (held : Input → Option (List ℕ)) (weights : Option (List ℕ)) : Type 0 where
  pub job : RankJob
  pub text : List ℕ
  pub out : List ℕ
  pub few : job.rounds ≤ MOST_ROUNDS
  pub damped : job.damping ≤ MOST_DAMPING
  pub weighed : job.weights ≡ weights
  pub ranked : judged r (Rank job) held ≡ certified text out
  pub there : held input.Certificate ≡ Some text

-- The certificate that a ranking writes is accepted over the same graph and the same weights.
abbrev pub WrittenAreAccepted : Readings → Type 0
WrittenAreAccepted r =
    (held after : Input → Option (List ℕ)) (job : RankJob) (next : VerifyJob) (text out : List ℕ)
    → job.rounds ≤ MOST_ROUNDS → job.damping ≤ MOST_DAMPING → job.weights ≡ next.weights
    → judged r (Rank job) held ≡ certified text out
    → AreStill held after → after input.Certificate ≡ Some text → (line : List ℕ)
    × (judged r (Verify next) after ≡ accepted line)
