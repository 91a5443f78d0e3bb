-- What `rank`, `verify` and `bulk` promise of every depot, whether or not it tells its bytes.
use Rattle.std.specs.Prelude.{◌≡◌, ◌⊎◌, ℕ, List, ◌++◌, Option, None, IsTrue}
use Rattle.wg_outside.specs.Outside.{Increased}
use Rattle.wg_outside.specs.declared.depot.Depot as depot
use Rattle.wg_outside.specs.declared.sink.Sink as sink
use Rattle.wg_graph.specs.Digraph.{Digraph}
use Rattle.wg_rank.specs.Claims.{Claim}
use Rattle.wg_words.specs.declared.jobs.Job.{Job}
use Rattle.wg_words.specs.declared.jobs.Job.TheVariants.{Bulk, Rank, Verify}
use Rattle.wg_words.specs.declared.jobs.RankJob.{RankJob}
use Rattle.wg_vectors.specs.Generated.{generated}
use Rattle.wg_outcomes.specs.Bulk.{outcome_of, outcome_text}
use Rattle.wg_outcomes.specs.Causes.{IncreasedAt}
use Rattle.wg_outcomes.specs.Ranked.{PrintsRankingOf}
use Rattle.wg_outcomes.specs.Readings.{Readings}
use Rattle.wg_outcomes.specs.Verified.{PrintsGapOf}
use Rattle.wg_outcomes.specs.declared.status.Status.{Status}
use Rattle.wg_outcomes.specs.declared.status.Status.TheVariants.{Done, Memory}

-- What is printed is the ranking of some graph, by some weights of its pages, or by none if no file of weights is
-- named.
abbrev pub PrintsSomeRanking : Readings → RankJob → List ℕ → List ℕ → Type 0
PrintsSomeRanking r job old new =
    (graph : Digraph) × (given : Option (List ℕ)) × (job.weights ≡ None → given ≡ None)
    × PrintsRankingOf r graph given job old new

-- What is printed is what some bounds leave of 1, over some graph, by some weights of its pages, or by none if no file
-- of weights is named.
abbrev pub PrintsSomeGap : Option (List ℕ) → List ℕ → List ℕ → Type 0
PrintsSomeGap weights old new =
    (graph : Digraph) × (given : Option (List ℕ)) × (weights ≡ None → given ≡ None) × (claim : Claim)
    × PrintsGapOf graph given claim old new

-- Memory ran out only before a file was changed or anything was printed, or if the output or the file of this
-- name counted it.
abbrev pub WantsFirst : {D O : Type 0} → depot.Ghosts D → sink.Ghosts O → Option (List ℕ) → D → D → O → O → Status
    → Type 0
WantsFirst d o name before after out out' status =
    status ≡ Memory
    → ((d.files after ≡ d.files before) × (o.taken out' ≡ o.taken out)) ⊎ Increased (o.wants out) (o.wants out')
    ⊎ IncreasedAt (λ c. c.wants) name (d.counts before) (d.counts after)

-- what `rank` promises
pub record RanksAnywhere {D O : Type 0} (d : depot.Ghosts D) (o : sink.Ghosts O) (job : RankJob)
    (before after : D) (out out' : O) (status : Status) : Type 0 where
  pub wants : WantsFirst d o job.certificate before after out out' status
  pub ranking : IsTrue o.told → status ≡ Done → (r : Readings)
      → PrintsSomeRanking r job (o.taken out) (o.taken out')

-- what `verify` promises
abbrev pub VerifiesAnywhere : {O : Type 0} → sink.Ghosts O → Option (List ℕ) → O → O → Status → Type 0
VerifiesAnywhere o weights out out' status = IsTrue o.told → status ≡ Done
    → PrintsSomeGap weights (o.taken out) (o.taken out')

-- what `bulk` promises, which makes no call of a depot
abbrev pub GeneratesAnywhere : {O : Type 0} → sink.Ghosts O → ℕ → ℕ → O → O → Status → Type 0
GeneratesAnywhere o seed pages out out' status = IsTrue o.told → status ≡ Done → (r : Readings)
    → o.taken out' ≡ o.taken out ++ outcome_text (outcome_of r (generated seed pages))

-- what a job promises of every depot, beside the rest
abbrev pub DoesAnywhere : {D O : Type 0} → depot.Ghosts D → sink.Ghosts O → Job → D → D → O → O → Status → Type 0
DoesAnywhere d o (Rank job) before after out out' status = RanksAnywhere d o job before after out out' status
DoesAnywhere d o (Verify job) before after out out' status = VerifiesAnywhere o job.weights out out' status
DoesAnywhere d o (Bulk seed pages) before after out out' status = GeneratesAnywhere o seed pages out out' status
DoesAnywhere d o _ before after out out' status = Unit {0}
