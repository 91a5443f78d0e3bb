-- What is proved of a ranking after more rounds.
use Rattle.std.specs.Prelude.{◌≡◌, ℕ, ◌+◌, ◌*◌, ◌<◌, ◌≤◌, List, Option}
use Rattle.wg_params.specs.declared.limits.TheConstants.{MOST_DAMPING}
use Rattle.wg_graph.specs.Digraph.{Digraph, arc_count}
use Rattle.wg_rank.specs.Intervals.{Intervals, by_page}
use Rattle.wg_rank.specs.Rank.{gap}
use Rattle.wg_words.specs.declared.jobs.Job.TheVariants.{Rank}
use Rattle.wg_outcomes.specs.Judged.{output_of, status_of}
use Rattle.wg_words.specs.declared.jobs.RankJob.{RankJob}
use Rattle.wg_outcomes.specs.Ranked.{HoldGraph, HoldWeights, bounds_for, text_for}
use Rattle.wg_outcomes.specs.Readings.{Readings}
use Rattle.wg_outcomes.specs.declared.status.Input.{Input}
use Rattle.wg_outcomes.specs.declared.status.Status.TheVariants.{Done}
use Rattle.wg_outcomes.specs.Commands.{judged}

-- the interval of each of n pages lies inside the outer one
pub record AreInside (n : ℕ) (inner outer : Intervals) : Type 0 where
  pub low : (v : ℕ) → v < n → by_page outer.low v ≤ by_page inner.low v
  pub high : (v : ℕ) → v < n → by_page inner.high v ≤ by_page outer.high v

-- a ranking after so many rounds
abbrev pub with_rounds : ℕ → RankJob → RankJob
with_rounds rounds job = record job { rounds = rounds }

-- After fewer and after more rounds the ranking of one graph by one list of weights is printed, and the intervals after
-- more lie inside those after fewer.
pub record ArePrintedInside (r : Readings) (held : Input → Option (List ℕ)) (job : RankJob) (more : ℕ) : Type 0 where
  pub graph : Digraph
  pub given : Option (List ℕ)
  pub stored : HoldGraph r held graph
  pub weighed : HoldWeights job.weights held graph.nodes given
  pub fewer_printed : output_of (judged r (Rank job) held) ≡ text_for r job (bounds_for job graph given)
  pub more_done : status_of (judged r (Rank (with_rounds more job)) held) ≡ Done
  pub more_printed : output_of (judged r (Rank (with_rounds more job)) held) ≡ text_for r (with_rounds more job)
      (bounds_for (with_rounds more job) graph given)
  pub inside : AreInside graph.nodes (bounds_for (with_rounds more job) graph given) (bounds_for job graph given)
  -- a single round more shrinks the gap by the damping, but for what is rounded
  pub gap : more ≡ job.rounds + 1 → 0 < graph.nodes
      → 1000 * gap graph (by_page (bounds_for (with_rounds more job) graph given).low)
      ≤ job.damping * gap graph (by_page (bounds_for job graph given).low) + job.damping * arc_count graph
      + 3 * 1000 * graph.nodes

-- They are for all files of which a ranking is printed.
abbrev pub MoreRoundsNarrow : Readings → Type 0
MoreRoundsNarrow r =
    (held : Input → Option (List ℕ)) (job : RankJob) (more : ℕ) → job.rounds ≤ more → job.damping ≤ MOST_DAMPING
    → status_of (judged r (Rank job) held) ≡ Done → ArePrintedInside r held job more
