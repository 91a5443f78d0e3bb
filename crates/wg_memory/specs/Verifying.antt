-- Lower bounds in an array, held against the graph of an archive.
use Rattle.std.specs.Prelude.{ℕ, ◌<◌, Bool, List, length, Result, Err}
use Rattle.wg_params.specs.Parameters.{Parameters}
use Rattle.wg_graph.specs.Digraph.{Digraph}
use Rattle.wg_grammar.specs.Archive.{ReadsGraph}
use Rattle.wg_rank.specs.Sum.{sum_below}
use Rattle.wg_rank.specs.Intervals.{by_page}
use Rattle.wg_rank.specs.Weights.{AreWeights, weights_of}
use Rattle.wg_rank.specs.Claims.{IsJudged}
use Rattle.wg_rank.specs.declared.fault.JudgeError.{JudgeError}
use Rattle.wg_rank.specs.declared.fault.JudgeError.TheVariants as judge
use Rattle.wg_rank.specs.declared.limits.TheConstants.{UNITS}
use Rattle.wg_memory.specs.Ranking.{AreWide, StandsFor, given_by}
use Rattle.wg_memory.specs.declared.ranking.RankError.{RankError}
use Rattle.wg_memory.specs.declared.ranking.RankError.TheVariants as rank
use Rattle.wg_memory.specs.declared.verifying.VerifyError.{VerifyError}
use Rattle.wg_memory.specs.declared.verifying.VerifyError.TheVariants as errors

-- what one round along the graph that the bits stand for says of the bounds in the array
abbrev pub IsVerified : Parameters → List Bool → List ℕ → ℕ → List ℕ → Result ℕ JudgeError → Type 0
IsVerified p bits weights damping words verdict =
    (g : Digraph) × StandsFor p bits g × (low : List ℕ) × AreWide words low
    × IsJudged g (record { damping = damping; low = low }) (by_page (weights_of (length low) (given_by weights))) verdict

-- the bounds in the array add up to more than 1
abbrev pub IsTooMuch : List ℕ → Type 0
IsTooMuch words = (low : List ℕ) × AreWide words low × (UNITS < sum_below (length low) (by_page low))

-- why there is no ranking; memory may run out at any time
abbrev pub IsUnranked : Parameters → List Bool → List ℕ → RankError → Type 0
IsUnranked p bits weights (rank.Archive f) = ReadsGraph p bits (Err f)
IsUnranked p bits weights rank.Weights = AreWeights p.nodes (weights_of p.nodes (given_by weights)) → ⊥
IsUnranked p bits weights rank.Memory = Unit {0}

-- why the bounds are not verified
abbrev pub IsUnverified : Parameters → List Bool → List ℕ → ℕ → List ℕ → VerifyError → Type 0
IsUnverified p bits weights damping words (errors.Unranked e) = IsUnranked p bits weights e
IsUnverified p bits weights damping words errors.Sum = IsTooMuch words
IsUnverified p bits weights damping words (errors.Falls page) =
    IsVerified p bits weights damping words (Err (judge.Falls page))
