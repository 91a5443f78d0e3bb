-- Certificates: lower bounds that a round does not lower.
use Rattle.std.specs.Prelude.{ℕ, ◌≡◌, ◌<◌, ◌≤◌, List, length, Option, Result, Ok, Err}
use Rattle.wg_params.specs.declared.limits.TheConstants.{MOST_PAGES, MOST_DAMPING}
use Rattle.wg_graph.specs.Digraph.{Digraph}
use Rattle.wg_rank.specs.Sum.{sum_below}
use Rattle.wg_rank.specs.Rank.{lower, gap}
use Rattle.wg_rank.specs.Intervals.{Intervals, by_page}
use Rattle.wg_rank.specs.Weights.{weights_of}
use Rattle.wg_rank.specs.declared.fault.JudgeError.{JudgeError}
use Rattle.wg_rank.specs.declared.fault.JudgeError.TheVariants as error
use Rattle.wg_rank.specs.declared.limits.TheConstants.{UNITS}

-- what a certificate claims: at a damping in thousandths, a lower bound for each page, in units
pub record Claim : Type 0 where
  pub damping : ℕ
  pub low : List ℕ

-- what holds of all claims: they are within the limits, and the bounds add up to at most 1
pub record IsClaim (c : Claim) : Type 0 where
  pub few : length c.low ≤ MOST_PAGES
  pub damped : c.damping ≤ MOST_DAMPING
  pub within : sum_below (length c.low) (by_page c.low) ≤ UNITS

-- what bounds claim: their lower half
abbrev pub claim_of_bounds : Intervals → Claim
claim_of_bounds b = record { damping = b.damping; low = b.low }

-- the weights by which it is verified: those that are given, or 1 for each page
abbrev pub weights_for : Claim → Option (List ℕ) → List ℕ
weights_for c given = weights_of (length c.low) given

-- the first n numbers are at most others
abbrev pub AreAtMost : ℕ → (ℕ → ℕ) → (ℕ → ℕ) → Type 0
AreAtMost n f h = (v : ℕ) → v < n → f v ≤ h v

-- a round lowers none of these lower bounds
abbrev pub Rises : Digraph → ℕ → (ℕ → ℕ) → (ℕ → ℕ) → Type 0
Rises g a w l = AreAtMost g.nodes l (lower g a w l)

-- the first page whose bound it lowers
pub record FallsFirst (g : Digraph) (a : ℕ) (w l : ℕ → ℕ) (page : ℕ) : Type 0 where
  pub there : page < g.nodes
  pub falls : lower g a w l page < l page
  pub before : AreAtMost page l (lower g a w l)

-- a round lowers none of the bounds, which leave so much of 1, or this page is the first that falls, or memory
-- ran out
abbrev pub IsJudged : Digraph → Claim → (ℕ → ℕ) → Result ℕ JudgeError → Type 0
IsJudged g c w (Ok left) = Rises g c.damping w (by_page c.low) × (left ≡ gap g (by_page c.low))
IsJudged g c w (Err (error.Falls page)) = FallsFirst g c.damping w (by_page c.low) page
IsJudged g c w (Err error.Memory) = Unit {0}
