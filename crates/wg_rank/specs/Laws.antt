-- What holds of exact iterates and of bounds, for every graph.
use Rattle.std.specs.Prelude.{ℕ, ◌+◌, ◌*◌, ◌≡◌, ◌<◌, ◌≤◌, ◌↔◌, List, length, Result, Ok, Err}
use Rattle.wg_num.specs.Lines.{lines_of}
use Rattle.wg_graph.specs.Digraph.{Digraph, IsGraph, arc_count}
use Rattle.wg_rank.specs.Rank.{total, gap, numerator, denominator, EnclosesStationary}
use Rattle.wg_rank.specs.Intervals.{Intervals, AreBounds, AreBoundsOf, by_page}
use Rattle.wg_rank.specs.Claims.{Claim, IsClaim, Rises}
use Rattle.wg_rank.specs.CertificateText.{text_of_claim, claim_of}
use Rattle.wg_rank.specs.CertificateLines.{IsClaimed, IsFirstFault, IsOutcome}
use Rattle.wg_rank.specs.declared.fault.CertFault.{CertFault}
use Rattle.wg_rank.specs.Certified.{IsCertified}
use Rattle.wg_params.specs.declared.limits.TheConstants.{MOST_DAMPING}
use Rattle.wg_rank.specs.declared.limits.TheConstants.{UNITS}

-- The shares of an iterate add up to 1: their numerators to the denominator, which is not 0.
abbrev pub SharesAddUp : Type 0
SharesAddUp =
    (g : Digraph) (a : ℕ) (w : ℕ → ℕ) (t : ℕ) → IsGraph g → a ≤ MOST_DAMPING → 0 < g.nodes → 0 < total g w
    → (total g (numerator g a w t) ≡ denominator g w t) × (0 < denominator g w t)

-- Bounds that hold of a graph after any number of rounds, also none, are certified.
abbrev pub BoundsAreCertified : Type 0
BoundsAreCertified = (b : Intervals) (g : Digraph) → IsGraph g → AreBounds b → AreBoundsOf b g → IsCertified b g

-- They are one: the graph, the damping, the weights and the rounds alone determine them.
abbrev pub BoundsAreOne : Type 0
BoundsAreOne =
    (b c : Intervals) (g : Digraph) → AreBoundsOf b g → AreBoundsOf c g → c.damping ≡ b.damping → c.weights ≡ b.weights
    → c.rounds ≡ b.rounds
    → (c.low ≡ b.low) × (c.high ≡ b.high)

-- One round more leaves a narrower gap.
abbrev pub GapsNarrow : Type 0
GapsNarrow =
    (b c : Intervals) (g : Digraph) → IsGraph g → AreBounds b → AreBoundsOf b g → AreBoundsOf c g → c.damping ≡ b.damping
    → c.weights ≡ b.weights → c.rounds ≡ b.rounds + 1 → 0 < g.nodes
    → 1000 * gap g (by_page c.low) ≤ b.damping * gap g (by_page b.low) + b.damping * arc_count g + 3 * 1000 * g.nodes

-- Lower bounds that a round does not lower enclose each stationary vector, with what they leave of 1.
abbrev pub RisingBoundsEnclose : Type 0
RisingBoundsEnclose =
    (g : Digraph) (a : ℕ) (w l : ℕ → ℕ) → IsGraph g → a ≤ MOST_DAMPING → (0 < g.nodes → 0 < total g w) → Rises g a w l
    → EnclosesStationary g a w l (gap g l)

-- The lower bounds after any number of rounds are such, and add up to at most 1.
abbrev pub LowerBoundsRise : Type 0
LowerBoundsRise =
    (b : Intervals) (g : Digraph) → IsGraph g → AreBounds b → AreBoundsOf b g
    → Rises g b.damping (by_page b.weights) (by_page b.low) × (total g (by_page b.low) ≤ UNITS)

-- The text of a claim stands for the claim.
abbrev pub ClaimsReadBack : Type 0
ClaimsReadBack = (c : Claim) → IsClaim c → claim_of (length c.low) (text_of_claim c) ≡ Ok c

-- A text gives this claim exactly if no line is faulty and it is that of the lines.
abbrev pub ClaimsAreThose : Type 0
ClaimsAreThose = (n : ℕ) (bytes : List ℕ) (c : Claim) → (claim_of n bytes ≡ Ok c) ↔ IsClaimed n (lines_of bytes) c

-- It gives this fault exactly if this is its first one.
abbrev pub FaultsAreFirst : Type 0
FaultsAreFirst = (n : ℕ) (bytes : List ℕ) (f : CertFault)
    → (claim_of n bytes ≡ Err f) ↔ IsFirstFault n (lines_of bytes) f

-- Some lines have a claim or a first fault, and not two of these.
pub record OutcomesAreOne : Type 0 where
  pub some : (n : ℕ) (lines : List (List ℕ)) → (w : Result Claim CertFault) × IsOutcome n lines w
  pub one : (n : ℕ) (lines : List (List ℕ)) (w x : Result Claim CertFault) → IsOutcome n lines w → IsOutcome n lines x
      → w ≡ x
