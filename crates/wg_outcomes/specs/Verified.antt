-- A certificate against the graph of an archive.
use Rattle.std.specs.Prelude.{ℕ, ◌≡◌, ◌++◌, Bool, List, length, find, nat_lt, codes, decimal, Option, Some, None, Ok}
use Rattle.std.specs.List.{range_with_len}
use Rattle.wg_num.specs.Units.{text_of_units}
use Rattle.wg_graph.specs.Digraph.{Digraph, IsGraph}
use Rattle.wg_rank.specs.Rank.{lower, gap, EnclosesStationary}
use Rattle.wg_rank.specs.Intervals.{by_page}
use Rattle.wg_rank.specs.Claims.{Claim, weights_for}
use Rattle.wg_rank.specs.Weights.{AreWeights, weights_of}
use Rattle.wg_rank.specs.CertificateText.{claim_of}
use Rattle.wg_rank.specs.declared.fault.CertFault.TheVariants.{Falls}
use Rattle.wg_outcomes.specs.Judged.{Judged, refused}
use Rattle.wg_outcomes.specs.Readings.{Readings}
use Rattle.wg_outcomes.specs.declared.status.Input.{Input}
use Rattle.wg_outcomes.specs.declared.status.Input.TheVariants as input
use Rattle.wg_outcomes.specs.declared.status.Status.TheVariants.{BadCertificate}
use Rattle.wg_outcomes.specs.Ranked.{HoldGraph, HoldWeights}

-- whether a round lowers the bound of page v, with teleport by these weights
abbrev pub falls : Digraph → Claim → (ℕ → ℕ) → ℕ → Bool
falls g c w v = nat_lt (lower g c.damping w (by_page c.low) v) (by_page c.low v)

-- the first page whose bound it lowers, by the weights that are given, or by 1 for each page
abbrev pub first_fall : Digraph → Claim → Option (List ℕ) → Option ℕ
first_fall g c given = find (falls g c (by_page (weights_for c given))) (range_with_len 0 g.nodes)

abbrev pub unless_falls : Option ℕ → ℕ → (ℕ → Judged) → Judged
unless_falls None left next = next left
unless_falls (Some page) left next = refused (BadCertificate (Falls page))

-- goes on with what the bounds leave of 1, if a round lowers none of them
abbrev pub with_gap : Digraph → Claim → Option (List ℕ) → (ℕ → Judged) → Judged
with_gap g c given next = unless_falls (first_fall g c given) (gap g (by_page c.low)) next

-- So much do the bounds of a certificate leave of 1: each stationary vector lies between these bounds and those with so
-- much more.
abbrev pub Leaves : Digraph → Claim → Option (List ℕ) → ℕ → Type 0
Leaves g c given left = (left ≡ gap g (by_page c.low))
    × EnclosesStationary g c.damping (by_page (weights_for c given)) (by_page c.low) left

-- the line of a certificate that holds: its pages, its damping, and what its bounds leave of 1
abbrev pub verified_line : Claim → ℕ → List ℕ
verified_line c left =
    codes "ok pages=" ++ decimal (length c.low)
    ++ codes " damping=" ++ decimal c.damping ++ codes " gap=" ++ text_of_units left ++ codes "\n"

-- What is printed is what the bounds of this certificate leave of 1, over this graph and these weights of its pages.
pub record PrintsGapOf (graph : Digraph) (given : Option (List ℕ)) (claim : Claim) (old new : List ℕ) : Type 0 where
  pub proper : IsGraph graph
  pub weights : AreWeights graph.nodes (weights_of graph.nodes given)
  pub pages : length claim.low ≡ graph.nodes
  pub left : ℕ
  pub printed : new ≡ old ++ verified_line claim left
  pub leaves : Leaves graph claim given left

-- What is printed is what the bounds leave of 1, by the certificate, the graph and the weights that the files hold.
pub record PrintsProvenGap (r : Readings) (held : Input → Option (List ℕ)) (weights : Option (List ℕ))
    (old new : List ℕ) : Type 0 where
  pub graph : Digraph
  pub given : Option (List ℕ)
  pub text : List ℕ
  pub claim : Claim
  pub stored : HoldGraph r held graph
  pub weighed : HoldWeights weights held graph.nodes given
  pub text_is : held input.Certificate ≡ Some text
  pub claim_is : claim_of graph.nodes text ≡ Ok claim
  pub verified : PrintsGapOf graph given claim old new
