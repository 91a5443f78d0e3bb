-- The ranking of a graph's pages, and its text.
use Rattle.std.specs.Prelude.{ℕ, ◌≡◌, ◌≤◌, true, List, ◌++◌, map, take, codes, decimal, Option, Some, None, Ok}
use Rattle.wg_outside.specs.Puts.{joined}
use Rattle.wg_num.specs.Units.{text_of_units}
use Rattle.wg_params.specs.declared.limits.TheConstants.{MOST_PAGES, MOST_DAMPING, MOST_ROUNDS}
use Rattle.wg_params.specs.Parameters.{Parameters}
use Rattle.wg_properties.specs.Judged.{properties_of}
use Rattle.wg_graph.specs.Digraph.{Digraph, IsGraph}
use Rattle.wg_grammar.specs.Archive.{Accepted}
use Rattle.wg_grammar.specs.Laws.{accepted_graph}
use Rattle.wg_rank.specs.Rank.{low, high}
use Rattle.wg_rank.specs.Intervals.{Intervals, by_page}
use Rattle.wg_rank.specs.Certified.{IsCertified}
use Rattle.wg_rank.specs.Rounds.{bounds_after}
use Rattle.wg_rank.specs.Claims.{claim_of_bounds}
use Rattle.wg_rank.specs.CertificateText.{text_of_claim}
use Rattle.wg_rank.specs.Weights.{AreWeights, weights_of}
use Rattle.wg_order.specs.Order.{Positions, best, worst}
use Rattle.wg_order.specs.Surely.{IsSurely}
use Rattle.wg_words.specs.declared.jobs.RankJob.{RankJob}
use Rattle.wg_outcomes.specs.Judged.{weights_in}
use Rattle.wg_outcomes.specs.Readings.{Readings}
use Rattle.wg_outcomes.specs.declared.status.Input.{Input}
use Rattle.wg_outcomes.specs.declared.status.Input.TheVariants as input

abbrev pub pages_of : Readings → Intervals → List ℕ
pages_of r b = r.ranking.value b.low b.high

-- the pages as they are ranked, and the positions that their bounds leave to them
abbrev pub positions_of : Readings → Intervals → Positions
positions_of r b = record { filled = true; low = b.low; high = b.high; pages = pages_of r b }

-- the line of page v: its bounds as parts of 1, and its first and last position
abbrev pub rank_line : Positions → ℕ → List ℕ
rank_line s v =
    decimal v ++ codes " " ++ text_of_units (by_page s.low v) ++ codes " " ++ text_of_units (by_page s.high v)
    ++ codes " " ++ decimal (best s v) ++ codes " "
    ++ decimal (worst s v) ++ codes "\n"

-- the lines of the first pages of a ranking
abbrev pub rank_lines : Positions → List ℕ → List ℕ
rank_lines s pages = joined (map (rank_line s) pages)

-- the first lines of the ranking by these bounds
abbrev pub ranking_text : Readings → Intervals → ℕ → List ℕ
ranking_text r b top = let s = positions_of r b in rank_lines s (take top s.pages)

-- what a ranking prints by these bounds
abbrev pub text_for : Readings → RankJob → Intervals → List ℕ
text_for r job b = ranking_text r b job.top

-- the certificate of these bounds: the damping, the pages, and the lower bound of each
abbrev pub certificate_text : Intervals → List ℕ
certificate_text b = text_of_claim (claim_of_bounds b)

-- the bounds of a ranking of this graph, by the weights that are given
abbrev pub bounds_for : RankJob → Digraph → Option (List ℕ) → Intervals
bounds_for job g given = bounds_after g given job.damping job.rounds

-- What the bounds and positions that are printed say: they enclose every exact iterate from these rounds on and every
-- stationary vector, within the stated width; and pages whose intervals are disjoint are in the order of their exact
-- shares.
pub record IsProvenRanking (r : Readings) (b : Intervals) (g : Digraph) : Type 0 where
  pub certified : IsCertified b g
  pub surely : IsSurely (positions_of r b) b g

-- They do, whatever the graph and the weights that are given.
abbrev pub RankingIsProven : Readings → ℕ → ℕ → Type 0
RankingIsProven r rounds damping =
    rounds ≤ MOST_ROUNDS → damping ≤ MOST_DAMPING → (g : Digraph) → IsGraph g → g.nodes ≤ MOST_PAGES
    → (given : Option (List ℕ)) → AreWeights g.nodes (weights_of g.nodes given)
    → IsProvenRanking r (bounds_after g given damping rounds) g

-- The files of an archive stand for this graph: the bytes of its graph file do, by the parameters of its properties
-- text.
pub record HoldGraph (r : Readings) (held : Input → Option (List ℕ)) (g : Digraph) : Type 0 where
  pub text : List ℕ
  pub parameters : Parameters
  pub bytes : List ℕ
  pub read : Accepted
  pub text_is : held input.Properties ≡ Some text
  pub parameters_are : properties_of text ≡ Ok parameters
  pub bytes_are : held input.Graph ≡ Some bytes
  pub read_is : r.graph.value parameters bytes ≡ Ok read
  pub graph_is : g ≡ accepted_graph parameters read

-- The files hold these weights of so many pages, if a file of them is named; without one, none are given.
abbrev pub HoldWeights : Option (List ℕ) → (Input → Option (List ℕ)) → ℕ → Option (List ℕ) → Type 0
HoldWeights None held n given = given ≡ None
HoldWeights (Some name) held n given =
    (bytes : List ℕ) × (ws : List ℕ) × (held input.Weights ≡ Some bytes) × (weights_in n bytes ≡ Ok ws)
    × (given ≡ Some ws)

-- What is printed is the ranking of this graph, by these weights of its pages, and this much is proved of its bounds
-- and positions.
pub record PrintsRankingOf (r : Readings) (graph : Digraph) (given : Option (List ℕ)) (job : RankJob)
    (old new : List ℕ) : Type 0 where
  pub proper : IsGraph graph
  pub weights : AreWeights graph.nodes (weights_of graph.nodes given)
  pub printed : new ≡ old ++ text_for r job (bounds_for job graph given)
  pub proven : IsProvenRanking r (bounds_for job graph given) graph

-- What is printed is the proven ranking of the graph that the files stand for, by the weights that they hold.
pub record PrintsProvenRanking (r : Readings) (held : Input → Option (List ℕ)) (job : RankJob)
    (old new : List ℕ) : Type 0 where
  pub graph : Digraph
  pub given : Option (List ℕ)
  pub stored : HoldGraph r held graph
  pub weighed : HoldWeights job.weights held graph.nodes given
  pub ranked : PrintsRankingOf r graph given job old new
