-- Bounds of PageRank over the bits of an archive, and numbers of 128 bits in arrays.
use Rattle.std.specs.Prelude.{◌≡◌, ℕ, ◌+◌, ◌*◌, ◌<◌, Bool, List, [], ◌∷◌, length, get_or, Option, Some, None, Ok}
use Rattle.wg_params.specs.Parameters.{Parameters}
use Rattle.wg_graph.specs.Digraph.{Digraph}
use Rattle.wg_grammar.specs.Archive.{Accepted, ReadsGraph}
use Rattle.wg_grammar.specs.Laws.{accepted_graph}
use Rattle.wg_grammar.specs.declared.fault.ArchiveFault.{ArchiveFault}
use Rattle.wg_rank.specs.Intervals.{Intervals}
use Rattle.wg_rank.specs.Rounds.{bounds_after}
use Rattle.wg_memory.specs.declared.ranking.RankError.{RankError}
use Rattle.wg_memory.specs.declared.ranking.RankError.TheVariants as errors

-- the bits stand for this graph
abbrev pub StandsFor : Parameters → List Bool → Digraph → Type 0
StandsFor p bits g = (a : Accepted) × ReadsGraph p bits (Ok a) × (g ≡ accepted_graph p a)

-- what holds of the fault of the archive, if the error is one
abbrev pub OfArchive : RankError → (ArchiveFault → Type 0) → Type 0
OfArchive (errors.Archive f) P = P f
OfArchive errors.Weights P = Unit {0}
OfArchive errors.Memory P = Unit {0}

-- the weights that are given; none if each page has the weight 1
abbrev pub given_by : List ℕ → Option (List ℕ)
given_by [] = None
given_by (w ∷ ws) = Some (w ∷ ws)

-- these are the bounds after so many rounds along the graph that the bits stand for
abbrev pub AreRanks : Parameters → List Bool → List ℕ → ℕ → ℕ → Intervals → Type 0
AreRanks p bits weights damping rounds b =
    (g : Digraph) × StandsFor p bits g × (b ≡ bounds_after g (given_by weights) damping rounds)

-- the number of 128 bits at a place, its lower word first
abbrev pub wide_at : List ℕ → ℕ → ℕ
wide_at words v = get_or words (2 * v) 0 + 18446744073709551616 * get_or words (2 * v + 1) 0

-- the words are those of the numbers
pub record AreWide (words numbers : List ℕ) : Type 0 where
  pub many : length words ≡ 2 * length numbers
  pub each : (v : ℕ) → v < length numbers → wide_at words v ≡ get_or numbers v 0
