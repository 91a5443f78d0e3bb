-- What holds of all records and all graph files.
use Rattle.std.specs.Prelude.{◌≡◌, ℕ, ◌+◌, ◌≤◌, Bool, List, [], length, All, Some, Result, Ok}
use Rattle.wg_graph.specs.Ascending.{Ascends, Below}
use Rattle.wg_graph.specs.Digraph.{Digraph, IsGraph, arc_count}
use Rattle.wg_params.specs.Parameters.{Parameters, IsWithinLimits}
use Rattle.wg_grammar.specs.declared.fault.Fault.{Fault}
use Rattle.wg_grammar.specs.declared.fault.ArchiveFault.{ArchiveFault}
use Rattle.wg_grammar.specs.declared.need.Need.TheVariants.{End}
use Rattle.wg_grammar.specs.Context.{Context}
use Rattle.wg_grammar.specs.SoFar.{SoFar, nothing_yet, value_or_0}
use Rattle.wg_grammar.specs.Next.{next}
use Rattle.wg_grammar.specs.Members.{list_of}
use Rattle.wg_grammar.specs.Record.{Fields, Whole, ReadsRecord}
use Rattle.wg_grammar.specs.Archive.{Pages, Accepted, ReadsGraph}

-- Bits from an offset on are at most one record, or have at most one first fault, and never both.
abbrev pub RecordIsOne : Type 0
RecordIsOne =
    (p : Parameters) (c : Context) (bits : List Bool) (start : ℕ) (w x : Result Whole Fault) → IsWithinLimits p
    → ReadsRecord p c bits start w
    → ReadsRecord p c bits start x → w ≡ x

-- They are a record or have a fault.
abbrev pub RecordIsSome : Type 0
RecordIsSome =
    (p : Parameters) (c : Context) (bits : List Bool) (start : ℕ) → IsWithinLimits p → start ≤ length bits
    → (w : Result Whole Fault) × ReadsRecord p c bits start w

-- The list of a record ascends, and has pages of the graph alone.
abbrev pub ListsAscend : Type 0
ListsAscend =
    (p : Parameters) (c : Context) (bits : List Bool) (start : ℕ) (w : Whole) → ReadsRecord p c bits start (Ok w)
    → Ascends 0 w.known.list × Below p.nodes w.known.list

-- A record of which all is read has never more successors than its outdegree, so that too few is the one fault there.
abbrev pub NeverTooMany : Type 0
NeverTooMany =
    (p : Parameters) (c : Context) (bits : List Bool) (start : ℕ) (vs : List ℕ) (s : SoFar) (at : ℕ)
    → Fields p c bits nothing_yet start vs s at
    → next p c s ≡ End → length (list_of p c s) ≤ value_or_0 s.outdegree

-- If chains of references have a limit, no more references than that lead on from the page of a record.
abbrev pub ChainsAreLimited : Type 0
ChainsAreLimited =
    (p : Parameters) (c : Context) (bits : List Bool) (start limit : ℕ) (w : Whole) → p.chain ≡ Some limit
    → ReadsRecord p c bits start (Ok w)
    → w.known.depth ≤ limit

-- So it is of each page of a graph file.
abbrev pub PagesAreLimited : Type 0
PagesAreLimited =
    (p : Parameters) (bits : List Bool) (ws behind : List Whole) (end limit : ℕ) → p.chain ≡ Some limit
    → Pages p bits [] 0 ws behind end
    → All (λ w. w.known.depth ≤ limit) ws

-- Bits stand for at most one graph, or have at most one first fault, and never both.
abbrev pub GraphIsOne : Type 0
GraphIsOne =
    (p : Parameters) (bits : List Bool) (w x : Result Accepted ArchiveFault) → IsWithinLimits p → ReadsGraph p bits w
    → ReadsGraph p bits x → w ≡ x

-- They stand for a graph or have a fault.
abbrev pub GraphIsSome : Type 0
GraphIsSome = (p : Parameters) (bits : List Bool) → IsWithinLimits p → (w : Result Accepted ArchiveFault)
    × ReadsGraph p bits w

-- the graph that was accepted
abbrev pub accepted_graph : Parameters → Accepted → Digraph
accepted_graph p a = record { nodes = p.nodes; lists = a.graph }

-- Bits that stand for a graph give each page one list, which ascends and has pages alone.
abbrev pub GraphIsProper : Type 0
GraphIsProper = (p : Parameters) (bits : List Bool) (a : Accepted) → ReadsGraph p bits (Ok a) → IsGraph (accepted_graph p a)

-- It has exactly the arcs that the parameters promise.
abbrev pub ArcsAreAsPromised : Type 0
ArcsAreAsPromised = (p : Parameters) (bits : List Bool) (a : Accepted) → ReadsGraph p bits (Ok a)
    → arc_count (accepted_graph p a) ≡ p.arcs

-- Each record has an offset, and so has the bit after the last.
abbrev pub OffsetsAreAll : Type 0
OffsetsAreAll = (p : Parameters) (bits : List Bool) (a : Accepted) → ReadsGraph p bits (Ok a)
    → length a.places ≡ p.nodes + 1
