-- What holds of the reference that is written, of all pages and lists.
use Rattle.std.specs.Prelude.{◌≡◌, ℕ, ◌+◌, ◌*◌, ◌^◌, ◌<◌, ◌≤◌, Bool, true, List, ◌++◌, length, All, Ok}
use Rattle.wg_outside.specs.declared.limits.TheConstants.{MOST_BYTES}
use Rattle.wg_params.specs.Parameters.{Parameters, IsWithinLimits}
use Rattle.wg_graph.specs.Ascending.{Ascends, Below}
use Rattle.wg_graph.specs.Digraph.{Digraph, IsGraph, arc_count}
use Rattle.wg_grammar.specs.Context.{Known, Context, depth_of}
use Rattle.wg_grammar.specs.Record.{ReadsRecord}
use Rattle.wg_grammar.specs.Archive.{ReadsGraph}
use Rattle.wg_bits.specs.Bits.{bits_of}
use Rattle.wg_offsets.specs.Words.{places_of, ReadsOffsets}
use Rattle.wg_greedy.specs.Fields.{bits_of_fields, reference_of}
use Rattle.wg_greedy.specs.Greedy.{canonical, size_of, is_candidate, chosen}
use Rattle.wg_greedy.specs.Archive.{graph_bits, offset_values, offsets_bits, filled, graph_file, offsets_file}

-- It is a candidate.
abbrev pub ChosenIsCandidate : Type 0
ChosenIsCandidate = (p : Parameters) (c : Context) (list : List ℕ) → is_candidate p c list (chosen p c list) ≡ true

-- No candidate's record is shorter, and a candidate before it has a longer one.
abbrev pub ChosenIsShortest : Type 0
ChosenIsShortest =
    (p : Parameters) (c : Context) (list : List ℕ) (r : ℕ) → is_candidate p c list r ≡ true
    → (size_of p c list (chosen p c list) ≤ size_of p c list r)
    × (r < chosen p c list → size_of p c list (chosen p c list) < size_of p c list r)

-- The bits of the two files are those of the records and of the offsets, filled up to a whole byte.
abbrev pub FilesHoldTheBits : Type 0
FilesHoldTheBits =
    (p : Parameters) (lists : List (List ℕ)) → (bits_of (graph_file p lists) ≡ filled (graph_bits p lists))
    × (bits_of (offsets_file p lists) ≡ filled (offsets_bits p lists))

-- the successors of a page within the limits
pub record IsList (p : Parameters) (list : List ℕ) : Type 0 where
  pub ascends : Ascends 0 list
  pub below : Below p.nodes list

-- The canonical record of a list by a candidate is a proper record of this list, wherever its bits stand. If the
-- list is empty it has no reference.
abbrev pub CanonicalIsProper : Type 0
CanonicalIsProper =
    (p : Parameters) (c : Context) (list : List ℕ) (r : ℕ) (before rest : List Bool)
    → IsWithinLimits p → c.page < p.nodes → All (λ (k : Known). IsList p k.list) c.behind → IsList p list
    → c.arcs_before + length list ≤ p.arcs → is_candidate p c list r ≡ true
    → ReadsRecord p c (before ++ (bits_of_fields (canonical p c list r) ++ rest)) (length before)
    (Ok (record {
      known = record { list = list; depth = depth_of c.behind (reference_of list r) };
      end = length before + size_of p c list r;
    }))

-- so many bits are enough for the records of so many pages with so many arcs
abbrev pub enough_bits : ℕ → ℕ → ℕ
enough_bits pages arcs = 2 ^ 9 * pages + 2 ^ 8 * arcs

-- The record that is written is short.
abbrev pub ChosenIsShort : Type 0
ChosenIsShort =
    (p : Parameters) (c : Context) (list : List ℕ) → IsWithinLimits p → c.page < p.nodes → IsList p list
    → size_of p c list (chosen p c list) ≤ enough_bits 1 (length list)

-- The graph file stands for these lists, the offsets file stores the places of the records, and both are as short as a
-- file may be.
pub record IsAcceptedArchive (p : Parameters) (lists : List (List ℕ)) : Type 0 where
  pub graph : ReadsGraph p (bits_of (graph_file p lists))
      (Ok (record { graph = lists; places = places_of (offset_values p lists) }))
  pub offsets : ReadsOffsets p.offsets p.nodes (bits_of (offsets_file p lists)) (Ok (places_of (offset_values p lists)))
  pub short_graph : length (graph_file p lists) < MOST_BYTES
  pub short_offsets : length (offsets_file p lists) < MOST_BYTES

-- The greedy archive of a graph is accepted, and has this graph.
abbrev pub GreedyIsAccepted : Type 0
GreedyIsAccepted =
    (p : Parameters) (g : Digraph) → IsWithinLimits p → IsGraph g → p.nodes ≡ g.nodes → p.arcs ≡ arc_count g
    → IsAcceptedArchive p g.lists
