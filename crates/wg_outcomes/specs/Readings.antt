-- What all graph files, all offsets files, all pages, all bounds, all arc lists and all ASCIIGraph texts stand for.
use Rattle.std.specs.Prelude.{◌≡◌, ℕ, List, Result}
use Rattle.wg_bits.specs.Bits.{bits_of}
use Rattle.wg_params.specs.Parameters.{Parameters, IsWithinLimits}
use Rattle.wg_graph.specs.Digraph.{Digraph}
use Rattle.wg_arcs.specs.declared.fault.ArcsKind.{ArcsKind}
use Rattle.wg_arcs.specs.Reading.{IsListed}
use Rattle.wg_ascii.specs.declared.fault.AsciiKind.{AsciiKind}
use Rattle.wg_ascii.specs.Reading.{IsDecided}
use Rattle.wg_grammar.specs.declared.fault.ArchiveFault.{ArchiveFault}
use Rattle.wg_grammar.specs.declared.fault.OffsetWord.{OffsetWord}
use Rattle.wg_grammar.specs.Archive.{Accepted, ReadsGraph}
use Rattle.wg_grammar.specs.Context.{Known}
use Rattle.wg_offsets.specs.Words.{ReadsOffsets}
use Rattle.wg_order.specs.Order.{IsRanking}
use Rattle.wg_decoder.specs.Chains.{SpotReads}

-- from parameters and the bytes of a graph file to the graph that they stand for, or to their first fault
pub record GraphReading : Type 0 where
  pub value : Parameters → List ℕ → Result Accepted ArchiveFault
  pub reads : (p : Parameters) → IsWithinLimits p → (bytes : List ℕ) → ReadsGraph p (bits_of bytes) (value p bytes)

-- from parameters and the bytes of an offsets file to its places, or to its first fault
pub record OffsetsReading : Type 0 where
  pub value : Parameters → List ℕ → Result (List ℕ) OffsetWord
  pub reads : (p : Parameters) → IsWithinLimits p → (bytes : List ℕ)
      → ReadsOffsets p.offsets p.nodes (bits_of bytes) (value p bytes)

-- from parameters, the bytes of a graph file, the places that an offsets file stores and a page to what the page is by
-- its chain of references, or to the first fault of this chain
pub record PageReading : Type 0 where
  pub value : Parameters → List ℕ → List ℕ → ℕ → Result Known ArchiveFault
  pub reads : (p : Parameters) → IsWithinLimits p → (bytes places : List ℕ) (page : ℕ)
      → SpotReads p (bits_of bytes) places page (value p bytes places page)

-- from the bounds of pages to the pages as they are ranked
pub record RankingReading : Type 0 where
  pub value : List ℕ → List ℕ → List ℕ
  pub reads : (low high : List ℕ) → IsRanking low high (value low high)

-- from a number of pages and an arc list to its graph, or to its first faulty line
pub record ListReading : Type 0 where
  pub value : ℕ → List ℕ → Result Digraph (ℕ × ArcsKind)
  pub reads : (n : ℕ) (bytes : List ℕ) → IsListed n bytes (value n bytes)

-- from an ASCIIGraph text to its graph, or to its first faulty line
pub record TextReading : Type 0 where
  pub value : List ℕ → Result Digraph (ℕ × AsciiKind)
  pub reads : (bytes : List ℕ) → IsDecided bytes (value bytes)

-- One function of each kind. The definitions leave one choice for each, within the limits of the parameters.
pub record Readings : Type 0 where
  pub graph : GraphReading
  pub offsets : OffsetsReading
  pub page : PageReading
  pub ranking : RankingReading
  pub arc_list : ListReading
  pub plain_text : TextReading

-- Two such choices agree within the limits.
pub record ReadingsAgree (r q : Readings) : Type 0 where
  pub graph : (p : Parameters) → IsWithinLimits p → (bytes : List ℕ) → r.graph.value p bytes ≡ q.graph.value p bytes
  pub offsets : (p : Parameters) → IsWithinLimits p → (bytes : List ℕ)
      → r.offsets.value p bytes ≡ q.offsets.value p bytes
  pub page : (p : Parameters) → IsWithinLimits p → (bytes places : List ℕ) (page : ℕ)
      → r.page.value p bytes places page ≡ q.page.value p bytes places page
  pub ranking : (low high : List ℕ) → r.ranking.value low high ≡ q.ranking.value low high
  pub arc_list : (n : ℕ) (bytes : List ℕ) → r.arc_list.value n bytes ≡ q.arc_list.value n bytes
  pub plain_text : (bytes : List ℕ) → r.plain_text.value bytes ≡ q.plain_text.value bytes

abbrev pub ReadingsAreOne : Type 0
ReadingsAreOne = (r q : Readings) → ReadingsAgree r q
