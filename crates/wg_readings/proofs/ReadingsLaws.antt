-- There is one function that reads all graph files, one that reads all offsets files, one that reads all pages, one
-- that ranks all bounds, one that reads all arc lists, and one that reads all ASCIIGraph texts.
use Rattle.std.proofs.Common.{◌≡◌, Option, Some, None, Err, refl, arith}
use Rattle.wg_bits.specs.Bits.{bits_of}
use Rattle.wg_params.specs.declared.key.Key.{Key}
use Rattle.wg_params.specs.Parameters.{Parameters, IsWithinLimits, first_bad}
use Rattle.wg_grammar.specs.{declared.fault.ArchiveFault.TheVariants.Tail, Archive.ReadsGraph}
use Rattle.wg_grammar.proofs.OneGraph.{graph_one, graph_some}
use Rattle.wg_grammar.specs.declared.fault.OffsetWord.TheVariants.{First}
use Rattle.wg_offsets.specs.Words.{ReadsOffsets}
use Rattle.wg_offsets.proofs.OneFile.{offsets_one, offsets_some}
use Rattle.wg_decoder.specs.Chains.{SpotReads}
use Rattle.wg_stream.proofs.SpotSome.{page_some}
use Rattle.wg_arcs.proofs.{SomeGraph.texts_are_some, Unique.listed_one}
use Rattle.wg_ascii.proofs.Some as ascii
use Rattle.wg_outcomes.specs.Readings.{Readings, ReadingsAreOne}
use Rattle.wg_order.proofs.OneRanking.{ranking_some, ranking_one}
use Rattle.wg_readings.proofs.LimitsLemmas.{within_limits, coded}
use Rattle.wg_readings.proofs.ReadingsLemmas.{decided_one, pages_one}

-- what is read, if no key is bad
abbrev in_limits : {A : Type 0} (p : Parameters) (bad : Option Key) → first_bad p ≡ bad → (IsWithinLimits p → A) → A → A
in_limits p None none read other = read (within_limits p none)
in_limits p (Some key) none read other = other

right : {A : Type 0} (P : A → Type 0) (p : Parameters) → IsWithinLimits p → (bad : Option Key) (is : first_bad p ≡ bad) (read : (l : IsWithinLimits p) → (x : A) × P x) (other : A) → P (in_limits p bad is (λ l. (read l).0) other)
right P p h bad is read other = grind arith

pub the_readings : Readings
the_readings = record {
  graph = record {
    value = λ p bytes. in_limits p (first_bad p) refl (λ l. (graph_some p l (bits_of bytes)).0) (Err (Tail 0));
    reads = λ p limits bytes. right (ReadsGraph p (bits_of bytes)) p limits (first_bad p) refl (λ l. graph_some p l (bits_of bytes)) (Err (Tail 0));
  };
  offsets = record {
    value = λ p bytes. in_limits p (first_bad p) refl (λ l. (offsets_some p.offsets (coded p l) p.nodes (bits_of bytes)).0) (Err First);
    reads = λ p limits bytes. right (ReadsOffsets p.offsets p.nodes (bits_of bytes)) p limits (first_bad p) refl (λ l. offsets_some p.offsets (coded p l) p.nodes (bits_of bytes)) (Err First);
  };
  page = record {
    value = λ p bytes places page. in_limits p (first_bad p) refl (λ l. (page_some p l (bits_of bytes) places page).0) (Err (Tail 0));
    reads = λ p limits bytes places page. right (SpotReads p (bits_of bytes) places page) p limits (first_bad p) refl (λ l. page_some p l (bits_of bytes) places page) (Err (Tail 0));
  };
  ranking = record { value = λ low high. (ranking_some low high).0; reads = λ low high. (ranking_some low high).1 };
  arc_list = record { value = λ n bytes. (texts_are_some n bytes).0; reads = λ n bytes. (texts_are_some n bytes).1 };
  plain_text = record { value = λ bytes. (ascii.texts_are_some bytes).0; reads = λ bytes. (ascii.texts_are_some bytes).1 };
}

pub readings_one : ReadingsAreOne
readings_one r q = record {
  graph = λ p limits bytes.
      graph_one p limits (bits_of bytes) (r.graph.value p bytes) (q.graph.value p bytes) (r.graph.reads p limits bytes) (q.graph.reads p limits bytes);
  offsets = λ p limits bytes.
      offsets_one p.offsets (coded p limits) p.nodes (bits_of bytes) (r.offsets.value p bytes) (q.offsets.value p bytes)
      (r.offsets.reads p limits bytes) (q.offsets.reads p limits bytes);
  page = λ p limits bytes places page.
      pages_one p limits (bits_of bytes) places page (r.page.value p bytes places page) (q.page.value p bytes places page)
      (r.page.reads p limits bytes places page) (q.page.reads p limits bytes places page);
  ranking = λ low high.
      ranking_one low high (r.ranking.value low high) (q.ranking.value low high) (r.ranking.reads low high) (q.ranking.reads low high);
  arc_list = λ n bytes.
      listed_one n bytes (r.arc_list.value n bytes) (q.arc_list.value n bytes) (r.arc_list.reads n bytes) (q.arc_list.reads n bytes);
  plain_text = λ bytes.
      decided_one bytes (r.plain_text.value bytes) (q.plain_text.value bytes) (r.plain_text.reads bytes) (q.plain_text.reads bytes);
}
