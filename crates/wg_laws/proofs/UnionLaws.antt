-- What a union comes to, read again.
use Rattle.std.proofs.Common.{◌≡◌, ◌≤◌, ◌∙◌, ℕ, List, Option, Result, Ok, Err, refl, sym, ap, subst, arith}
use Rattle.wg_bits.specs.Bits.{bits_of}
use Rattle.wg_params.specs.declared.limits.TheConstants.{MOST_ARCS, MOST_PAGES}
use Rattle.wg_params.specs.Parameters.{Parameters, IsWithinLimits}
use Rattle.wg_properties.specs.Judged.{properties_of}
use Rattle.wg_graph.specs.Digraph.{Digraph, IsGraph, arc_count}
use Rattle.wg_grammar.specs.{Archive.Accepted, Archive.ReadsGraph, Laws.accepted_graph}
use Rattle.wg_grammar.specs.{declared.fault.ArchiveFault.ArchiveFault, declared.fault.OffsetWord.OffsetWord}
use Rattle.wg_grammar.specs.declared.fault.ArchiveFault.TheVariants as archive
use Rattle.wg_grammar.proofs.ProperGraphs.{graph_proper}
use Rattle.wg_offsets.specs.Places.{pages_that_differ}
use Rattle.wg_shape.specs.Graphs.{union_graph}
use Rattle.wg_shape.proofs.GraphUnions.{is_union}
use Rattle.wg_arcs.specs.Text.{text_of_graph}
use Rattle.wg_outcomes.specs.Judged.{Judged, accepted, built, status_of, unless_bad_offsets, unless_some_differ, with_archive, with_digraph, with_file, with_graph, with_lengths, with_offsets, with_parameters, with_records}
use Rattle.wg_greedy.specs.Archive.{Archive}
use Rattle.wg_outcomes.specs.{Ranked.HoldGraph, Readings.Readings, Second.of_second, Second.second_held}
use Rattle.wg_outcomes.specs.{declared.status.Input.Input, Commands.builds, Commands.with_union}
use Rattle.wg_outcomes.specs.declared.status.Input.TheVariants as input
use Rattle.wg_outcomes.specs.declared.status.Status.TheVariants.{Done, BadArchive}
use Rattle.wg_laws.specs.Unions.{UnionsAreAccepted}
use Rattle.wg_laws.proofs.ConversionLemmas.{read_again}
use Rattle.wg_laws.proofs.HeldLemmas.{file_read, graph_read, read_within, text_read}

-- ---- from a job that was done back to an archive whose offsets are in order

places_read : (w : Result (List ℕ) OffsetWord) (next : List ℕ → Judged) → status_of (unless_bad_offsets w next) ≡ Done → (places : List ℕ) × ((n : List ℕ → Judged) → unless_bad_offsets w n ≡ n places)
places_read (Ok places) next is = (places, λ n. refl)
places_read (Err w) next is = absurd (let no : BadArchive (archive.Offsets w) ≡ Done = is in cc)

none_differ : (found stored : List ℕ) (differ : List ℕ) (next : Unit {0} → Judged) → status_of (unless_some_differ differ found stored next) ≡ Done → (n : Unit {0} → Judged) → unless_some_differ differ found stored n ≡ n tt
none_differ found stored differ next h = grind arith

-- the archive behind the files, with which each validation goes on
pub record ArchiveBehind (r : Readings) (held : Input → Option (List ℕ)) : Type 0 where
  pub parameters : Parameters
  pub read : Accepted
  pub within : IsWithinLimits parameters
  pub stored : HoldGraph r held (accepted_graph parameters read)
  pub proper : IsGraph (accepted_graph parameters read)
  pub goes_on : (next : Parameters → Accepted → Judged) → with_archive r held next ≡ next parameters read
  pub graph_goes_on : (next : Digraph → Judged) → with_records held (λ p bytes. with_digraph r p bytes next) ≡ next (accepted_graph parameters read)

abbrev Next : Type 0
Next = Parameters → Accepted → Judged

module _ (r : Readings) (held : Input → Option (List ℕ)) where
  -- what comes behind each step
  abbrev at_lengths : Next → Parameters → Accepted → List ℕ → Judged
  at_lengths n p a stored = with_lengths a.places stored (λ same. n p a)

  abbrev rest : Next → Parameters → Accepted → Judged
  rest n p a = with_file input.Offsets (held input.Offsets) (λ more. with_offsets r p more (at_lengths n p a))

  abbrev on : Next → Parameters → Judged
  on n p = with_file input.Graph (held input.Graph) (λ b. with_graph r p b (n p))

  abbrev by_graph : Next → Judged
  by_graph n = with_records held (λ q b. with_graph r q b (n q))

  pub archive_behind : (last : Next) → status_of (with_archive r held last) ≡ Done → ArchiveBehind r held
  archive_behind last done =
      let text = file_read input.Properties (held input.Properties) (λ t. with_parameters t (on (rest last))) done in
      let params = text_read (properties_of text.0) (on (rest last)) (ap status_of (sym (text.2 (λ t. with_parameters t (on (rest last))))) ∙ done) in
      let p : Parameters = params.0 in
      let to_params : (n : Next) → by_graph n ≡ on n p = λ n. text.2 (λ t. with_parameters t (on n)) ∙ params.2 (on n) in
      let bytes = file_read input.Graph (held input.Graph) (λ b. with_graph r p b (rest last p)) (ap status_of (sym (to_params (rest last))) ∙ done) in
      let to_bytes : (n : Next) → by_graph n ≡ with_graph r p bytes.0 (n p) = λ n. to_params n ∙ bytes.2 (λ b. with_graph r p b (n p)) in
      let found = graph_read (r.graph.value p bytes.0) (rest last p) (ap status_of (sym (to_bytes (rest last))) ∙ done) in
      let a : Accepted = found.0 in
      let to_graph : (n : Next) → by_graph n ≡ n p a = λ n. to_bytes n ∙ found.2 (n p) in
      let more = file_read input.Offsets (held input.Offsets) (λ b. with_offsets r p b (at_lengths last p a)) (ap status_of (sym (to_graph (rest last))) ∙ done) in
      let to_more : (n : Next) → with_archive r held n ≡ with_offsets r p more.0 (at_lengths n p a) = λ n. to_graph (rest n) ∙ more.2 (λ b. with_offsets r p b (at_lengths n p a)) in
      let stored = places_read (r.offsets.value p more.0) (at_lengths last p a) (ap status_of (sym (to_more last)) ∙ done) in
      let to_stored : (n : Next) → with_archive r held n ≡ at_lengths n p a stored.0 = λ n. to_more n ∙ stored.1 (at_lengths n p a) in
      let same = none_differ a.places stored.0 (pages_that_differ a.places stored.0) (λ t. last p a) (ap status_of (sym (to_stored last)) ∙ done) in
      let within = read_within text.0 p params.1 in
      record {
        parameters = p;
        read = a;
        within = within;
        stored = record {
          text = text.0;
          parameters = p;
          bytes = bytes.0;
          read = a;
          text_is = text.1;
          parameters_are = params.1;
          bytes_are = bytes.1;
          read_is = found.1;
          graph_is = refl;
        };
        proper = graph_proper p (bits_of bytes.0) a (subst (λ (w : Result Accepted ArchiveFault). ReadsGraph p (bits_of bytes.0) w) found.1 (r.graph.reads p within bytes.0));
        goes_on = λ n. to_stored n ∙ same (λ t. n p a);
        graph_goes_on = λ n. to_graph (λ q x. n (accepted_graph q x));
      }

-- a second archive that is not refused is validated as a first is
behind_second : (j : Judged) (a : Archive) (out : List ℕ) → of_second j ≡ built a out → j ≡ built a out
behind_second j a out h = grind arith

united : (g h : Digraph) (next : Digraph → Judged) (a : Archive) (out : List ℕ) → with_union g h next ≡ built a out → (arc_count (union_graph g h) ≤ MOST_ARCS) × (next (union_graph g h) ≡ built a out)
united g h next a out is = grind arith

pub unions_accepted : (r : Readings) → UnionsAreAccepted r
unions_accepted r first second output layout held a out within is =
    let next : Digraph → Judged = builds layout in
    let to_second : Parameters → Accepted → Parameters → Accepted → Judged = λ p x q y. with_union (accepted_graph p x) (accepted_graph q y) next in
    let on : Parameters → Accepted → Judged = λ p x. of_second (with_archive r (second_held held) (to_second p x)) in
    let one = archive_behind r held on (ap status_of is) in
    let p : Parameters = one.parameters in
    let x : Accepted = one.read in
    let goes = behind_second (with_archive r (second_held held) (to_second p x)) a out (sym (one.goes_on on) ∙ is) in
    let other = archive_behind r (second_held held) (to_second p x) (ap status_of goes) in
    let g : Digraph = accepted_graph p x in
    let h : Digraph = accepted_graph other.parameters other.read in
    let made = united g h next a out (sym (other.goes_on (to_second p x)) ∙ goes) in
    let union = is_union g h one.proper other.proper in
    let few_pages : (union_graph g h).nodes ≤ MOST_PAGES = omega (arith, one.within.nodes, other.within.nodes) in
    let again = read_again r layout (union_graph g h) a out within union.proper few_pages made.0 made.1 in
    let text : Digraph → Judged = λ u. accepted (text_of_graph u) in
    record {
      one = g;
      other = h;
      both = union_graph g h;
      stored_first = one.stored;
      stored_second = other.stored;
      union = union;
      written = again.written;
      first_arcs = one.graph_goes_on text;
      second_arcs = other.graph_goes_on text;
      arcs = again.goes_on text;
      check = again.check output;
    }
