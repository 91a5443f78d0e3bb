-- An archive that was built, in a validation.
use Rattle.std.proofs.Common.{◌≡◌, ℕ, ◌≤◌, List, length, refl, sym, ap, subst, ◌∙◌, arith, Option, Some, None, Result, Ok}
use Rattle.std.proofs.{lemmas.Option.same_Some}
use Rattle.wg_bits.specs.Bits.{bits_of}
use Rattle.wg_params.specs.{Parameters.Parameters, Parameters.IsWithinLimits, declared.limits.TheConstants.MOST_PAGES}
use Rattle.wg_properties.specs.Text.{text_of}
use Rattle.wg_properties.proofs.{Readback.read_again, ShortTexts.text_short}
use Rattle.wg_num.specs.Lines.{lines_of}
use Rattle.wg_graph.specs.Digraph.{Digraph, arc_count}
use Rattle.wg_offsets.specs.{Places.last_place, Words.places_of}
use Rattle.wg_grammar.specs.Archive.{Accepted}
use Rattle.wg_grammar.proofs.OneGraph.{graph_one}
use Rattle.wg_greedy.specs.Archive.{Archive, graph_bits, graph_file, offset_values, offsets_file}
use Rattle.wg_greedy.specs.Laws.{IsAcceptedArchive}
use Rattle.wg_greedy.proofs.{Accepted.greedy_accepted, ProperRecord.canonical_proper}
use Rattle.wg_arcs.specs.{Reading.AreArcs, Reading.IsListed, Reading.arcs_in, Text.text_of_arcs, Text.text_of_graph}
use Rattle.wg_arcs.specs.declared.fault.ArcsKind.{ArcsKind}
use Rattle.wg_arcs.proofs.{FewArcs.listed_few, Texts.text_is_of_arcs}
use Rattle.wg_ascii.specs.Text as plain
use Rattle.wg_words.proofs.LayoutLemmas.{layout_for_any}
use Rattle.wg_words.specs.declared.jobs.Job.TheVariants.{Check, Arcs}
use Rattle.wg_laws.specs.Built.{holding, IsAcceptedAs, BuiltAreAccepted, BuildsAreAccepted}
use Rattle.wg_outcomes.specs.Commands.{builds, judged, number_lines, ok_line, ranks, successors_lines, with_certificate}
use Rattle.wg_outcomes.specs.Judged.{Judged, refused, accepted, built, certified, unless_bad_list, weights_then, with_archive, with_digraph, with_file, with_graph, with_lengths, with_list, with_offsets, with_pages, with_places, with_records}
use Rattle.wg_outcomes.specs.Ranked.{HoldGraph, bounds_for, certificate_text, text_for}
use Rattle.wg_outcomes.specs.{Readings.Readings, Written.greedy_archive, Written.params_for}
use Rattle.wg_outcomes.specs.declared.status.Input.{Input}
use Rattle.wg_outcomes.specs.declared.status.Input.TheVariants as input
use Rattle.wg_readings.proofs.ReadingsLemmas.{all_agree, goes_on, goes_on_from}
use Rattle.wg_outcomes.proofs.FileLemmas.{file_goes, last_bit}

-- ---- places

module _ (r : Readings) (p : Parameters) (g : Digraph) (limits : IsWithinLimits p) (nodes : p.nodes ≡ g.nodes) (is : IsAcceptedArchive p g.lists) where
  abbrev places : List ℕ
  places = places_of (offset_values p g.lists)

  records_go_on : (next : Parameters → List ℕ → Judged) → with_records (holding (greedy_archive p g)) next ≡ next p (graph_file p g.lists)
  records_go_on next = grind (arith, read_again, text_short, file_goes)

  pub lists_go_on : (next : Digraph → Judged) → with_records (holding (greedy_archive p g)) (λ q bytes. with_digraph r q bytes next) ≡ next g
  lists_go_on next =
      records_go_on (λ q bytes. with_digraph r q bytes next)
      ∙ goes_on r p limits (graph_file p g.lists) g.lists places is.graph (λ a. next (record { nodes = p.nodes; lists = a.graph }))
      ∙ ap (λ (n : ℕ). next (record { nodes = n; lists = g.lists })) nodes

  pub holds_graph : HoldGraph r (holding (greedy_archive p g)) g
  holds_graph = record {
    text = text_of p;
    parameters = p;
    bytes = graph_file p g.lists;
    read = record { graph = g.lists; places = places };
    text_is = refl;
    parameters_are = read_again p limits;
    bytes_are = refl;
    read_is = graph_one p limits (bits_of (graph_file p g.lists)) (r.graph.value p (graph_file p g.lists)) (Ok (record { graph = g.lists; places = places })) (r.graph.reads p limits (graph_file p g.lists)) is.graph;
    graph_is = ap (λ (n : ℕ). record { nodes = n; lists = g.lists }) (sym nodes);
  }

  offsets_go_on : (next : List ℕ → Judged) → with_file input.Offsets (Some (offsets_file p g.lists)) (λ more. with_offsets r p more next) ≡ next places
  offsets_go_on next =
      file_goes input.Offsets (offsets_file p g.lists) (omega (arith, is.short_offsets)) (λ more. with_offsets r p more next)
      ∙ goes_on_from r p limits (offsets_file p g.lists) places is.offsets next

  archive_goes_on : (next : Parameters → Accepted → Judged) → with_archive r (holding (greedy_archive p g)) next ≡ next p (record { graph = g.lists; places = places })
  archive_goes_on next =
      records_go_on (λ q bytes. with_graph r q bytes (λ a. with_file input.Offsets (Some (offsets_file p g.lists)) (λ more. with_offsets r q more (λ stored. with_lengths a.places stored (λ same. next q a)))))
      ∙ goes_on r p limits (graph_file p g.lists) g.lists places is.graph (λ a. with_file input.Offsets (Some (offsets_file p g.lists)) (λ more. with_offsets r p more (λ stored. with_lengths a.places stored (λ same. next p a))))
      ∙ offsets_go_on (λ stored. with_lengths places stored (λ same. next p (record { graph = g.lists; places = places })))
      ∙ all_agree places places (λ x lt. refl) (λ same. next p (record { graph = g.lists; places = places }))

  accepted_as : (base : List ℕ) → IsAcceptedAs r p g base
  accepted_as base = record {
    check = archive_goes_on (λ q a. accepted (ok_line q (last_place a.places))) ∙ ap (λ (n : ℕ). accepted (ok_line p n)) (last_bit p g.lists);
    arcs = lists_go_on (λ h. accepted (text_of_graph h));
    ascii = lists_go_on (λ h. accepted (plain.text_of_graph h));
    offsets =
        records_go_on (λ q bytes. with_places r q bytes (λ found. accepted (number_lines found)))
        ∙ goes_on r p limits (graph_file p g.lists) g.lists places is.graph (λ a. accepted (number_lines a.places));
    show = λ pages.
        archive_goes_on (λ q a. with_pages q.nodes pages (λ all. accepted (successors_lines a.graph pages)))
        ∙ ap (λ (n : ℕ). with_pages n pages (λ all. accepted (successors_lines g.lists pages))) nodes;
    rank = λ job unweighed uncertified.
        lists_go_on (λ h. weights_then job.weights h.nodes None (λ given. ranks r job (bounds_for job h given)))
        ∙ ap (λ (o : Option (List ℕ)). weights_then o g.nodes None (λ given. ranks r job (bounds_for job g given))) unweighed
        ∙ ap (λ (o : Option (List ℕ)). with_certificate o (certificate_text (bounds_for job g None)) (text_for r job (bounds_for job g None))) uncertified;
  }

pub built_accepted : (r : Readings) → BuiltAreAccepted r
built_accepted r p g base limits is nodes arcs = accepted_as r p g limits nodes (greedy_accepted canonical_proper p g limits is nodes arcs) base

-- ---- from what was built back to its graph

-- the archive and the line, if there are some
abbrev built_in : Judged → Option (Archive × List ℕ)
built_in (refused status) = None
built_in (accepted out) = None
built_in (built a out) = Some (a, out)
built_in (certified text out) = None

pub same_built : (a b : Archive) (out text : List ℕ) → built a out ≡ built b text → (a ≡ b) × (out ≡ text)
same_built a b out text is = grind arith

module _ (a : Archive) (out : List ℕ) where
  pub file_behind : (i : Input) (o : Option (List ℕ)) (next : List ℕ → Judged) → with_file i o next ≡ built a out → (bytes : List ℕ) × (o ≡ Some bytes) × (next bytes ≡ built a out)
  file_behind i o next h = grind arith

  graph_behind : (n : ℕ) (bytes : List ℕ) (w : Result Digraph (ℕ × ArcsKind)) (next : Digraph → Judged) → IsListed n bytes w → unless_bad_list w next ≡ built a out → (g : Digraph) × AreArcs n (lines_of bytes) g × (next g ≡ built a out)
  graph_behind n bytes w next h h2 = grind arith

pub builds_accepted : (r : Readings) → BuildsAreAccepted r
builds_accepted r list_name base nodes layout held a out within is =
    let next : Digraph → Judged = builds layout in
    let file = file_behind a out input.ArcList (held input.ArcList) (λ bytes. with_list r nodes bytes next) is in
    let found = graph_behind a out nodes file.0 (r.arc_list.value nodes file.0) next (r.arc_list.reads nodes file.0) file.2 in
    let g : Digraph = found.0 in
    let are : AreArcs nodes (lines_of file.0) g = found.1 in
    let p : Parameters = params_for layout g in
    let same = same_built (greedy_archive p g) a (ok_line p (length (graph_bits p g.lists))) out found.2 in
    let limits : IsWithinLimits p = layout_for_any layout g.nodes (arc_count g) nodes 0 within (subst (λ (n : ℕ). n ≤ MOST_PAGES) (sym are.nodes) within.nodes) (listed_few nodes (lines_of file.0) g are) in
    let checked = built_accepted r p g base limits are.proper refl refl in
    record {
      check = ap (λ (b : Archive). judged r (Check base) (holding b)) (sym same.0) ∙ checked.check ∙ ap accepted same.1;
      arcs = λ bytes there.
          let one : file.0 ≡ bytes = same_Some file.0 bytes (sym file.1 ∙ there) in
          ap (λ (b : Archive). judged r (Arcs base) (holding b)) (sym same.0) ∙ checked.arcs ∙ ap accepted (text_is_of_arcs g)
          ∙ ap (λ (arcs : List (ℕ × ℕ)). accepted (text_of_arcs arcs)) (are.arcs ∙ ap (λ (text : List ℕ). arcs_in (lines_of text)) one);
    }
