-- The archive that was built of a generated graph is in order, and has this graph.
use Rattle.std.proofs.Common.{◌≡◌, ◌≤◌, ◌∙◌, Bool, true, inr, ℕ, List, [], ◌∷◌, length, get_or, None, Result, Ok, Err, refl, sym, ap, subst, arith}
use Rattle.std.proofs.lemmas.Option.{same_Some}
use Rattle.wg_outside.specs.Outside.{Files, Counts}
use Rattle.wg_params.specs.Parameters.{Parameters, IsWithinLimits, params_of}
use Rattle.wg_params.specs.declared.limits.TheConstants.{MOST_ARCS, MOST_PAGES}
use Rattle.wg_properties.specs.declared.fault.PropFault.{PropFault}
use Rattle.wg_properties.proofs.{Readback.read_again, ShortTexts.text_short}
use Rattle.wg_graph.specs.Digraph.{Digraph, IsGraph, arc_count}
use Rattle.wg_grammar.specs.Archive.{Accepted}
use Rattle.wg_offsets.specs.Words.{places_of}
use Rattle.wg_greedy.specs.Archive.{Archive, graph_bits, graph_file, offset_values, offsets_file}
use Rattle.wg_encoder.specs.ArchiveInMemory.{Summarized, HoldsArchive}
use Rattle.wg_greedy.specs.Laws.{IsAcceptedArchive}
use Rattle.wg_greedy.proofs.{Accepted.greedy_accepted, ProperRecord.canonical_proper}
use Rattle.wg_words.specs.{Layouts.default_layout, declared.jobs.Job.Job}
use Rattle.wg_params.specs.declared.layout.Layout.{Layout}
use Rattle.std.specs.Result.{OnOk}
use Rattle.wg_words.proofs.LayoutLemmas.{layout_for_any}
use Rattle.wg_outcomes.specs.{Answers.IsHindrance, Causes.AreFaultless, Names.file_of, Names.held_by, Names.no_outputs}
use Rattle.wg_outcomes.specs.Judged.{Judged, accepted, output_of, with_graph, with_offsets, offsets_then}
use Rattle.wg_readings.specs.Loading.{IsPropertiesFile, JudgesFiles, LoadsGraph, LoadsParams, digraph_then, params_then}
use Rattle.wg_readings.specs.{Pairing.files_then, Passes.graph_then}
use Rattle.wg_outcomes.specs.{Readings.Readings, declared.ending.Ending.Ending, Promised.ArePromised}
use Rattle.wg_outcomes.specs.declared.status.Input.TheVariants as input
use Rattle.wg_outcomes.specs.{declared.status.Status.Status, declared.status.Status.TheVariants.Memory}
use Rattle.wg_readings.proofs.{ReadingsLaws.the_readings, JobSteps.ends_refused, JobSteps.want_refuses}
use Rattle.wg_readings.proofs.ReadingsLemmas.{all_agree, goes_on, goes_on_from}
use Rattle.wg_outcomes.specs.{Bulk.IsBuilt, Bulk.bulk_params, Written.AreWhole, Written.archive_in, JobFiles.input_name}
use Rattle.wg_rank.specs.Rounds.{bounds_after}
use Rattle.wg_outcomes.proofs.FileLemmas.{held_goes, last_bit}
use Rattle.wg_outside.proofs.FilesLemmas.{none_falls-refl}
use Rattle.wg_writing.specs.Writing.{archive_of}
use Rattle.wg_outcomes.specs.Performs.{OutCounts, Performs, outside}
use Rattle.wg_outcomes.proofs.PerformsLemmas.{by_memory, hindered}

-- what goes on alike, whatever comes next, goes on with what gives the same text
same_text : {B : Type 0} (step : (B → Judged) → Judged) (b d : B) (text : B → List ℕ) → ((next : B → Judged) → step next ≡ next b) → ((next : B → Judged) → step next ≡ next d) → text b ≡ text d
same_text step b d text one two = ap output_of (sym (one (λ x. accepted (text x))) ∙ two (λ x. accepted (text x)))

abbrev given : Parameters → Result Parameters PropFault
given p = Ok p

-- ---- what was written

-- the graph is one, and its parameters are within the limits
pub sound_of : {A E : Type 0} (r : Result A E) (d g : Digraph) (l : Layout) (n m : ℕ) → d ≡ g → IsGraph d → n ≡ d.nodes → m ≡ arc_count d → l ≡ default_layout
    → n ≤ MOST_PAGES → m ≤ MOST_ARCS → IsWithinLimits (params_of l 0 0) → OnOk r (IsGraph g × IsWithinLimits (bulk_params g))
sound_of r d g l n m h h2 h3 h4 h5 h6 h7 h8 = grind (arith, layout_for_any)

pub built_in : (g : Digraph) (a : Summarized) (files : Files) → IsGraph g × IsWithinLimits (bulk_params g) → a ≡ archive_of (bulk_params g) g → HoldsArchive files [] a.files → IsBuilt g [] files
built_in g a files sound is h = record {
  proper = sound.0;
  limits = sound.1;
  whole = subst (λ (x : Archive). AreWhole x (archive_in [] files)) (ap (λ (x : Summarized). x.files) is) (h.properties, h.graph, h.offsets);
}

-- ---- what is read of it

module _ (g : Digraph) (base : List ℕ) (files : Files) (is : IsBuilt g base files) where
  abbrev p : Parameters
  p = bulk_params g

  abbrev places : List ℕ
  places = places_of (offset_values p g.lists)

  abbrev whole_graph : Accepted
  whole_graph = record { graph = g.lists; places = places }

  in_order : IsAcceptedArchive p g.lists
  in_order = greedy_accepted canonical_proper p g is.limits is.proper refl refl

  -- ---- what each file leads to
  params_go_on : (next : Parameters → Judged) → params_then (held_by (file_of base) files input.Properties) next ≡ next p
  params_go_on next = grind (arith, read_again, text_short, held_goes)

  graph_goes_on : (r : Readings) (next : Accepted → Judged) → graph_then r p (held_by (file_of base) files input.Graph) next ≡ next whole_graph
  graph_goes_on r next =
      held_goes input.Graph (held_by (file_of base) files input.Graph) (graph_file p g.lists) is.whole.1 (omega (arith, in_order.short_graph)) (λ bytes. with_graph r p bytes next)
      ∙ goes_on r p is.limits (graph_file p g.lists) g.lists places in_order.graph next

  offsets_go_on : (r : Readings) (next : List ℕ → Judged) → offsets_then r p (held_by (file_of base) files input.Offsets) next ≡ next places
  offsets_go_on r next =
      held_goes input.Offsets (held_by (file_of base) files input.Offsets) (offsets_file p g.lists) is.whole.2 (omega (arith, in_order.short_offsets)) (λ more. with_offsets r p more next)
      ∙ goes_on_from r p is.limits (offsets_file p g.lists) places in_order.offsets next

  files_go_on : (r : Readings) (next : ℕ → Judged) → files_then r p (held_by (file_of base) files) next ≡ next (length (graph_bits p g.lists))
  files_go_on r next = grind (arith, all_agree, last_bit, graph_goes_on, offsets_go_on)

  digraph_goes_on : (r : Readings) (next : Digraph → Judged) → digraph_then r p (held_by (file_of base) files input.Graph) next ≡ next g
  digraph_goes_on r next = graph_goes_on r (λ a. next (record { nodes = p.nodes; lists = a.graph }))

  -- ---- the parameters
  pub params_are : (q : Parameters) → IsPropertiesFile (held_by (file_of base) files input.Properties) q → q ≡ p
  params_are q file = grind (arith, same_Some, read_again)

  pub no_params : (files' : Files) (counts counts' : List ℕ → Counts) (e : Ending) → AreFaultless counts counts' 0 0 → LoadsParams base true files files' counts counts' (Err e) → e.status ≡ Memory
  no_params files' counts counts' e none l =
      by_memory (file_of base) no_outputs counts counts' none e.status l.causes (hindered (params_then (held_by (file_of base) files input.Properties)) p e params_go_on (l.steps refl))

  -- ---- graph and offsets, beside each other
  module _ (files' : Files) (counts counts' : List ℕ → Counts) (q : Parameters) (same : q ≡ p) where
    pub bits_are : (n : ℕ) → JudgesFiles base q true files files' counts counts' (Ok n) → n ≡ length (graph_bits p g.lists)
    bits_are n j =
        let r : Readings = the_readings in
        let k = subst (λ (x : Parameters). JudgesFiles base x true files files' counts counts' (Ok n)) same j in
        ap (λ (text : List ℕ). get_or text 0 0)
        (same_text (files_then r p (held_by (file_of base) files)) n (length (graph_bits p g.lists)) (λ x. x ∷ []) (k.steps refl r) (files_go_on r))

    pub no_bits : (e : Ending) → AreFaultless counts counts' 0 0 → JudgesFiles base q true files files' counts counts' (Err e) → e.status ≡ Memory
    no_bits e none j =
        let r : Readings = the_readings in
        let k = subst (λ (x : Parameters). JudgesFiles base x true files files' counts counts' (Err e)) same j in
        by_memory (file_of base) no_outputs counts counts' none e.status k.causes (hindered (files_then r p (held_by (file_of base) files)) (length (graph_bits p g.lists)) e (files_go_on r) (k.steps refl r))

    -- ---- the graph alone
    pub no_graph : (e : Ending) → AreFaultless counts counts' 0 0 → LoadsGraph base q true files files' counts counts' (Err e) → e.status ≡ Memory
    no_graph e none l =
        let r : Readings = the_readings in
        let k = subst (λ (x : Parameters). LoadsGraph base x true files files' counts counts' (Err e)) same l in
        by_memory (file_of base) no_outputs counts counts' none e.status k.reads.ends.causes
        (hindered (digraph_then r p (held_by (file_of base) files input.Graph)) g e (digraph_goes_on r) (k.reads.ends.refused refl r))

    -- the bounds of what was read are those of the graph
    pub bounds_of_graph : (h : Digraph) (damping rounds : ℕ) → LoadsGraph base q true files files' counts counts' (Ok h) → bounds_after h None damping rounds ≡ bounds_after g None damping rounds
    bounds_of_graph h damping rounds l =
        let r : Readings = the_readings in
        let k = subst (λ (x : Parameters). LoadsGraph base x true files files' counts counts' (Ok h)) same l in
        let text : (f : Digraph → List ℕ) → f h ≡ f g =
        λ f. same_text (digraph_then r p (held_by (file_of base) files input.Graph)) h g f (k.goes refl r) (digraph_goes_on r) in
        λ i. record {
          damping = damping;
          rounds = rounds;
          weights = text (λ d. (bounds_after d None damping rounds).weights) i;
          low = text (λ d. (bounds_after d None damping rounds).low) i;
          high = text (λ d. (bounds_after d None damping rounds).high) i;
        }

-- ---- a command without files ended out of memory

pub ends_alone : (job : Job) (told_files told_out : Bool) (files : Files) (counts : List ℕ → Counts) (taken : List ℕ) (out : OutCounts) (e : Ending) → e.status ≡ Memory
    → Performs job told_files told_out (outside files counts taken out) (outside files counts taken out) e.status e.promised
ends_alone job told_files told_out files counts taken out e want =
    let here = outside files counts taken out in
    ends_refused job told_files told_out here here e refl refl (none_falls-refl counts) (λ t r. inr (subst IsHindrance (sym want) tt)) (want_refuses job e.status want)
    (λ t. subst (λ (s : Status). ArePromised (held_by (input_name job) files) s e.promised) (sym want) tt)
