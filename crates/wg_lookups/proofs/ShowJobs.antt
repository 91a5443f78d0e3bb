-- How `show` goes on from step to step, or ends.
use Rattle.std.proofs.Common.{◌≡◌, ◌∙◌, inl, ℕ, Bool, true, false, List, [], ◌∷◌, Option, Result, Ok, Err, refl, sym, subst}
use Rattle.std.specs.{Bool.IsTrue, Result.IfErr}
use Rattle.wg_outside.specs.{Outside.Files, Outside.Counts, Outside.Increased, Puts.Puts}
use Rattle.wg_outside.specs.declared.output.Output.TheVariants.{Out}
use Rattle.wg_bits.specs.Bits.{bits_of}
use Rattle.wg_params.specs.Parameters.{Parameters, IsWithinLimits}
use Rattle.wg_grammar.specs.Archive.{Accepted, ReadsGraph}
use Rattle.wg_graph.specs.Numbers.{is_in}
use Rattle.wg_words.specs.{declared.jobs.Job.Job, declared.jobs.Job.TheVariants.Show}
use Rattle.wg_outcomes.specs.{Answers.Answers, Answers.IsUnput, Answers.Steps, Answers.status_in, Names.file_of}
use Rattle.wg_outcomes.specs.{Commands.successors_lines, Promised.IsBadFile, Promised.promised_in, Readings.Readings}
use Rattle.wg_outcomes.specs.Judged.{Judged, accepted, with_file, with_graph, with_lengths, with_pages, offsets_then}
use Rattle.wg_readings.specs.Loading.{JudgesOffsets, Loads, LoadsParams, lengths_then}
use Rattle.wg_outcomes.specs.Performs.{OutCounts, Outside, Performs, outside}
use Rattle.wg_outcomes.specs.{declared.ending.Ending.Ending, declared.status.Input.Input}
use Rattle.wg_outcomes.specs.declared.status.Input.TheVariants.{Properties, Graph, Offsets}
use Rattle.wg_outcomes.specs.declared.status.Status.TheVariants.{NoPage, WriteFault}
use Rattle.wg_readings.proofs.JobSteps.{ComesTo, comes_on, ends, ends_reading, loaded, prints, refuses, refuses_page, unloaded}
use Rattle.wg_readings.proofs.ReadingsLemmas.{goes_on}

module _ (base pages : List ℕ) (td to : Bool) (before : Outside) where
  abbrev job : Job
  job = Show base pages

  -- what comes behind each step
  abbrev lines : Accepted → Judged
  lines a = accepted (successors_lines a.graph pages)

  abbrev behind_lengths : Parameters → Accepted → Judged
  behind_lengths p a = with_pages p.nodes pages (λ all. lines a)

  abbrev behind_graph : Parameters → Accepted → Readings → (Input → Option (List ℕ)) → Judged
  behind_graph p a r h = offsets_then r p (h Offsets) (λ stored. with_lengths a.places stored (λ same. behind_lengths p a))

  abbrev behind_params : Parameters → Readings → (Input → Option (List ℕ)) → Judged
  behind_params p r h = with_file Graph (h Graph) (λ bytes. with_graph r p bytes (λ a. behind_graph p a r h))

  pub no_params : (after : Outside) (e : Ending) → after.taken ≡ before.taken → LoadsParams base td before.files after.files before.counts after.counts (Err e) → Performs job td to before after e.status e.promised
  no_params after e silent l = unloaded job base td to before refl behind_params (λ r h. refl) after e silent l

  module _ (p : Parameters) (files : Files) (counts : List ℕ → Counts) (l : LoadsParams base td before.files files before.counts counts (Ok p)) where
    k1 : ComesTo job p td before files counts (Properties ∷ []) (behind_params p)
    k1 = loaded job base td to before refl behind_params (λ r h. refl) p files counts l

    abbrev next1 : List ℕ → Readings → (Input → Option (List ℕ)) → Judged
    next1 bytes r h = with_graph r p bytes (λ a. behind_graph p a r h)

    pub no_bytes : (after : Outside) (e : Ending) → after.taken ≡ before.taken → Loads (file_of base) Graph td files after.files counts after.counts (Err e) → Performs job td to before after e.status e.promised
    no_bytes after e silent b =
        ends job base td to before p files counts (Properties ∷ []) Graph refl (λ r. with_file Graph) next1 k1 (λ h holds. holds) (λ t r n. refl)
        refl after e silent b.same b.later (record { only = inl b.mine; causes = b.causes; refused = λ t r. b.steps t })

    module _ (files1 : Files) (counts1 : List ℕ → Counts) (bytes : List ℕ) (b : Loads (file_of base) Graph td files files1 counts counts1 (Ok bytes)) (slice : List ℕ) (is : slice ≡ bytes) where
      k2 : ComesTo job p td before files1 counts1 (Graph ∷ Properties ∷ []) (next1 slice)
      k2 = subst (λ (x : List ℕ). ComesTo job p td before files1 counts1 (Graph ∷ Properties ∷ []) (next1 x)) (sym is)
          (comes_on job base td to before p files counts (Properties ∷ []) Graph refl (λ r. with_file Graph) next1 k1 files1 counts1 bytes (λ t r. b.steps t) b.same b.later)

      pub no_records : (taken : List ℕ) (out : OutCounts) (e : Ending) → taken ≡ before.taken → IsBadFile Graph p.arcs e → ((r : Readings) → Steps {B = Accepted} (with_graph r p slice) (Err e))
          → Performs job td to before (outside files1 counts1 taken out) e.status e.promised
      no_records taken out e silent bad steps =
          refuses job base td to before p files1 counts1 (Graph ∷ Properties ∷ []) (next1 slice) k2 Graph refl taken out e silent bad (λ t r. steps r _)

      module _ (limits : IsWithinLimits p) (a : Accepted) (reads : ReadsGraph p (bits_of slice) (Ok a)) where
        k3 : ComesTo job p td before files1 counts1 (Graph ∷ Properties ∷ []) (behind_graph p a)
        k3 = record {
          goes = λ t r h holds. k2.goes t r h holds ∙ goes_on r p limits slice a.graph a.places reads (λ x. behind_graph p x r h);
          given = k2.given;
          same = k2.same;
          later = k2.later;
        }

        pub no_offsets : (after : Outside) (e : Ending) → after.taken ≡ before.taken → JudgesOffsets base p a.places td files1 after.files counts1 after.counts (Err e) → Performs job td to before after e.status e.promised
        no_offsets after e silent o =
            ends_reading job base td to before p files1 counts1 (Graph ∷ Properties ∷ []) Offsets refl (λ r. lengths_then r p a.places) (λ same r h. behind_lengths p a) k3
            (λ h holds. holds) (λ t r n. refl) refl after e silent o.reads

        module _ (files2 : Files) (counts2 : List ℕ → Counts) (o : JudgesOffsets base p a.places td files1 files2 counts1 counts2 (Ok tt)) where
          k4 : ComesTo job p td before files2 counts2 (Offsets ∷ Graph ∷ Properties ∷ []) (λ r h. behind_lengths p a)
          k4 =
              comes_on job base td to before p files1 counts1 (Graph ∷ Properties ∷ []) Offsets refl (λ r. lengths_then r p a.places) (λ same r h. behind_lengths p a) k3
              files2 counts2 tt o.goes o.reads.same o.reads.later

          module _ (asked : List ℕ) (asked_is : asked ≡ pages) where
            pub no_page : (taken : List ℕ) (out : OutCounts) (e : Ending) → taken ≡ before.taken → (page : ℕ) × IsTrue (is_in page asked) × (e.status ≡ NoPage page)
                → Steps {B = Unit {0}} (with_pages p.nodes asked) (Err e) → Performs job td to before (outside files2 counts2 taken out) e.status e.promised
            no_page taken out e silent bad steps =
                refuses_page job base td to before p files2 counts2 (Offsets ∷ Graph ∷ Properties ∷ []) (λ r h. behind_lengths p a) k4 bad.0
                (subst (λ (x : List ℕ). IsTrue (is_in bad.0 x)) asked_is bad.1) taken out e silent bad.2
                (λ t r. subst (λ (x : List ℕ). Answers (with_pages p.nodes x (λ all. lines a)) e.status) asked_is (steps (λ all. lines a)))

            pub shows : Steps (with_pages p.nodes asked) (Ok tt) → (taken : List ℕ) (out : OutCounts) (r : Result (Unit {0}) Ending) → (IsTrue to → Puts (successors_lines a.graph pages) before.taken taken r)
                → IfErr r (λ e. IsUnput e.status) → (status_in r ≡ WriteFault Out → Increased before.out.faults out.faults) → Performs job td to before (outside files2 counts2 taken out) (status_in r) (promised_in r)
            shows all taken out r puts only rose =
                prints job base td to before p files2 counts2 (Offsets ∷ Graph ∷ Properties ∷ []) (λ r h. behind_lengths p a) k4 (λ q. successors_lines a.graph pages)
                (λ q. subst (λ (x : List ℕ). with_pages p.nodes x (λ every. lines a) ≡ lines a) asked_is (all (λ every. lines a)))
                refl taken out r (λ t q. puts t) only rose (λ apart. absurd (let no : true ≡ false = apart in cc))
