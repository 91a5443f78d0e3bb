-- How `check` goes on from the parameters, or stops at the graph or at the offsets.
use Rattle.std.proofs.Common.{◌≡◌, ◌⊎◌, ◌∙◌, inl, inr, ℕ, Bool, List, [], ◌∷◌, Option, None, Ok, Err, refl, sym, ap, arith}
use Rattle.std.specs.Bool.{IsTrue}
use Rattle.wg_outside.specs.Outside.{Files, Counts}
use Rattle.wg_outside.proofs.FilesLemmas.{none_falls-trans}
use Rattle.wg_params.specs.Parameters.{Parameters, IsWithinLimits}
use Rattle.wg_grammar.specs.Archive.{Accepted}
use Rattle.wg_offsets.specs.Places.{last_place}
use Rattle.wg_words.specs.declared.jobs.Job.TheVariants.{Check}
use Rattle.wg_outcomes.specs.{Commands.ok_line, Names.file_of, Names.held_by, Promised.IsStopAt, Readings.Readings}
use Rattle.wg_outcomes.specs.Judged.{Judged, accepted, with_lengths, offsets_then}
use Rattle.wg_readings.specs.{Loading.JudgesFiles, Pairing.files_then, Passes.IsGraphFile, Passes.graph_then}
use Rattle.wg_outcomes.specs.{Performs.Outside, Performs.Performs, declared.ending.Ending.Ending}
use Rattle.wg_outcomes.specs.declared.status.Input.{Input}
use Rattle.wg_outcomes.specs.declared.status.Input.TheVariants.{Properties, Graph, Offsets}
use Rattle.wg_readings.proofs.{JobSteps.ComesTo, JobSteps.ends, PassLemmas.graph_goes}

-- what comes behind the parameters
abbrev pub checks : Parameters → Readings → (Input → Option (List ℕ)) → Judged
checks p r h = files_then r p h (λ n. accepted (ok_line p n))

module _ (base : List ℕ) (p : Parameters) (td to : Bool) (before : Outside) (files : Files) (counts : List ℕ → Counts) (k : ComesTo (Check base) p td before files counts (Properties ∷ []) (checks p)) where
  -- what is done of a graph file and an offsets file that hold this
  abbrev both : Readings → Option (List ℕ) → Option (List ℕ) → (ℕ → Judged) → Judged
  both r graph offsets next = graph_then r p graph (λ a. offsets_then r p offsets (λ stored. with_lengths a.places stored (λ same. next (last_place a.places))))

  abbrev line : ℕ → Judged
  line n = accepted (ok_line p n)

  -- the files hold now what they held
  here : (i : Input) → held_by (file_of base) before.files i ≡ held_by (file_of base) files i
  here i = ap (λ (f : Files). held_by (file_of base) f i) (sym k.same)

  -- both files are in order
  pub check_goes : (files' : Files) (counts' : List ℕ → Counts) (n : ℕ) → JudgesFiles base p td files files' counts counts' (Ok n)
      → ComesTo (Check base) p td before files' counts' (Offsets ∷ Graph ∷ Properties ∷ []) (λ r h. accepted (ok_line p n))
  check_goes files' counts' n j = record {
    goes = λ t r h holds.
        k.goes t r h holds.1.1
        ∙ ap (λ (o : Option (List ℕ)). both r o (h Offsets) line) (holds.1.0 ∙ here Graph)
        ∙ ap (λ (o : Option (List ℕ)). both r (held_by (file_of base) files Graph) o line) (holds.0 ∙ here Offsets)
        ∙ j.steps t r line;
    given = k.given;
    same = j.same ∙ k.same;
    later = none_falls-trans _ _ _ k.later j.later;
  }

  -- the validation as a step at one file, if the other holds what it does
  by_graph : ComesTo (Check base) p td before files counts (Offsets ∷ Properties ∷ []) (λ r h. both r (h Graph) (held_by (file_of base) files Offsets) line)
  by_graph = grind arith

  by_offsets : ComesTo (Check base) p td before files counts (Graph ∷ Properties ∷ []) (λ r h. both r (held_by (file_of base) files Graph) (h Offsets) line)
  by_offsets = grind arith

  -- one of them is not
  pub check_stops : (after : Outside) (e : Ending) → after.taken ≡ before.taken → JudgesFiles base p td files after.files counts after.counts (Err e) → Performs (Check base) td to before after e.status e.promised
  check_stops after e silent j = by_file j.only
    where
      by_file : (IsStopAt Graph p.arcs e ⊎ (IsStopAt Offsets p.arcs e × IsWithinLimits p × (IsTrue td → (a : Accepted) × IsGraphFile (held_by (file_of base) files Graph) p a))) → Performs (Check base) td to before after e.status e.promised
      by_file (inl stop) =
          ends (Check base) base td to before p files counts _ {B = ℕ} Graph refl (λ r o next. both r o (held_by (file_of base) files Offsets) next) (λ n r h. line n) by_graph (λ h holds. holds) (λ t r n. refl)
          refl after e silent j.same j.later (record { only = stop; causes = j.causes; refused = j.steps })
      by_file (inr stop) =
          ends (Check base) base td to before p files counts _ {B = ℕ} Offsets refl (λ r o next. both r (held_by (file_of base) files Graph) o next) (λ n r h. line n) by_offsets (λ h holds. holds)
          (λ t r n. let a = stop.2 t in graph_goes r p stop.1 (held_by (file_of base) files Graph) a.0 a.1 (λ a. offsets_then r p None (λ stored. with_lengths a.places stored (λ same. n (last_place a.places)))))
          refl after e silent j.same j.later (record { only = stop.0; causes = j.causes; refused = j.steps })
