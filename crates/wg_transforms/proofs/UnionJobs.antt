-- How `union` goes on from archive to archive, or ends.
use Rattle.std.proofs.Common.{◌≡◌, ◌∙◌, ◌⊎◌, ◌<◌, ◌≤◌, inl, inr, ℕ, Bool, if◌then◌else◌, List, ◌++◌, Option, Result, Ok, Err, refl, sym, ap, subst, arith}
use Rattle.std.specs.Bool.{IsTrue}
use Rattle.std.proofs.lemmas.Bool.{le-ltb, lt-ltb}
use Rattle.wg_outside.specs.Outside.{Files, Counts}
use Rattle.wg_outside.specs.declared.suffixes.TheConstants.{PROPERTIES, GRAPH, OFFSETS}
use Rattle.wg_outside.proofs.FilesLemmas.{none_falls-trans}
use Rattle.wg_params.specs.{Parameters.Parameters, declared.limits.TheConstants.MOST_ARCS}
use Rattle.wg_properties.specs.declared.fault.PropFault.{PropFault}
use Rattle.wg_graph.specs.Digraph.{Digraph, arc_count}
use Rattle.wg_grammar.specs.{Archive.Accepted, Laws.accepted_graph, declared.fault.ArchiveFault.ArchiveFault}
use Rattle.wg_grammar.specs.declared.fault.ArchiveFault.TheVariants as archive
use Rattle.wg_shape.specs.Graphs.{union_graph}
use Rattle.wg_words.specs.{declared.jobs.Job.Job, Jobs.writing, declared.jobs.Origin.TheVariants.Union}
use Rattle.wg_params.specs.declared.layout.Layout.{Layout}
use Rattle.wg_outcomes.specs.{Answers.Answers, Answers.IsHindrance, Answers.status_in, Answers.without, Reached.Reaches}
use Rattle.wg_outcomes.specs.{Causes.HasCause, Causes.IncreasedAt, Promised.ArePromised, Promised.promised_in}
use Rattle.wg_outcomes.specs.{Judged.Judged, Judged.refused, Judged.status_of, Judged.with_archive, Readings.Readings}
use Rattle.wg_outcomes.specs.Names.{file_of, file_of_fault, held_by, no_outputs}
use Rattle.wg_outcomes.specs.Second.{as_second, of_second, second_ending, second_held, second_input}
use Rattle.wg_outcomes.specs.{declared.ending.Ending.Ending, declared.status.Input.Input, declared.status.Status.Status}
use Rattle.wg_outcomes.specs.declared.status.Input.TheVariants as input
use Rattle.wg_outcomes.specs.declared.status.Status.TheVariants.{Memory, ReadFault, Missing, BadProperties, BadArchive, TooManyArcs, OverLimit}
use Rattle.wg_outcomes.proofs.Statuses.{IsStop, absent_caused, failed_caused, own_caused}
use Rattle.wg_readings.proofs.{JobSteps.IsRefusal, JobSteps.ends_refused, JobSteps.want_refuses, UnderWay.cause_later}
use Rattle.wg_outcomes.specs.Commands.{builds, with_union}
use Rattle.wg_transforms.specs.Loaded.{IsArchiveFile, IsOfArchive, LoadsArchive, result_of_second}
use Rattle.wg_outcomes.specs.JobFiles.{can_end, input_name, output_name}
use Rattle.wg_outcomes.specs.Performs.{BuildsArchive, OutCounts, Outside, Performs, judged_on, outside}
use Rattle.wg_transforms.specs.declared.loaded.Loaded.{Loaded}
use Rattle.wg_outcomes.proofs.{BuildLemmas.written, PerformsLemmas.stopped}

-- ---- each end at an archive, and each of its files

archive_cases : (P : Status → Type 0) → P Memory → ((i : Input) → IsArchiveFile i → P (ReadFault i)) → ((i : Input) → IsArchiveFile i → P (Missing i)) → ((i : Input) → IsArchiveFile i → P (OverLimit i))
    → ((f : PropFault) → P (BadProperties f)) → ((f : ArchiveFault) → P (BadArchive f)) → (s : Status) → IsOfArchive s → P s
archive_cases P h h2 h3 h4 h5 h6 s h7 = grind arith

archive_inputs : (P : Input → Type 0) → P input.Properties → P input.Graph → P input.Offsets → (i : Input) → IsArchiveFile i → P i
archive_inputs P properties graph offsets input.Properties there = properties
archive_inputs P properties graph offsets input.Graph there = graph
archive_inputs P properties graph offsets input.Offsets there = offsets
archive_inputs P properties graph offsets _ there = absurd there

-- ---- what is told of the second archive

second_status : (j : Judged) → as_second (status_of j) ≡ status_of (of_second j)
second_status j = grind arith

second_answers : (j : Judged) (s : Status) → IsOfArchive s → Answers j s → Answers (of_second j) (as_second s)
second_answers j s only (inl is) = inl (ap as_second is ∙ second_status j)
second_answers j s only (inr hinders) = grind (arith, archive_cases)

module _ (first second output : List ℕ) (layout : Layout) (td to : Bool) (before : Outside) where
  abbrev job : Job
  job = writing output layout (Union first second)

  abbrev held : Input → Option (List ℕ)
  held = held_by (input_name job) before.files

  -- what comes behind each archive
  abbrev behind_second : Parameters → Accepted → Parameters → Accepted → Judged
  behind_second p a q b = with_union (accepted_graph p a) (accepted_graph q b) (λ g. builds layout g)

  abbrev behind_first : Readings → (Input → Option (List ℕ)) → Parameters → Accepted → Judged
  behind_first r h p a = of_second (with_archive r (second_held h) (behind_second p a))

  -- ---- the first archive ends it
  first_stop : (s : Status) → IsOfArchive s → IsStop s
  first_stop = archive_cases IsStop tt (λ i there. tt) (λ i there. tt) (λ i there. tt) (λ f. tt) (λ f. tt)

  fault_there : (f : ArchiveFault) → IsArchiveFile (file_of_fault f)
  fault_there f = grind arith

  first_possible : (s : Status) → IsOfArchive s → IsTrue (can_end job s)
  first_possible = grind (arith, archive_cases, fault_there, archive_inputs)

  first_name : (i : Input) → IsArchiveFile i → input_name job i ≡ file_of first i
  first_name = archive_inputs (λ i. input_name job i ≡ file_of first i) refl refl refl

  first_caused : (old new : List ℕ → Counts) (f f' : ℕ) (s : Status) → IsOfArchive s → HasCause (file_of first) no_outputs old new 0 0 s → HasCause (input_name job) (output_name job) old new f f' s
  first_caused old new f f' s only cause = grind (arith, first_name)

  abbrev in_first : Input → Option (List ℕ)
  in_first = held_by (file_of first) before.files

  first_promised : (n : ℕ) (s : Status) → IsOfArchive s → ArePromised in_first s n → ArePromised held s n
  first_promised n = grind arith

  first_reached : (r : Readings) (i : Input) → IsArchiveFile i → ((next : Parameters → Accepted → Judged) → with_archive r (without i in_first) next ≡ refused (Missing i)) → Reaches r job held i
  first_reached r =
      archive_inputs (λ i. ((next : Parameters → Accepted → Judged) → with_archive r (without i in_first) next ≡ refused (Missing i)) → Reaches r job held i)
      (λ missing. missing (behind_first r (without input.Properties held))) (λ missing. missing (behind_first r (without input.Graph held))) (λ missing. missing (behind_first r (without input.Offsets held)))

  pub no_first : (after : Outside) (e : Ending) → after.taken ≡ before.taken → LoadsArchive first td before.files after.files before.counts after.counts (Err e) → Performs job td to before after e.status e.promised
  no_first after e silent l =
      stopped job td to before after e.status e.promised (first_stop e.status l.only) silent l.same (λ t r. l.ends t r (behind_first r held)) (first_possible e.status l.only)
      (first_caused _ _ _ _ e.status l.only l.causes) (λ t r i is. first_reached r i (subst IsOfArchive is l.only) (l.reached t r i is)) l.later (λ t. first_promised e.promised e.status l.only (l.promised t))

  -- ---- the second archive ends it
  second_stop : (s : Status) → IsOfArchive s → IsStop (as_second s)
  second_stop = archive_cases (λ s. IsStop (as_second s)) tt (λ i there. tt) (λ i there. tt) (λ i there. tt) (λ f. tt) (λ f. tt)

  second_possible : (s : Status) → IsOfArchive s → IsTrue (can_end job (as_second s))
  second_possible = grind (arith, archive_cases, fault_there, archive_inputs)

  abbrev in_second : Input → Option (List ℕ)
  in_second = held_by (file_of second) before.files

  second_promised : (n : ℕ) (s : Status) → IsOfArchive s → ArePromised in_second s n → ArePromised held (as_second s) n
  second_promised n = grind (arith, archive_cases)

  module _ (old new : List ℕ → Counts) (f f' : ℕ) where
    abbrev caused : Status → Type 0
    caused s = HasCause (input_name job) (output_name job) old new f f' s

    second_failed : (i : Input) → IsArchiveFile i → IncreasedAt (λ c. c.read_faults) (file_of second i) old new → caused (ReadFault (second_input i))
    second_failed =
        archive_inputs (λ i. IncreasedAt (λ c. c.read_faults) (file_of second i) old new → caused (ReadFault (second_input i)))
        (failed_caused (input_name job) (output_name job) old new f f' input.SecondProperties (second ++ PROPERTIES.now) refl) (failed_caused (input_name job) (output_name job) old new f f' input.SecondGraph (second ++ GRAPH.now) refl)
        (failed_caused (input_name job) (output_name job) old new f f' input.SecondOffsets (second ++ OFFSETS.now) refl)

    second_absent : (i : Input) → IsArchiveFile i → IncreasedAt (λ c. c.absences) (file_of second i) old new → caused (Missing (second_input i))
    second_absent =
        archive_inputs (λ i. IncreasedAt (λ c. c.absences) (file_of second i) old new → caused (Missing (second_input i)))
        (absent_caused (input_name job) (output_name job) old new f f' input.SecondProperties (second ++ PROPERTIES.now) refl) (absent_caused (input_name job) (output_name job) old new f f' input.SecondGraph (second ++ GRAPH.now) refl)
        (absent_caused (input_name job) (output_name job) old new f f' input.SecondOffsets (second ++ OFFSETS.now) refl)

    second_caused : (s : Status) → IsOfArchive s → HasCause (file_of second) no_outputs old new 0 0 s → caused (as_second s)
    second_caused =
        archive_cases (λ s. HasCause (file_of second) no_outputs old new 0 0 s → caused (as_second s)) (λ cause. own_caused _ _ old new f f' Memory tt)
        (λ i there cause. second_failed i there (cause.read_fault i refl)) (λ i there cause. second_absent i there (cause.missing i refl))
        (λ i there cause. own_caused _ _ old new f f' (OverLimit (second_input i)) tt) (λ g cause. own_caused _ _ old new f f' (as_second (BadProperties g)) tt)
        (λ g cause. own_caused _ _ old new f f' (as_second (BadArchive g)) tt)

  module _ (one : Loaded) (files1 : Files) (counts1 : List ℕ → Counts) (l : LoadsArchive first td before.files files1 before.counts counts1 (Ok one)) where
    abbrev a : Accepted
    a = l.goes.0

    abbrev MissesAt : Readings → Input → Type 0
    MissesAt r i = (next : Parameters → Accepted → Judged) → with_archive r (without i in_second) next ≡ refused (Missing i)

    second_reaches : IsTrue td → (r : Readings) (i : Input) → IsArchiveFile i → MissesAt r i → Reaches r job held (second_input i)
    second_reaches t r =
        archive_inputs (λ i. MissesAt r i → Reaches r job held (second_input i))
        (λ misses. l.goes.2 t r (behind_first r (without input.SecondProperties held)) ∙ ap of_second (misses (behind_second one.params a)))
        (λ misses. l.goes.2 t r (behind_first r (without input.SecondGraph held)) ∙ ap of_second (misses (behind_second one.params a)))
        (λ misses. l.goes.2 t r (behind_first r (without input.SecondOffsets held)) ∙ ap of_second (misses (behind_second one.params a)))

    second_reached : IsTrue td → (r : Readings) (s : Status) → IsOfArchive s → ((i : Input) → s ≡ ReadFault i → MissesAt r i) → (j : Input) → as_second s ≡ ReadFault j → Reaches r job held j
    second_reached t r =
        archive_cases (λ s. ((i : Input) → s ≡ ReadFault i → MissesAt r i) → (j : Input) → as_second s ≡ ReadFault j → Reaches r job held j)
        (λ reach j is. absurd (let no : Memory ≡ ReadFault j = is in cc))
        (λ i there reach j is. let same : second_input i ≡ j = (let e : ReadFault (second_input i) ≡ ReadFault j = is in cc) in subst (Reaches r job held) same (second_reaches t r i there (reach i refl)))
        (λ i there reach j is. absurd (let no : Missing (second_input i) ≡ ReadFault j = is in cc))
        (λ i there reach j is. absurd (let no : OverLimit (second_input i) ≡ ReadFault j = is in cc))
        (λ f reach j is. absurd (let no : as_second (BadProperties f) ≡ ReadFault j = is in cc))
        (λ f reach j is. absurd (let no : as_second (BadArchive f) ≡ ReadFault j = is in cc))

    second_ends : (after : Outside) (e : Ending) → after.taken ≡ before.taken → LoadsArchive second td before.files after.files counts1 after.counts (Err e)
        → Performs job td to before after (as_second e.status) e.promised
    second_ends after e silent h =
        stopped job td to before after (as_second e.status) e.promised (second_stop e.status h.only) silent h.same
        (λ t r. subst (λ (j : Judged). Answers j (as_second e.status)) (sym (l.goes.2 t r (behind_first r held))) (second_answers _ e.status h.only (h.ends t r (behind_second one.params a))))
        (second_possible e.status h.only) (second_caused _ _ _ _ e.status h.only (cause_later (file_of second) before.counts counts1 after.counts e.status l.later h.causes))
        (λ t r j is. second_reached t r e.status h.only (λ i at. h.reached t r i at) j is) (none_falls-trans _ _ _ l.later h.later) (λ t. second_promised e.promised e.status h.only (h.promised t))

    pub no_second : (after : Outside) (read : Result Loaded Ending) (e : Ending) → after.taken ≡ before.taken → LoadsArchive second td files1 after.files counts1 after.counts read
        → Err e ≡ result_of_second read → Performs job td to before after e.status e.promised
    no_second after (Ok other) e silent h is = absurd (cc is)
    no_second after (Err was) e silent h is =
        let same : e ≡ second_ending was = cc is in
        subst (λ (x : Ending). Performs job td to before after x.status x.promised) (sym same)
        (second_ends after was silent (subst (λ (f : Files). LoadsArchive second td f after.files counts1 after.counts (Err was)) l.same h))

    module _ (other : Loaded) (files2 : Files) (counts2 : List ℕ → Counts) (h : LoadsArchive second td files1 files2 counts1 counts2 (Ok other)) where
      abbrev b : Accepted
      b = h.goes.0

      abbrev both : Digraph
      both = union_graph (accepted_graph one.params a) (accepted_graph other.params b)

      same : files2 ≡ before.files
      same = h.same ∙ l.same

      goes : IsTrue td → (r : Readings) → judged_on r job before.files ≡ of_second (with_union (accepted_graph one.params a) (accepted_graph other.params b) (λ g. builds layout g))
      goes t r =
          l.goes.2 t r (behind_first r held)
          ∙ ap (λ (f : Files). of_second (with_archive r (held_by (file_of second) f) (behind_second one.params a))) (sym l.same)
          ∙ ap of_second (h.goes.2 t r (behind_second one.params a))

      -- the union was not made
      pub no_union : (taken : List ℕ) (out : OutCounts) (e : Ending) → taken ≡ before.taken → (e.status ≡ Memory) ⊎ (e.status ≡ TooManyArcs) → (e.status ≡ TooManyArcs → MOST_ARCS < arc_count both)
          → Performs job td to before (outside files2 counts2 taken out) e.status e.promised
      no_union taken out e silent only many = by_only only
        where
          ends : (IsTrue td → (r : Readings) → Answers (judged_on r job before.files) e.status) → IsRefusal job e.status → ArePromised held e.status e.promised → Performs job td to before (outside files2 counts2 taken out) e.status e.promised
          ends answers refusal told = ends_refused job td to before (outside files2 counts2 taken out) e silent same (none_falls-trans _ _ _ l.later h.later) answers refusal (λ t. told)

          by_only : ((e.status ≡ Memory) ⊎ (e.status ≡ TooManyArcs)) → Performs job td to before (outside files2 counts2 taken out) e.status e.promised
          by_only (inl want) = ends (λ t r. inr (subst IsHindrance (sym want) tt)) (want_refuses job e.status want) (subst (λ (s : Status). ArePromised held s e.promised) (sym want) tt)
          by_only (inr many_is) =
              ends (λ t r. inl (many_is ∙ sym (ap status_of (goes t r ∙ ap (λ (x : Bool). of_second (if x then refused TooManyArcs else builds layout both)) (lt-ltb MOST_ARCS (arc_count both) (many many_is))))))
              (subst (IsRefusal job) (sym many_is) (record { own = tt; stop = tt; possible = refl })) (subst (λ (s : Status). ArePromised held s e.promised) (sym many_is) tt)

      -- it was, and is written
      pub unites : arc_count both ≤ MOST_ARCS → (after : Outside) (r : Result (Unit {0}) Ending) → BuildsArchive layout both output td to (outside files2 counts2 before.taken before.out) after r
          → Performs job td to before after (status_in r) (promised_in r)
      unites few after r h' =
          written job td to before after files2 counts2 layout both output r refl refl
          (λ t q. goes t q ∙ ap (λ (x : Bool). of_second (if x then refused TooManyArcs else builds layout both)) (le-ltb MOST_ARCS (arc_count both) few))
          same (none_falls-trans _ _ _ l.later h.later) h'

-- what was read of the second archive, if nothing ended it
pub second_read : (base : List ℕ) (td : Bool) (files files' : Files) (counts counts' : List ℕ → Counts) (read : Result Loaded Ending) (l : Loaded) → LoadsArchive base td files files' counts counts' read
    → Ok l ≡ result_of_second read → LoadsArchive base td files files' counts counts' (Ok l)
second_read base td files files' counts counts' (Ok x) l h is = grind arith
second_read base td files files' counts counts' (Err e) l h is = absurd (cc is)
