-- How `spot` goes on from step to step, or ends.
use Rattle.std.proofs.Common.{◌≡◌, ◌≢◌, ◌⊎◌, ◌∙◌, arith, length, inl, inr, ℕ, ◌<◌, ◌≤◌, Bool, List, [], ◌∷◌, Option, Some, Result, Ok, Err, option_and_then, refl, sym, ap, subst}
use Rattle.std.specs.{Bool.IsTrue, Prelude.unwrap_or, Result.IfErr}
use Rattle.std.specs.FinMap as map
use Rattle.std.proofs.lemmas.Bool.{eq-eqb}
use Rattle.wg_outside.specs.{Outside.Files, Outside.Counts, Outside.Increased, Outside.NonDecreasing, Puts.Puts}
use Rattle.wg_outside.specs.{declared.output.Output.TheVariants.Out, declared.whole.LoadError.LoadError}
use Rattle.wg_outside.specs.declared.whole.LoadError.TheVariants as load
use Rattle.wg_outside.specs.declared.limits.TheConstants.{MOST_BYTES}
use Rattle.wg_outside.proofs.FilesLemmas.{none_falls-trans}
use Rattle.wg_bits.specs.Bits.{bits_of}
use Rattle.wg_params.specs.Parameters.{Parameters, IsWithinLimits}
use Rattle.wg_grammar.specs.{declared.fault.ArchiveFault.ArchiveFault, Errors.OfRefusal}
use Rattle.wg_grammar.specs.declared.fault.ArchiveFault.TheVariants as archive
use Rattle.wg_source.specs.Held.{HeldBytes}
use Rattle.wg_source.specs.Stepping.{HasCause as HasReadCause}
use Rattle.wg_grammar.specs.declared.error.ReadError.{ReadError}
use Rattle.wg_grammar.specs.declared.error.ReadError.TheVariants as errors
use Rattle.wg_random.specs.Spot.{ChainAnswers}
use Rattle.wg_words.specs.{declared.jobs.Job.Job, declared.jobs.Job.TheVariants.Spot}
use Rattle.wg_outcomes.specs.{Answers.Answers, Answers.IsHindrance, Answers.IsUnput, Answers.status_in, Causes.HasCause}
use Rattle.wg_outcomes.specs.{Commands.successors_line, Names.IsOfInput, Names.file_of, Names.held_by, Names.no_outputs}
use Rattle.wg_outcomes.specs.Judged.{Judged, accepted, status_of, with_file, with_successors, offsets_then}
use Rattle.wg_outcomes.specs.Performs.{OutCounts, Outside, Performs, outside}
use Rattle.wg_outcomes.specs.{Promised.promised_in, Readings.Readings, declared.ending.Ending.Ending}
use Rattle.wg_outcomes.specs.{declared.status.Input.Input, declared.status.Status.Status}
use Rattle.wg_outcomes.specs.declared.status.Input.TheVariants.{Properties, Graph, Offsets}
use Rattle.wg_outcomes.specs.declared.status.Status.TheVariants.{BadArchive, Done, Memory, NoPage, WriteFault}
use Rattle.wg_outcomes.proofs.Statuses.{IsOwn, own_caused}
use Rattle.wg_readings.specs.{Finding.IsOpenOn, Loading.Loads, Loading.LoadsParams, Loading.Reads, Loading.status_at}
use Rattle.wg_readings.proofs.{FindingLemmas.caused_at, FindingLemmas.of_input, PassLemmas.file_goes}
use Rattle.wg_readings.proofs.JobSteps.{ComesTo, comes_on, ends, ends_reading, loaded, prints, refuses, refuses_page, unloaded}
use Rattle.wg_readings.proofs.ReadingsLemmas.{chain_refused, page_refused, successors_go_on}
use Rattle.wg_lookups.specs.{Sampling.IsSampled, declared.found_file.FoundFile.FoundFile}
use Rattle.wg_lookups.specs.{declared.sampled.SampledFile.SampledFile, declared.chain_files.Unread.Unread}
use Rattle.wg_lookups.specs.declared.chain_files.Unread.TheVariants as unread
use Rattle.wg_lookups.specs.ChainFiles.{HasBits, HasChainCause, HasPlaces}
use Rattle.wg_lookups.specs.Spotting.{EndsBy, IsBadPage, SpotsPage, spotted_then, successors_then}

-- a fault of the chain lies in the graph file or in the offsets file
bad_chain : (told : Bool) (page promised : ℕ) (f : ArchiveFault) (e : Ending) → e.status ≡ BadArchive f → e.promised ≡ promised → IsBadPage told page promised e
bad_chain told page promised (archive.Record x) e is names = inr (inl (inl (inr (archive.Record x, refl, is, names))))
bad_chain told page promised (archive.Tail at) e is names = inr (inl (inl (inr (archive.Tail at, refl, is, names))))
bad_chain told page promised (archive.ArcsShort total) e is names = inr (inl (inl (inr (archive.ArcsShort total, refl, is, names))))
bad_chain told page promised (archive.Offsets w) e is names = inr (inl (inr (inr (archive.Offsets w, refl, is, names))))
bad_chain told page promised (archive.Length x found stored) e is names = inr (inl (inr (inr (archive.Length x found stored, refl, is, names))))

-- a file that is there, and not too long, is not read only if something hinders it
hindered : (i : Input) (x : LoadError) (s : Status) → s ≡ status_at i x → x ≢ load.Absent → x ≢ load.TooLong → IsHindrance s
hindered i x s h h2 h3 = grind arith

-- so with one that was found
still_open : (told : Bool) (name : List ℕ) (files : Files) (counts counts' : List ℕ → Counts) (h : HeldBytes) (i : Input) (x : LoadError) (s : Status) → s ≡ status_at i x → HasReadCause told name files counts counts' h x
    → (IsTrue told → IsOpenOn (map.get files name) h) → IsTrue told → IsHindrance s
still_open told name files counts counts' h i x s is cause open_on t =
    let o = open_on t in
    hindered i x s is (cause.there t o.file o.is) (λ long. absurd (let past : MOST_BYTES < length o.file = cause.long t o.file o.is o.held long in omega (arith, past, o.short)))

-- ---- the successors of a page, from files that were found
module _ (names : Input → Option (List ℕ)) (g : FoundFile) (s : SampledFile) (named : names Graph ≡ Some g.name) (stored : names Offsets ≡ Some s.file.name) (p : Parameters) (limits : IsWithinLimits p) (page : ℕ) (told : Bool)
    (files files' : Files) (counts counts' : List ℕ → Counts) (same : files' ≡ files) (later : NonDecreasing counts counts') (open_on : IsTrue told → IsOpenOn (map.get files g.name) g.held)
    (sampled : IsTrue told → IsSampled names files p s) where
  here : held_by names files Graph ≡ map.get files g.name
  here = ap (λ (o : Option (List ℕ)). option_and_then (map.get files) o) named

  abbrev judges : Readings → (List ℕ → Judged) → Judged
  judges r next = spotted_then r p page (held_by names files Offsets) (held_by names files Graph) next

  -- what the validation goes on with, of the files that are there
  goes : (t : IsTrue told) (r : Readings) (next : List ℕ → Judged) → judges r next ≡ with_successors r p (open_on t).file (sampled t).places page next
  goes t r next =
      (sampled t).goes r (λ places. successors_then r p places page (held_by names files Graph) next)
      ∙ ap (λ (o : Option (List ℕ)). successors_then r p (sampled t).places page o next) (here ∙ (open_on t).is)
      ∙ file_goes Graph (open_on t).file (open_on t).short (λ bytes. with_successors r p bytes (sampled t).places page next)

  abbrev AnswersWith : Result (List ℕ) (ReadError ArchiveFault Unread) → ℕ → ℕ → Type 0
  AnswersWith result from to = (bits : List Bool) (places : List ℕ) → HasBits told files g bits → HasPlaces told files s places → ChainAnswers {R = Unread} p bits places page from to result

  known : (result : Result (List ℕ) (ReadError ArchiveFault Unread)) (from to : ℕ) → AnswersWith result from to → (t : IsTrue told)
      → ChainAnswers {R = Unread} p (bits_of (open_on t).file) (sampled t).places page from to result
  known result from to answers t =
      let o = open_on t in
      answers (bits_of o.file) (sampled t).places (t, (o.file, o.is, o.held, refl)) (t, (sampled t).on)

  pub spotted : page < p.nodes → (list : List ℕ) (from to : ℕ) → AnswersWith (Ok list) from to → SpotsPage names p page told files files' counts counts' (Ok list)
  spotted lt list from to answers = record {
    only = tt;
    causes = own_caused _ _ _ _ _ _ Done tt;
    steps = λ t r next.
        let a = known (Ok list) from to answers t in
        goes t r next ∙ successors_go_on r p limits (open_on t).file (sampled t).places page lt a.1 (a.0, a.2) next ∙ ap next (sym a.3);
    same = same;
    later = later;
  }

  -- something hindered it, if the depot tells its bytes
  hinders : (e : Ending) → IsOfInput Graph e.status ⊎ IsOfInput Offsets e.status → HasCause names no_outputs counts counts' 0 0 e.status → (IsTrue told → IsHindrance e.status) → SpotsPage names p page told files files' counts counts' (Err e)
  hinders e own causes why = record {
    only = inr (inr (own, why));
    causes = causes;
    steps = λ t r next. inr (why t);
    same = same;
    later = later;
  }

  unread_from : (i : Input) (name : List ℕ) (h : HeldBytes) → names i ≡ Some name → (IsTrue told → IsOpenOn (map.get files name) h) → (x : LoadError) (e : Ending)
      → e.status ≡ status_at i x → (IsOfInput i e.status → IsOfInput Graph e.status ⊎ IsOfInput Offsets e.status) → HasReadCause told name files counts counts' h x → SpotsPage names p page told files files' counts counts' (Err e)
  unread_from i name h is_named found x e is side cause =
      hinders e (side (subst (IsOfInput i) (sym is) (of_input i x)))
      (subst (λ (s : Status). HasCause names no_outputs counts counts' 0 0 s) (sym is) (caused_at told name files counts counts' h i x cause names is_named))
      (still_open told name files counts counts' h i x e.status is cause found)

  pub unspotted : page < p.nodes → (x : ReadError ArchiveFault Unread) (e : Ending) (from to : ℕ) → EndsBy p.arcs x e → AnswersWith (Err x) from to
      → OfRefusal x (HasChainCause told files counts counts' g s)
      → SpotsPage names p page told files files' counts counts' (Err e)
  unspotted lt (errors.Fault f) e from to is answers cause = record {
    only = bad_chain told page p.arcs f e is.0 is.1;
    causes = own_caused _ _ _ _ _ _ e.status (subst IsOwn (sym is.0) tt);
    steps = λ t r next.
        let a = known (Err (errors.Fault f)) from to answers t in
        subst (λ (s : Status). Answers (judges r next) s) (sym is.0)
        (inl (sym (ap status_of (goes t r next ∙ chain_refused r p limits (open_on t).file (sampled t).places page lt f (a.0, a.1) next))));
    same = same;
    later = later;
  }
  unspotted lt errors.Memory e from to is answers cause = record {
    only = inr (inl (inl (inl is)));
    causes = own_caused _ _ _ _ _ _ e.status (subst IsOwn (sym is) tt);
    steps = λ t r next. inr (subst IsHindrance (sym is) tt);
    same = same;
    later = later;
  }
  unspotted lt (errors.Refused (unread.Graph x)) e from to is answers cause =
      unread_from Graph g.name g.held named open_on x e is (λ own. inl own) cause
  unspotted lt (errors.Refused (unread.Offsets (errors.Refused x))) e from to is answers cause =
      unread_from Offsets s.file.name s.file.held stored (λ t. (sampled t).on.open_on) x e (ap (λ (d : Ending). d.status) is) (λ own. inr own) cause
  unspotted lt (errors.Refused (unread.Offsets errors.Memory)) e from to is answers cause = absurd cause
  unspotted lt (errors.Refused (unread.Offsets (errors.Fault w))) e from to is answers cause = record {
    only = bad_chain told page p.arcs (archive.Offsets w) e (ap (λ (d : Ending). d.status) is) (ap (λ (d : Ending). d.promised) is);
    causes = own_caused _ _ _ _ _ _ e.status (subst (λ (d : Ending). IsOwn d.status) (sym is) tt);
    steps = λ t r next. absurd (cause t (sampled t).places (sampled t).on);
    same = same;
    later = later;
  }

  pub unlisted : p.nodes ≤ page → (e : Ending) → e.status ≡ NoPage page → SpotsPage names p page told files files' counts counts' (Err e)
  unlisted le e is = record {
    only = inl is;
    causes = own_caused _ _ _ _ _ _ e.status (subst IsOwn (sym is) tt);
    steps = λ t r next.
        subst (λ (s : Status). Answers (judges r next) s) (sym is)
        (inl (sym (ap status_of (goes t r next ∙ page_refused r p limits (open_on t).file (sampled t).places page le next))));
    same = same;
    later = later;
  }

-- ---- the same, where the depot is seen again behind the source of the chain
pub spots_lent : {D N : Type 0} (held : D → Files) (counts : D → List ℕ → Counts) (d1 d2 d3 : D) (m n : N) (end : m ≡ n → d3 ≡ d2) (left : n ≡ m) (names : Input → Option (List ℕ)) (p : Parameters) (page : ℕ) (told : Bool) (result : Result (List ℕ) Ending)
    → SpotsPage names p page told (held d1) (held d2) (counts d1) (counts d2) result → SpotsPage names p page told (held d1) (held d3) (counts d1) (counts d3) result
spots_lent {D = D} held counts d1 d2 d3 m n end left names p page told result h = subst (λ (d : D). SpotsPage names p page told (held d1) (held d) (counts d1) (counts d) result) (sym (end (sym left))) h

-- ---- the job
module _ (base : List ℕ) (page : ℕ) (td to : Bool) (before : Outside) where
  abbrev job : Job
  job = Spot base page

  -- what comes behind each step
  abbrev line : List ℕ → Judged
  line list = accepted (successors_line page list)

  abbrev behind_graph : Parameters → List ℕ → Readings → (Input → Option (List ℕ)) → Judged
  behind_graph p bytes r h = offsets_then r p (h Offsets) (λ places. with_successors r p bytes places page line)

  abbrev behind_params : Parameters → Readings → (Input → Option (List ℕ)) → Judged
  behind_params p r h = with_file Graph (h Graph) (λ bytes. behind_graph p bytes r h)

  abbrev behind_both : Parameters → Readings → (Input → Option (List ℕ)) → Judged
  behind_both p r h = spotted_then r p page (h Offsets) (h Graph) line

  pub no_params : (after : Outside) (e : Ending) → after.taken ≡ before.taken → LoadsParams base td before.files after.files before.counts after.counts (Err e) → Performs job td to before after e.status e.promised
  no_params after e silent l = unloaded job base td to before refl behind_params (λ r h. refl) after e silent l

  module _ (p : Parameters) (files : Files) (counts : List ℕ → Counts) (l : LoadsParams base td before.files files before.counts counts (Ok p)) where
    k1 : ComesTo job p td before files counts (Properties ∷ []) (behind_params p)
    k1 = loaded job base td to before refl behind_params (λ r h. refl) p files counts l

    pub no_graph : (after : Outside) (e : Ending) → after.taken ≡ before.taken → Loads (file_of base) Graph td files after.files counts after.counts (Err e) → Performs job td to before after e.status e.promised
    no_graph after e silent b =
        ends job base td to before p files counts (Properties ∷ []) Graph refl (λ r. with_file Graph) (behind_graph p) k1 (λ h holds. holds) (λ t r n. refl)
        refl after e silent b.same b.later (record { only = inl b.mine; causes = b.causes; refused = λ t r. b.steps t })

    module _ (files1 : Files) (counts1 : List ℕ → Counts) (same : files1 ≡ files) (later : NonDecreasing counts counts1) (name : List ℕ) (is : file_of base Graph ≡ Some name) (h : HeldBytes) (found : IsTrue td → IsOpenOn (map.get files name) h) where
      -- the bytes of the graph file, if they are told
      abbrev bytes : List ℕ
      bytes = unwrap_or (held_by (file_of base) files Graph) []

      there : (t : IsTrue td) → held_by (file_of base) files Graph ≡ Some (found t).file
      there t = ap (λ (o : Option (List ℕ)). option_and_then (map.get files) o) is ∙ (found t).is

      k2 : ComesTo job p td before files1 counts1 (Graph ∷ Properties ∷ []) (behind_graph p bytes)
      k2 =
          comes_on job base td to before p files counts (Properties ∷ []) Graph refl (λ r. with_file Graph) (behind_graph p) k1 files1 counts1 bytes
          (λ t r next.
          ap (λ (o : Option (List ℕ)). with_file Graph o next) (there t) ∙ file_goes Graph (found t).file (found t).short next
          ∙ ap (λ (o : Option (List ℕ)). next (unwrap_or o [])) (sym (there t)))
          same later

      pub no_offsets : {A : Type 0} → (after : Outside) (e : Ending) → after.taken ≡ before.taken → Reads {A = A} {B = List ℕ} base Offsets p.arcs (λ r. offsets_then r p) td files1 after.files counts1 after.counts (Err e)
          → Performs job td to before after e.status e.promised
      no_offsets after e silent o =
          ends_reading job base td to before p files1 counts1 (Graph ∷ Properties ∷ []) Offsets refl (λ r. offsets_then r p) (λ places r h. with_successors r p bytes places page line) k2
          (λ h holds. holds) (λ t r n. refl) refl after e silent o

      -- both files were found, and are validated from here on
      module _ (files2 : Files) (counts2 : List ℕ → Counts) (same2 : files2 ≡ files1) (later2 : NonDecreasing counts1 counts2) where
        k1' : ComesTo job p td before files2 counts2 (Properties ∷ []) (behind_params p)
        k1' = record { goes = k1.goes; given = k1.given; same = same2 ∙ same ∙ k1.same; later = none_falls-trans _ _ _ (none_falls-trans _ _ _ k1.later later) later2 }

        k2' : ComesTo job p td before files2 counts2 (Graph ∷ Properties ∷ []) (behind_graph p bytes)
        k2' = record { goes = k2.goes; given = k2.given; same = k1'.same; later = k1'.later }

        -- the graph file is looked at once the offsets are known
        k3 : ComesTo job p td before files2 counts2 (Graph ∷ Properties ∷ []) (behind_both p)
        k3 = record { goes = λ t r h holds. k1.goes t r h holds.1 ∙ turned t r h holds.0; given = k1.given; same = k1'.same; later = k1'.later }
          where
            turned : (t : IsTrue td) (r : Readings) (h : Input → Option (List ℕ)) → h Graph ≡ held_by (file_of base) before.files Graph → behind_params p r h ≡ behind_both p r h
            turned t r h holds =
                let at : h Graph ≡ Some (found t).file = holds ∙ ap (λ (f : Files). held_by (file_of base) f Graph) (sym k1.same) ∙ there t in
                let go : (next : List ℕ → Judged) → with_file Graph (h Graph) next ≡ next (found t).file =
                λ next. ap (λ (o : Option (List ℕ)). with_file Graph o next) at ∙ file_goes Graph (found t).file (found t).short next in
                go (λ bytes. behind_graph p bytes r h)
                ∙ sym (λ i. offsets_then r p (h Offsets) (λ places. go (λ bytes. with_successors r p bytes places page line) i))

        module _ (files3 : Files) (counts3 : List ℕ → Counts) (taken : List ℕ) (out : OutCounts) where
          -- its successors were not read
          pub no_list : (e : Ending) → taken ≡ before.taken → SpotsPage (file_of base) p page td files2 files3 counts2 counts3 (Err e) → Performs job td to before (outside files3 counts3 taken out) e.status e.promised
          no_list e silent s = by_only s.only
            where
              k4 : ComesTo job p td before files3 counts3 (Graph ∷ Properties ∷ []) (behind_both p)
              k4 = record { goes = k3.goes; given = k3.given; same = s.same ∙ k3.same; later = none_falls-trans _ _ _ k3.later s.later }

              answers : IsTrue td → (r : Readings) → Answers (behind_both p r (held_by (file_of base) before.files)) e.status
              answers t r = subst (λ (f : Files). Answers (behind_both p r (held_by (file_of base) f)) e.status) k3.same (s.steps t r line)

              by_only : IsBadPage td page p.arcs e → Performs job td to before (outside files3 counts3 taken out) e.status e.promised
              by_only (inl none) =
                  refuses_page job base td to before p files3 counts3 (Graph ∷ Properties ∷ []) (behind_both p) k4 page (eq-eqb page page refl) taken out e silent none answers
              by_only (inr (inl (inl bad))) =
                  refuses job base td to before p files3 counts3 (Graph ∷ Properties ∷ []) (behind_both p) k4 Graph refl taken out e silent bad answers
              by_only (inr (inl (inr bad))) =
                  refuses job base td to before p files3 counts3 (Graph ∷ Properties ∷ []) (behind_both p) k4 Offsets refl taken out e silent bad answers
              by_only (inr (inr ((inl own), why))) =
                  ends job base td to before p files2 counts2 (Properties ∷ []) {B = List ℕ} Graph refl (λ r. with_file Graph) (behind_graph p) k1' (λ h holds. holds) (λ t r n. refl)
                  refl (outside files3 counts3 taken out) e silent s.same s.later (record { only = inl own; causes = s.causes; refused = λ t r next. inr (why t) })
              by_only (inr (inr ((inr own), why))) =
                  ends job base td to before p files2 counts2 (Graph ∷ Properties ∷ []) {B = List ℕ} Offsets refl (λ r. offsets_then r p) (λ places r h. with_successors r p bytes places page line) k2' (λ h holds. holds) (λ t r n. refl)
                  refl (outside files3 counts3 taken out) e silent s.same s.later (record { only = inl own; causes = s.causes; refused = λ t r next. inr (why t) })

          -- they were
          pub spots : (list : List ℕ) → SpotsPage (file_of base) p page td files2 files3 counts2 counts3 (Ok list) → (shown : List ℕ) → shown ≡ list
              → (r : Result (Unit {0}) Ending) → (IsTrue to → Puts (successors_line page shown) before.taken taken r)
              → IfErr r (λ e. IsUnput e.status) → (status_in r ≡ WriteFault Out → Increased before.out.faults out.faults) → (status_in r ≡ Memory → Increased before.out.wants out.wants)
              → Performs job td to before (outside files3 counts3 taken out) (status_in r) (promised_in r)
          spots list s shown same_list r puts only rose wanted =
              prints job base td to before p files3 counts3 (Offsets ∷ Graph ∷ Properties ∷ []) (λ q h. line list) k4
              (λ q. successors_line page list) (λ q. refl) refl taken out r (λ t q. subst (λ (x : List ℕ). Puts (successors_line page x) before.taken taken r) same_list (puts t)) only rose (λ apart. wanted)
            where
              k4 : ComesTo job p td before files3 counts3 (Offsets ∷ Graph ∷ Properties ∷ []) (λ q h. line list)
              k4 = record {
                goes = λ t q h holds. k3.goes t q h holds.1
                    ∙ ap (λ (o : Option (List ℕ)). spotted_then q p page o (h Graph) line) (holds.0 ∙ ap (λ (f : Files). held_by (file_of base) f Offsets) (sym k3.same))
                    ∙ ap (λ (o : Option (List ℕ)). spotted_then q p page (held_by (file_of base) files2 Offsets) o line) (holds.1.0 ∙ ap (λ (f : Files). held_by (file_of base) f Graph) (sym k3.same))
                    ∙ s.steps t q line;
                given = k3.given;
                same = s.same ∙ k3.same;
                later = none_falls-trans _ _ _ k3.later s.later;
              }
