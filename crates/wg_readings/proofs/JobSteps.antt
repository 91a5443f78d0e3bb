-- How far a job on an archive has come, and how each step ends it or leads on.
use Rattle.std.proofs.Common.{◌≡◌, ◌⊎◌, inl, inr, ℕ, Bool, false, List, [], ◌∷◌, refl, sym, ◌∙◌, ap, subst, option_and_then, is_some, Option, None, Result, Ok, Err, arith}
use Rattle.std.specs.{Bool.IsTrue, Result.IfErr, Result.IsErrAnd}
use Rattle.std.specs.FinMap as map
use Rattle.wg_outside.specs.{Outside.Files, Outside.Counts, Outside.NonDecreasing, Outside.Increased, Puts.Puts}
use Rattle.wg_outside.specs.declared.depot.Depot as depot
use Rattle.wg_outside.specs.declared.sink.Sink as sink
use Rattle.wg_outside.specs.declared.output.Output.TheVariants.{Out}
use Rattle.wg_outside.proofs.{FilesLemmas.none_falls-trans, PutsLemmas.is_that_err}
use Rattle.wg_params.specs.{Parameters.Parameters, declared.layout.Layout.Layout}
use Rattle.wg_properties.specs.declared.fault.PropFault.{PropFault}
use Rattle.wg_graph.specs.Digraph.{Digraph}
use Rattle.wg_grammar.specs.declared.fault.ArchiveFault.TheVariants as archive
use Rattle.wg_words.specs.declared.jobs.Job.{Job}
use Rattle.wg_outcomes.specs.{Reached.Reaches, Causes.HasCause, Commands.builds, Commands.judged, Readings.Readings}
use Rattle.wg_outcomes.specs.Answers.{Answers, IsUnput, Steps, status_in, without}
use Rattle.wg_outcomes.specs.{Judged.Judged, Judged.accepted, Judged.refused, declared.ending.Ending.Ending}
use Rattle.wg_readings.specs.Loading.{EndsAt, IsPropertiesFile, LoadsParams, Reads, params_then, IsBadCertificate, IsBadMap, IsBadWeights, ReadsNamed}
use Rattle.wg_outcomes.specs.JobFiles.{asks_for, can_end, has_input, input_name, output_name, prints_in_parts, writes_files}
use Rattle.wg_outcomes.specs.Names.{archive_named, file_of, held_by, no_outputs, IsOfInput}
use Rattle.wg_outcomes.specs.Promised.{ArePromised, IsBadFile, IsPromised, promised_in}
use Rattle.wg_outcomes.specs.Performs.{BuildsArchive, Does, DoesOrEnds, OutCounts, Outside, Performs, judged_on, outside}
use Rattle.wg_outcomes.specs.{declared.status.Input.Input, declared.status.Status.Status}
use Rattle.wg_outcomes.specs.declared.status.Input.TheVariants as input
use Rattle.wg_outcomes.specs.declared.status.Status.TheVariants.{Memory, WriteFault, Missing, BadProperties, NoPage}
use Rattle.wg_outcomes.proofs.BuildLemmas.{written}
use Rattle.wg_outcomes.proofs.PerformsLemmas.{printed_by, stopped, unread}
use Rattle.wg_outcomes.proofs.Statuses.{IsOwn, IsStop, own_caused, own_read}
use Rattle.wg_readings.proofs.UnderWay.{cause_later}

-- the exit of a `?`
pub performs_exit : {B : Type 0} (job : Job) (td to : Bool) (before after : Outside) (r : Result B Ending) (e : Ending) → IsErrAnd r (λ x. x ≡ e)
    → Performs job td to before after e.status e.promised → Performs job td to before after (status_in r) (promised_in r)
performs_exit job td to before after r e is h = subst (λ x. Performs job td to before after (status_in x) (promised_in x)) (sym (is_that_err r e is)) h

-- the exit of a `?` before anything is printed
pub does_exit : {D O : Type 0} (d : depot.Ghosts D) (o : sink.Ghosts O) (job : Job) (before after : D) (out : O) (r : Result (Unit {0}) Ending) (e : Ending) → ((a : O) → o.later a a) → IsErrAnd r (λ x. x ≡ e)
    → Does d o job before after out out e.status e.promised → DoesOrEnds d o job before after out out r
does_exit d o job before after out r e stays is h = grind arith

-- ---- what an ending names as promised

abbrev given : Parameters → Result Parameters PropFault
given p = Ok p

-- a number of the parameters that were read is promised, for there is one properties text
pub of_properties : (held : Option (List ℕ)) (p : Parameters) (number : Parameters → ℕ) (n : ℕ) → IsPropertiesFile held p → n ≡ number p → IsPromised held number n
of_properties held p number n file is = grind arith

pub bad_promised : (held : Input → Option (List ℕ)) (p : Parameters) (i : Input) (e : Ending) → IsPropertiesFile (held input.Properties) p → IsBadFile i p.arcs e → ArePromised held e.status e.promised
bad_promised held p i e file (inl want) = subst (λ (s : Status). ArePromised held s e.promised) (sym want) tt
bad_promised held p i e file (inr fault) = grind (arith, of_properties)

-- ---- how a job ends

-- a status that nothing outside causes, and that the job can have before any output
pub record IsRefusal (job : Job) (s : Status) : Type 0 where
  pub own : IsOwn s
  pub stop : IsStop s
  pub possible : IsTrue (can_end job s)

pub want_refuses : (job : Job) (s : Status) → s ≡ Memory → IsRefusal job s
want_refuses job s want = subst (IsRefusal job) (sym want) (record { own = tt; stop = tt; possible = refl })

pub bad_refuses : (job : Job) (i : Input) (n : ℕ) (e : Ending) → IsTrue (has_input job i) → IsBadFile i n e → IsRefusal job e.status
bad_refuses job i n e h h2 = grind arith

module _ (job : Job) (td to : Bool) (before after : Outside) (e : Ending) (silent : after.taken ≡ before.taken) (same : after.files ≡ before.files) (later : NonDecreasing before.counts after.counts)
    (answers : IsTrue td → (r : Readings) → Answers (judged_on r job before.files) e.status) where
  pub ends_refused : IsRefusal job e.status → (IsTrue td → ArePromised (held_by (input_name job) before.files) e.status e.promised) → Performs job td to before after e.status e.promised
  ends_refused is promised =
      stopped job td to before after e.status e.promised is.stop silent same answers is.possible (own_caused _ _ _ _ _ _ e.status is.own) (λ t r j at. absurd (subst IsOwn at is.own)) later promised

  -- at an input, which was not read or is at fault
  pub ends_at : (names : Input → Option (List ℕ)) (i : Input) (IsFault : Ending → Type 0) → input_name job i ≡ names i → IsTrue (has_input job i) → IsOfInput i e.status ⊎ IsFault e
      → HasCause names no_outputs before.counts after.counts 0 0 e.status → (IsTrue td → (r : Readings) → Reaches r job (held_by (input_name job) before.files) i) → (IsFault e → IsRefusal job e.status)
      → (IsTrue td → IsFault e → ArePromised (held_by (input_name job) before.files) e.status e.promised) → Performs job td to before after e.status e.promised
  ends_at names i IsFault named has (inl only) causes reaches refuses promised =
      unread names i job td to before after e.status e.promised has named silent only causes same later answers
      (λ t r j is. subst (λ (k : Input). Reaches r job (held_by (input_name job) before.files) k) (own_read i e.status j only is) (reaches t r))
  ends_at names i IsFault named has (inr fault) causes reaches refuses promised = ends_refused (refuses fault) (λ t. promised t fault)

-- faults of what a file holds, with which the job can end if its archive has these parameters
pub record AreRefusals (job : Job) (p : Parameters) (IsFault : Ending → Type 0) : Type 0 where
  pub refusal : (e : Ending) → IsFault e → IsRefusal job e.status
  pub promised : (held : Input → Option (List ℕ)) (e : Ending) → IsPropertiesFile (held input.Properties) p → IsFault e → ArePromised held e.status e.promised

pub weights_refused : (job : Job) (p : Parameters) (n : ℕ) → n ≡ p.nodes → IsTrue (has_input job input.Weights) → AreRefusals job p (IsBadWeights n)
weights_refused job p n pages has = grind (arith, of_properties)

pub certificate_refused : (job : Job) (p : Parameters) → IsTrue (has_input job input.Certificate) → AreRefusals job p IsBadCertificate
certificate_refused job p has = grind arith

pub map_refused : (job : Job) (p : Parameters) (n : ℕ) → n ≡ p.nodes → IsTrue (has_input job input.Map) → AreRefusals job p (IsBadMap n)
map_refused job p n pages has = grind arith

-- ---- what inputs hold

-- these inputs hold what the files of these names hold
abbrev pub Hold : (Input → Option (List ℕ)) → Files → List Input → (Input → Option (List ℕ)) → Type 0
Hold names files [] held = Unit {0}
Hold names files (i ∷ read) held = (held i ≡ held_by names files i) × Hold names files read held

pub hold_all : (names : Input → Option (List ℕ)) (files : Files) (read : List Input) → Hold names files read (held_by names files)
hold_all names files [] = tt
hold_all names files (i ∷ read) = (refl, hold_all names files read)

pub gone : (i : Input) (held : Input → Option (List ℕ)) → without i held i ≡ None
gone i held = grind arith

-- A job has read these inputs, and goes on by the rest of its validation, whatever its other inputs hold. Nothing has
-- changed.
pub record ComesTo (job : Job) (p : Parameters) (td : Bool) (before : Outside) (files : Files) (counts : List ℕ → Counts) (read : List Input) (rest : Readings → (Input → Option (List ℕ)) → Judged) : Type 0 where
  pub goes : IsTrue td → (r : Readings) (held : Input → Option (List ℕ)) → Hold (input_name job) before.files read held → judged r job held ≡ rest r held
  pub given : IsTrue td → IsPropertiesFile (held_by (input_name job) before.files input.Properties) p
  pub same : files ≡ before.files
  pub later : NonDecreasing before.counts counts

module _ (job : Job) (base : List ℕ) (td to : Bool) (before : Outside) where
  abbrev held : Input → Option (List ℕ)
  held = held_by (input_name job) before.files

  by_base : (i : Input) → input_name job i ≡ file_of base i → held_by (input_name job) before.files i ≡ held_by (file_of base) before.files i
  by_base i named = ap (λ (name : Option (List ℕ)). option_and_then (map.get before.files) name) named

  -- ---- the parameters
  module _ (named : input_name job input.Properties ≡ file_of base input.Properties) (rest : Parameters → Readings → (Input → Option (List ℕ)) → Judged)
      (judges : (r : Readings) (h : Input → Option (List ℕ)) → judged r job h ≡ params_then (h input.Properties) (λ p. rest p r h)) where
    -- they were read
    pub loaded : (p : Parameters) (files : Files) (counts : List ℕ → Counts) → LoadsParams base td before.files files before.counts counts (Ok p)
        → ComesTo job p td before files counts (input.Properties ∷ []) (rest p)
    loaded p files counts l = record {
      goes = λ t r h holds. judges r h ∙ ap (λ (o : Option (List ℕ)). params_then o (λ q. rest q r h)) (holds.0 ∙ by_base input.Properties named) ∙ l.steps t (λ q. rest q r h);
      given = λ t. subst (λ (o : Option (List ℕ)). IsPropertiesFile o p) (sym (by_base input.Properties named)) (l.given t);
      same = l.same;
      later = l.later;
    }

    -- or they were not
    pub unloaded : (after : Outside) (e : Ending) → after.taken ≡ before.taken → LoadsParams base td before.files after.files before.counts after.counts (Err e)
        → Performs job td to before after e.status e.promised
    unloaded after e silent l =
        ends_at job td to before after e silent l.same l.later
        (λ t r.
        subst (λ (j : Judged). Answers j e.status) (sym (judges r held ∙ ap (λ (o : Option (List ℕ)). params_then o (λ q. rest q r held)) (by_base input.Properties named)))
        (l.steps t (λ q. rest q r held)))
        (file_of base) input.Properties (λ x. (f : PropFault) × (x.status ≡ BadProperties f)) named (ap is_some named) l.only l.causes (λ t r. judges r (without input.Properties held))
        (λ fault. subst (IsRefusal job) (sym fault.1) (record { own = tt; stop = tt; possible = ap is_some named })) (λ t fault. subst (λ (s : Status). ArePromised held s e.promised) (sym fault.1) tt)

  module _ (p : Parameters) (files : Files) (counts : List ℕ → Counts) (read : List Input) where
    -- ---- a step that reads a file of the archive
    module _ {B : Type 0} (i : Input) (named : input_name job i ≡ file_of base i) (step : Readings → Option (List ℕ) → (B → Judged) → Judged) (next : B → Readings → (Input → Option (List ℕ)) → Judged)
        (k : ComesTo job p td before files counts read (λ r h. step r (h i) (λ b. next b r h))) where
      here : held_by (input_name job) before.files i ≡ held_by (file_of base) files i
      here = by_base i named ∙ ap (λ (f : Files). held_by (file_of base) f i) (sym k.same)

      -- it leads on
      pub comes_on : (files' : Files) (counts' : List ℕ → Counts) (b : B) → (IsTrue td → (r : Readings) → Steps (step r (held_by (file_of base) files i)) (Ok b))
          → files' ≡ files → NonDecreasing counts counts' → ComesTo job p td before files' counts' (i ∷ read) (next b)
      comes_on files' counts' b steps same later = record {
        goes = λ t r h holds.
            k.goes t r h holds.1 ∙ ap (λ (o : Option (List ℕ)). step r o (λ x. next x r h)) (holds.0 ∙ here) ∙ steps t r (λ x. next x r h);
        given = k.given;
        same = same ∙ k.same;
        later = none_falls-trans _ _ _ k.later later;
      }

      -- the validation at it
      pub judges_here : IsTrue td → (r : Readings) → judged_on r job before.files ≡ step r (held_by (file_of base) files i) (λ b. next b r held)
      judges_here t r = k.goes t r held (hold_all (input_name job) before.files read) ∙ ap (λ (o : Option (List ℕ)). step r o (λ b. next b r held)) here

      -- a file that is not there ends it, if the others do not
      module _ (apart : (h : Input → Option (List ℕ)) → Hold (input_name job) before.files read h → Hold (input_name job) before.files read (without i h))
          (nothing : IsTrue td → (r : Readings) (n : B → Judged) → step r None n ≡ refused (Missing i)) where
        pub reaches : IsTrue td → (r : Readings) → Reaches r job held i
        reaches t r =
            k.goes t r (without i held) (apart held (hold_all (input_name job) before.files read))
            ∙ ap (λ (o : Option (List ℕ)). step r o (λ b. next b r (without i held))) (gone i held) ∙ nothing t r (λ b. next b r (without i held))

        -- it ends the job
        pub ends : IsTrue (is_some (file_of base i)) → (after : Outside) (e : Ending) → after.taken ≡ before.taken → after.files ≡ files → NonDecreasing counts after.counts
            → EndsAt {B = B} base i p.arcs step td files counts after.counts e → Performs job td to before after e.status e.promised
        ends there after e silent same later h =
            let has : IsTrue (has_input job i) = ap is_some named ∙ there in
            ends_at job td to before after e silent (same ∙ k.same) (none_falls-trans _ _ _ k.later later)
            (λ t r. subst (λ (j : Judged). Answers j e.status) (sym (judges_here t r)) (h.refused t r (λ b. next b r held))) (file_of base) i (IsBadFile i p.arcs) named has h.only
            (cause_later (file_of base) before.counts counts after.counts e.status k.later h.causes) reaches (bad_refuses job i p.arcs e has) (λ t bad. bad_promised held p i e (k.given t) bad)

        -- what was read of it ends the job
        pub ends_reading : {A : Type 0} → IsTrue (is_some (file_of base i)) → (after : Outside) (e : Ending) → after.taken ≡ before.taken
            → Reads {A = A} {B = B} base i p.arcs step td files after.files counts after.counts (Err e) → Performs job td to before after e.status e.promised
        ends_reading there after e silent h = ends there after e silent h.same h.later h.ends

    module _ (rest : Readings → (Input → Option (List ℕ)) → Judged) (k : ComesTo job p td before files counts read rest) where
      pub judges_rest : IsTrue td → (r : Readings) → judged_on r job before.files ≡ rest r held
      judges_rest t r = k.goes t r held (hold_all (input_name job) before.files read)

      -- ---- a step that reads nothing ends the job
      module _ (taken : List ℕ) (out : OutCounts) (e : Ending) (silent : taken ≡ before.taken) where
        pub refuses_so : IsRefusal job e.status → (IsTrue td → ArePromised held e.status e.promised) → (IsTrue td → (r : Readings) → Answers (rest r held) e.status)
            → Performs job td to before (outside files counts taken out) e.status e.promised
        refuses_so is promised answers =
            ends_refused job td to before (outside files counts taken out) e silent k.same k.later (λ t r. subst (λ (j : Judged). Answers j e.status) (sym (judges_rest t r)) (answers t r)) is promised

        -- memory ran out
        pub ends_without : e.status ≡ Memory → Performs job td to before (outside files counts taken out) e.status e.promised
        ends_without want = grind (arith, want_refuses, refuses_so)

      pub refuses : (i : Input) → IsTrue (has_input job i) → (taken : List ℕ) (out : OutCounts) (e : Ending) → taken ≡ before.taken → IsBadFile i p.arcs e
          → (IsTrue td → (r : Readings) → Answers (rest r held) e.status) → Performs job td to before (outside files counts taken out) e.status e.promised
      refuses i has taken out e silent bad answers = refuses_so taken out e silent (bad_refuses job i p.arcs e has bad) (λ t. bad_promised held p i e (k.given t) bad) answers

      -- a page that is asked for and that the graph does not have ends it
      pub refuses_page : (page : ℕ) → IsTrue (asks_for job page) → (taken : List ℕ) (out : OutCounts) (e : Ending) → taken ≡ before.taken → e.status ≡ NoPage page
          → (IsTrue td → (r : Readings) → Answers (rest r held) e.status) → Performs job td to before (outside files counts taken out) e.status e.promised
      refuses_page page asked taken out e silent is answers =
          refuses_so taken out e silent (subst (IsRefusal job) (sym is) (record { own = tt; stop = tt; possible = asked })) (λ t. subst (λ (s : Status). ArePromised held s e.promised) (sym is) tt) answers

      -- ---- the last step prints a text
      pub prints : (text : Readings → List ℕ) → ((r : Readings) → rest r held ≡ accepted (text r)) → writes_files job ≡ false
          → (taken : List ℕ) (out : OutCounts) (r : Result (Unit {0}) Ending) → (IsTrue to → (q : Readings) → Puts (text q) before.taken taken r) → IfErr r (λ e. IsUnput e.status)
          → (status_in r ≡ WriteFault Out → Increased before.out.faults out.faults) → (prints_in_parts job ≡ false → status_in r ≡ Memory → Increased before.out.wants out.wants)
          → Performs job td to before (outside files counts taken out) (status_in r) (promised_in r)
      prints text is none taken out r puts only rose wanted =
          printed_by job td to before (outside files counts taken out) text r none (λ t q. judges_rest t q ∙ is q) k.same k.later puts only rose wanted

      -- ---- or it writes an archive
      pub writes : (l : Layout) (g : Digraph) (output : List ℕ) → ((r : Readings) → rest r held ≡ builds l g) → IsTrue (writes_files job) → archive_named output ≡ output_name job
          → (after : Outside) (r : Result (Unit {0}) Ending) → BuildsArchive l g output td to (outside files counts before.taken before.out) after r
          → Performs job td to before after (status_in r) (promised_in r)
      writes l g output is some named after r h = written job td to before after files counts l g output r some named (λ t q. judges_rest t q ∙ is q) k.same k.later h

    -- ---- a step that reads a file of a name of its own, which is no archive's
    module _ {B : Type 0} (i : Input) (names : Input → Option (List ℕ)) (named : input_name job i ≡ names i) (IsFault : Ending → Type 0)
        (step : Option (List ℕ) → (B → Judged) → Judged) (next : B → Readings → (Input → Option (List ℕ)) → Judged)
        (k : ComesTo job p td before files counts read (λ r h. step (h i) (λ b. next b r h))) where
      there_named : held_by (input_name job) before.files i ≡ held_by names files i
      there_named = ap (λ (name : Option (List ℕ)). option_and_then (map.get before.files) name) named ∙ ap (λ (f : Files). held_by names f i) (sym k.same)

      -- it leads on
      pub comes_on_named : (files' : Files) (counts' : List ℕ → Counts) (b : B) → ReadsNamed {B = B} i names IsFault step td files files' counts counts' (Ok b)
          → ComesTo job p td before files' counts' (i ∷ read) (next b)
      comes_on_named files' counts' b h = record {
        goes = λ t r x holds. k.goes t r x holds.1 ∙ ap (λ (o : Option (List ℕ)). step o (λ y. next y r x)) (holds.0 ∙ there_named) ∙ h.steps t (λ y. next y r x);
        given = k.given;
        same = h.same ∙ k.same;
        later = none_falls-trans _ _ _ k.later h.later;
      }

      -- or it ends the job
      module _ (apart : (h : Input → Option (List ℕ)) → Hold (input_name job) before.files read h → Hold (input_name job) before.files read (without i h))
          (nothing : (n : B → Judged) → step None n ≡ refused (Missing i)) (refusals : AreRefusals job p IsFault) where
        reaches_named : IsTrue td → (r : Readings) → Reaches r job held i
        reaches_named t r =
            k.goes t r (without i held) (apart held (hold_all (input_name job) before.files read))
            ∙ ap (λ (o : Option (List ℕ)). step o (λ b. next b r (without i held))) (gone i held) ∙ nothing (λ b. next b r (without i held))

        pub ends_named : IsTrue (has_input job i) → (after : Outside) (e : Ending) → after.taken ≡ before.taken
            → ReadsNamed {B = B} i names IsFault step td files after.files counts after.counts (Err e) → Performs job td to before after e.status e.promised
        ends_named has after e silent h =
            ends_at job td to before after e silent (h.same ∙ k.same) (none_falls-trans _ _ _ k.later h.later)
            (λ t r.
            subst (λ (j : Judged). Answers j e.status)
            (sym (k.goes t r held (hold_all (input_name job) before.files read) ∙ ap (λ (o : Option (List ℕ)). step o (λ b. next b r held)) there_named)) (h.steps t (λ b. next b r held)))
            names i IsFault named has h.only (cause_later names before.counts counts after.counts e.status k.later h.causes) reaches_named
            (refusals.refusal e) (λ t fault. refusals.promised held e (k.given t) fault)

    -- a step that reads nothing ends it, with such a fault or since memory ran out
    module _ (IsFault : Ending → Type 0) (refusals : AreRefusals job p IsFault) (rest : Readings → (Input → Option (List ℕ)) → Judged) (k : ComesTo job p td before files counts read rest) where
      pub refuses_own : (taken : List ℕ) (out : OutCounts) (e : Ending) → taken ≡ before.taken → (e.status ≡ Memory) ⊎ IsFault e
          → (IsTrue td → (r : Readings) → Answers (rest r held) e.status) → Performs job td to before (outside files counts taken out) e.status e.promised
      refuses_own taken out e silent (inl want) answers = ends_without rest k taken out e silent want
      refuses_own taken out e silent (inr fault) answers =
          refuses_so rest k taken out e silent (refusals.refusal e fault) (λ t. refusals.promised held e (k.given t) fault) answers
