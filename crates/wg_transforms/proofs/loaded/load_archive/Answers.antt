use Rattle.std.proofs.Common.{◌≡◌, ◌∙◌, ◌⊎◌, inl, inr, ℕ, Bool, List, Option, Ok, Err, refl, sym, ap, subst}
use Rattle.std.specs.Bool.{IsTrue}
use Rattle.wg_outside.specs.Outside.{Files, Counts, NonDecreasing}
use Rattle.wg_outside.proofs.{FilesLemmas.none_falls-trans, PutsLemmas.is_that_err}
use Rattle.wg_bits.specs.Bits.{bits_of}
use Rattle.wg_params.specs.Parameters.{Parameters, IsWithinLimits}
use Rattle.wg_properties.specs.declared.fault.PropFault.{PropFault}
use Rattle.wg_grammar.specs.Archive.{Accepted, ReadsGraph}
use Rattle.wg_outcomes.specs.{Answers.Answers, Answers.Steps, Answers.without, Readings.Readings}
use Rattle.wg_outcomes.specs.Judged.{Judged, refused, with_archive, with_file, with_graph}
use Rattle.wg_stream.specs.Sweeping.{greatest_outdegree}
use Rattle.wg_readings.specs.Loading.{JudgesOffsets, Loads, LoadsParams, lengths_then, params_then}
use Rattle.wg_outcomes.specs.{Names.IsOfInput, Names.file_of, Names.held_by, declared.ending.Ending.Ending}
use Rattle.wg_outcomes.specs.{Promised.IsStopAt, Promised.ArePromised, Promised.IsBadFile, declared.status.Input.Input}
use Rattle.wg_outcomes.specs.declared.status.Input.TheVariants.{Properties, Graph, Offsets}
use Rattle.wg_outcomes.specs.declared.status.Status.{Status}
use Rattle.wg_outcomes.specs.declared.status.Status.TheVariants.{Done, ReadFault, Missing, BadProperties}
use Rattle.wg_readings.proofs.{ReadingsLemmas.goes_on, UnderWay.cause_later, JobSteps.bad_promised}
use Rattle.wg_outcomes.proofs.Statuses.{bad_own, bad_unread, own_caused, own_read}
use Rattle.wg_transforms.specs.Loaded.{IsArchiveFile, IsOfArchive, JudgesArchive, LoadsArchive}
use Rattle.wg_outcomes.proofs.PerformsLemmas.{unread_promised}
use Rattle.wg_transforms.proofs.loaded.load_archive.Goals as goal

-- ---- the end at one of the files
of_input : (i : Input) (s : Status) → IsArchiveFile i → IsOfInput i s → IsOfArchive s
of_input i s there (inl want) = subst IsOfArchive (sym want) tt
of_input i s there (inr (inl fault)) = subst IsOfArchive (sym fault) there
of_input i s there (inr (inr (inl absent))) = subst IsOfArchive (sym absent) there
of_input i s there (inr (inr (inr long))) = subst IsOfArchive (sym long) there

of_bad : (i : Input) (n : ℕ) (e : Ending) → IsBadFile i n e → IsOfArchive e.status
of_bad i n e (inl want) = subst IsOfArchive (sym want) tt
of_bad i n e (inr fault) = subst IsOfArchive (sym fault.2) tt

of_stop : (i : Input) (n : ℕ) (e : Ending) → IsArchiveFile i → IsStopAt i n e → IsOfArchive e.status
of_stop i n e there (inl only) = of_input i e.status there only
of_stop i n e there (inr bad) = of_bad i n e bad

stop_read : (i : Input) (n : ℕ) (e : Ending) (j : Input) → IsStopAt i n e → e.status ≡ ReadFault j → i ≡ j
stop_read i n e j (inl only) is = own_read i e.status j only is
stop_read i n e j (inr bad) is = absurd (bad_unread i n e j bad is)

module _ (base : List ℕ) (td : Bool) (files : Files) (counts : List ℕ → Counts) where
  abbrev held : Input → Option (List ℕ)
  held = held_by (file_of base) files

  abbrev Next : Type 0
  Next = Parameters → Accepted → Judged

  -- what comes behind each file
  abbrev behind_graph : Readings → (Input → Option (List ℕ)) → Next → Parameters → Accepted → Judged
  behind_graph r h next p a = lengths_then r p a.places (h Offsets) (λ same. next p a)

  abbrev behind_bytes : Readings → (Input → Option (List ℕ)) → Next → Parameters → List ℕ → Judged
  behind_bytes r h next p bytes = with_graph r p bytes (λ a. behind_graph r h next p a)

  abbrev behind_params : Readings → (Input → Option (List ℕ)) → Next → Parameters → Judged
  behind_params r h next p = with_file Graph (h Graph) (λ bytes. behind_bytes r h next p bytes)

  not_params : (held' : Input → Option (List ℕ)) (e : Ending) → (IsOfInput Properties e.status ⊎ ((f : PropFault) × (e.status ≡ BadProperties f))) → ArePromised held' e.status e.promised
  not_params held' e (inl only) = unread_promised held' Properties e.status e.promised only
  not_params held' e (inr fault) = subst (λ (s : Status). ArePromised held' s e.promised) (sym fault.1) tt

  of_params : (e : Ending) → (IsOfInput Properties e.status ⊎ ((f : PropFault) × (e.status ≡ BadProperties f))) → IsOfArchive e.status
  of_params e (inl only) = of_input Properties e.status tt only
  of_params e (inr fault) = subst IsOfArchive (sym fault.1) tt

  read_params : (e : Ending) (i : Input) → (IsOfInput Properties e.status ⊎ ((f : PropFault) × (e.status ≡ BadProperties f))) → e.status ≡ ReadFault i → Properties ≡ i
  read_params e i (inl only) is = own_read Properties e.status i only is
  read_params e i (inr fault) is = absurd (let no : BadProperties fault.0 ≡ ReadFault i = sym fault.1 ∙ is in cc)

  -- the parameters were not read
  no_params : (files' : Files) (counts' : List ℕ → Counts) (e : Ending) → LoadsParams base td files files' counts counts' (Err e) → LoadsArchive base td files files' counts counts' (Err e)
  no_params files' counts' e l = record {
    goes = tt;
    ends = λ t r next. l.steps t (behind_params r held next);
    only = of_params e l.only;
    causes = l.causes;
    reached = λ t r i is next. subst (λ (k : Input). with_archive r (without k held) next ≡ refused (Missing k)) (read_params e i l.only is) refl;
    promised = λ t. not_params held e l.only;
    same = l.same;
    later = l.later;
  }

  module _ (p : Parameters) (files1 : Files) (counts1 : List ℕ → Counts) (l : LoadsParams base td files files1 counts counts1 (Ok p)) where
    -- whatever the other files hold
    k1 : IsTrue td → (r : Readings) (h : Input → Option (List ℕ)) → h Properties ≡ held Properties → (next : Next) → with_archive r h next ≡ behind_params r h next p
    k1 t r h same next = ap (λ (o : Option (List ℕ)). params_then o (behind_params r h next)) same ∙ l.steps t (behind_params r h next)

    here1 : (i : Input) → held i ≡ held_by (file_of base) files1 i
    here1 i = ap (λ (f : Files). held_by (file_of base) f i) (sym l.same)

    no_bytes : (files' : Files) (counts' : List ℕ → Counts) (e : Ending) → Loads (file_of base) Graph td files1 files' counts1 counts' (Err e) → LoadsArchive base td files files' counts counts' (Err e)
    no_bytes files' counts' e b = record {
      goes = tt;
      ends = λ t r next.
          subst (λ (j : Judged). Answers j e.status) (sym (k1 t r held refl next ∙ ap (λ (o : Option (List ℕ)). with_file Graph o (behind_bytes r held next p)) (here1 Graph)))
          (b.steps t (behind_bytes r held next p));
      only = of_input Graph e.status tt b.mine;
      causes = cause_later (file_of base) counts counts1 counts' e.status l.later b.causes;
      reached = λ t r i is next. subst (λ (k : Input). with_archive r (without k held) next ≡ refused (Missing k)) (own_read Graph e.status i b.mine is) (k1 t r (without Graph held) refl next);
      promised = λ t. unread_promised held Graph e.status e.promised b.mine;
      same = b.same ∙ l.same;
      later = none_falls-trans _ _ _ l.later b.later;
    }

    module _ (files2 : Files) (counts2 : List ℕ → Counts) (bytes : List ℕ) (b : Loads (file_of base) Graph td files1 files2 counts1 counts2 (Ok bytes)) (slice : List ℕ) (is_slice : slice ≡ bytes) where
      k2 : IsTrue td → (r : Readings) (h : Input → Option (List ℕ)) → h Properties ≡ held Properties → h Graph ≡ held Graph → (next : Next) → with_archive r h next ≡ behind_bytes r h next p slice
      k2 t r h same same_graph next =
          k1 t r h same next ∙ ap (λ (o : Option (List ℕ)). with_file Graph o (behind_bytes r h next p)) (same_graph ∙ here1 Graph) ∙ b.steps t (behind_bytes r h next p)
          ∙ ap (λ (x : List ℕ). behind_bytes r h next p x) (sym is_slice)

      here2 : (i : Input) → held i ≡ held_by (file_of base) files2 i
      here2 i = here1 i ∙ ap (λ (f : Files). held_by (file_of base) f i) (sym b.same)

      no_records : (files' : Files) (counts' : List ℕ → Counts) (e : Ending) → IsBadFile Graph p.arcs e → ((r : Readings) → Steps {B = Accepted} (with_graph r p slice) (Err e)) → files' ≡ files2
          → NonDecreasing counts2 counts' → LoadsArchive base td files files' counts counts' (Err e)
      no_records files' counts' e bad steps same later = record {
        goes = tt;
        ends = λ t r next. subst (λ (j : Judged). Answers j e.status) (sym (k2 t r held refl refl next)) (steps r (behind_graph r held next p));
        only = of_bad Graph p.arcs e bad;
        causes = own_caused _ _ _ _ _ _ e.status (bad_own Graph p.arcs e bad);
        reached = λ t r i is next. absurd (bad_unread Graph p.arcs e i bad is);
        promised = λ t. bad_promised held p Graph e (l.given t) bad;
        same = same ∙ b.same ∙ l.same;
        later = none_falls-trans _ _ _ (none_falls-trans _ _ _ l.later b.later) later;
      }

      module _ (limits : IsWithinLimits p) (a : Accepted) (reads : ReadsGraph p (bits_of slice) (Ok a)) where
        k3 : IsTrue td → (r : Readings) (h : Input → Option (List ℕ)) → h Properties ≡ held Properties → h Graph ≡ held Graph → (next : Next) → with_archive r h next ≡ behind_graph r h next p a
        k3 t r h same same_graph next = k2 t r h same same_graph next ∙ goes_on r p limits slice a.graph a.places reads (behind_graph r h next p)

        no_offsets : (files' : Files) (counts' : List ℕ → Counts) (e : Ending) → JudgesOffsets base p a.places td files2 files' counts2 counts' (Err e) → LoadsArchive base td files files' counts counts' (Err e)
        no_offsets files' counts' e o = record {
          goes = tt;
          ends = λ t r next.
              subst (λ (j : Judged). Answers j e.status) (sym (k3 t r held refl refl next ∙ ap (λ (x : Option (List ℕ)). lengths_then r p a.places x (λ same. next p a)) (here2 Offsets)))
              (o.goes t r (λ same. next p a));
          only = of_stop Offsets p.arcs e tt o.reads.ends.only;
          causes = cause_later (file_of base) counts counts2 counts' e.status (none_falls-trans _ _ _ l.later b.later) o.reads.ends.causes;
          reached = λ t r i is next. subst (λ (k : Input). with_archive r (without k held) next ≡ refused (Missing k)) (stop_read Offsets p.arcs e i o.reads.ends.only is) (k3 t r (without Offsets held) refl refl next);
          promised = λ t. stop_promised t o.reads.ends.only;
          same = o.reads.same ∙ b.same ∙ l.same;
          later = none_falls-trans _ _ _ (none_falls-trans _ _ _ l.later b.later) o.reads.later;
        }
          where
            stop_promised : IsTrue td → IsStopAt Offsets p.arcs e → ArePromised held e.status e.promised
            stop_promised t (inl only) = unread_promised held Offsets e.status e.promised only
            stop_promised t (inr bad) = bad_promised held p Offsets e (l.given t) bad

        loads_all : (files' : Files) (counts' : List ℕ → Counts) (greatest : ℕ) → greatest ≡ greatest_outdegree a.graph → JudgesOffsets base p a.places td files2 files' counts2 counts' (Ok tt)
            → LoadsArchive base td files files' counts counts' (Ok (record { params = p; bytes = bytes; greatest = greatest }))
        loads_all files' counts' greatest most o = record {
          goes = (
            a,
            record { limits = limits; short = b.short; judged = (subst (λ (x : List ℕ). ReadsGraph p (bits_of x) (Ok a)) is_slice reads, most) },
            λ t r next.
                k3 t r held refl refl next ∙ ap (λ (x : Option (List ℕ)). lengths_then r p a.places x (λ same. next p a)) (here2 Offsets) ∙ o.goes t r (λ same. next p a),
          );
          ends = λ t r. tt;
          only = tt;
          causes = own_caused _ _ _ _ _ _ Done tt;
          reached = λ t r i is. absurd (let no : Done ≡ ReadFault i = is in cc);
          promised = λ t. tt;
          same = o.reads.same ∙ b.same ∙ l.same;
          later = none_falls-trans _ _ _ (none_falls-trans _ _ _ l.later b.later) o.reads.later;
        }

      -- both files were validated, or one of them ends it
      not_judged : (files' : Files) (counts' : List ℕ → Counts) (e : Ending) → JudgesArchive base p slice td files2 files' counts2 counts' (Err e) → LoadsArchive base td files files' counts counts' (Err e)
      not_judged files' counts' e j = by_file j.ends
        where
          by_file : ((IsBadFile Graph p.arcs e × ((r : Readings) → Steps {B = Accepted} (with_graph r p slice) (Err e)) × (files' ≡ files2) × NonDecreasing counts2 counts')
              ⊎ ((a : Accepted) × ReadsGraph p (bits_of slice) (Ok a) × JudgesOffsets base p a.places td files2 files' counts2 counts' (Err e)))
              → LoadsArchive base td files files' counts counts' (Err e)
          by_file (inl bad) = no_records files' counts' e bad.0 bad.1 bad.2 bad.3
          by_file (inr bad) = no_offsets j.limits bad.0 bad.1 files' counts' e bad.2

      all_judged : (files' : Files) (counts' : List ℕ → Counts) (greatest : ℕ) → JudgesArchive base p slice td files2 files' counts2 counts' (Ok greatest)
          → LoadsArchive base td files files' counts counts' (Ok (record { params = p; bytes = bytes; greatest = greatest }))
      all_judged files' counts' greatest j = let g = j.goes in loads_all j.limits g.0 g.1.0 files' counts' greatest g.1.1 g.2

pub returns-in_err-params : goal.returns-in_err-params
returns-in_err-params g c = rw (is_that_err c.from_residual.result _ c.from_residual.ensures.1) (no_params c.args.base.now _ _ _ _ _ _ c.in_err-params.ensures)

pub returns-in_err-bytes : goal.returns-in_err-bytes
returns-in_err-bytes g c =
    rw (is_that_err c.from_residual-in_err-bytes.result _ c.from_residual-in_err-bytes.ensures.1)
    (no_bytes c.args.base.now _ _ _ c.in_ok-params.params _ _ c.in_ok-params.ensures _ _ _ c.in_err-bytes.ensures)

pub returns-in_err-greatest : goal.returns-in_err-greatest
returns-in_err-greatest g c =
    rw (is_that_err c.from_residual-in_err-greatest.result _ c.from_residual-in_err-greatest.ensures.1)
    (not_judged c.args.base.now _ _ _ c.in_ok-params.params _ _ c.in_ok-params.ensures _ _ c.in_ok-bytes.bytes c.in_ok-bytes.ensures _ c.as_slice.ensures _ _ _ c.in_err-greatest.ensures)

pub returns : goal.returns
returns g c =
    all_judged c.args.base.now _ _ _ c.in_ok-params.params _ _ c.in_ok-params.ensures _ _ c.in_ok-bytes.bytes c.in_ok-bytes.ensures _ c.as_slice.ensures _ _ _ c.in_ok-greatest.ensures
