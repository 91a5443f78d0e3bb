-- How the validation of an archive's files ends.
use Rattle.wg_readings.proofs.{PassLemmas.graph_goes, ReadingsLaws.the_readings}
use Rattle.wg_outcomes.proofs.PerformsLemmas.{hindered}
use Rattle.wg_outcomes.specs.{Judged.Judged, Judged.with_lengths, Judged.offsets_then, Causes.HasCause}
use Rattle.wg_outcomes.specs.{declared.status.Status.TheVariants.Memory, Names.file_of, Names.held_by, Names.no_outputs}
use Rattle.wg_grammar.specs.{Archive.Accepted, Record.Whole}
use Rattle.std.proofs.Common.{◌≡◌, ◌∙◌, inl, inr, ℕ, Bool, List, Option, Result, Ok, Err, refl, sym, subst, arith}
use Rattle.std.specs.{Bool.IsTrue, Result.IfErr}
use Rattle.wg_outside.specs.Outside.{Files, Counts, NonDecreasing}
use Rattle.wg_outside.proofs.FilesLemmas.{none_falls-refl, none_falls-trans}
use Rattle.wg_params.specs.Parameters.{Parameters, IsWithinLimits}
use Rattle.wg_offsets.specs.Places.{last_place}
use Rattle.wg_stream.specs.Reading.{Reading}
use Rattle.wg_outcomes.specs.{Answers.IsHindrance, Answers.Steps, Answers.status_in, Promised.IsStopAt}
use Rattle.wg_readings.specs.Loading.{JudgesFiles, JudgesGraph, JudgesOffsets, Reads, lengths_then}
use Rattle.wg_readings.specs.Passes.{Advances, IsGraphFile, graph_then}
use Rattle.wg_outcomes.specs.{Readings.Readings, declared.ending.Ending.Ending, declared.status.Input.Input}
use Rattle.wg_outcomes.specs.declared.status.Input.TheVariants as input
use Rattle.wg_readings.proofs.UnderWay.{IsUnderWay, ends_caused, ends_told}

-- ---- the end of the offsets file
pub offsets_judged : (base : List ℕ) (p : Parameters) (places : List ℕ) (td : Bool) (files files' : Files) (counts counts' : List ℕ → Counts) (r : Result (Unit {0}) Ending)
    → IfErr r (IsStopAt input.Offsets p.arcs) → HasCause (file_of base) no_outputs counts counts' 0 0 (status_in r)
    → (IsTrue td → (q : Readings) → Steps {B = Unit {0}} (lengths_then q p places (held_by (file_of base) files input.Offsets)) r)
    → files' ≡ files → NonDecreasing counts counts' → JudgesOffsets base p places td files files' counts counts' r
offsets_judged base p places td files files' counts counts' (Ok done) only cause steps same later = record { reads = record { ends = tt; same = same; later = later }; goes = steps }
offsets_judged base p places td files files' counts counts' (Err e) only cause steps same later = grind arith

-- ---- memory ran out
pub reads_want : {A B : Type 0} (base : List ℕ) (i : Input) (n : ℕ) (step : Readings → Option (List ℕ) → (B → Judged) → Judged) (td : Bool) (files files' : Files) (counts counts' : List ℕ → Counts) (e : Ending) → e.status ≡ Memory
    → files' ≡ files → NonDecreasing counts counts' → Reads {A = A} {B = B} base i n step td files files' counts counts' (Err e)
reads_want base i n step td files files' counts counts' e want same later = grind arith

module _ (base : List ℕ) (p : Parameters) (td : Bool) (files : Files) (counts : List ℕ → Counts) (e : Ending) (want : e.status ≡ Memory) where
  pub graph_unread : JudgesGraph base p td files files counts counts (Err e)
  graph_unread = record { reads = reads_want _ _ _ _ _ _ _ _ _ e want refl (none_falls-refl counts); limits = tt; accepted = λ t. tt }

  pub offsets_unread : (places : List ℕ) → JudgesOffsets base p places td files files counts counts (Err e)
  offsets_unread places = record { reads = reads_want _ _ _ _ _ _ _ _ _ e want refl (none_falls-refl counts); goes = λ t r next. inr (subst IsHindrance (sym want) tt) }

  pub files_unread : JudgesFiles base p td files files counts counts (Err e)
  files_unread = grind arith

-- ---- the reading of the graph file stopped
module _ (told : Bool) (base : List ℕ) (p : Parameters) (files : Files) (counts : List ℕ → Counts) (files1 files2 : Files) (counts1 counts2 : List ℕ → Counts) (n : ℕ) (a b : Reading) (P : List Whole → Type 0)
    (h : IsUnderWay told base p files files1 counts counts1 n a P) (limits : IsWithinLimits p) (e : Ending) (step : Advances {B = Unit {0}} told files1 files2 counts1 counts2 p a b (Err e)) where
  pub graph_stops : JudgesGraph base p told files files2 counts counts2 (Err e)
  graph_stops = record {
    reads = record {
      ends = record {
        only = step.only;
        causes = ends_caused told base p files counts files1 files2 counts1 counts2 n a b P h e step;
        refused = λ t r. ends_told told base p files counts files1 files2 counts1 counts2 n a b P h e step t limits r;
      };
      same = step.same ∙ h.same;
      later = none_falls-trans _ _ _ h.later step.later;
    };
    limits = tt;
    accepted = λ t. tt;
  }

  pub files_stop : JudgesFiles base p told files files2 counts counts2 (Err e)
  files_stop = record {
    steps = λ t r next.
        ends_told told base p files counts files1 files2 counts1 counts2 n a b P h e step t limits r
        (λ a. offsets_then r p (held_by (file_of base) files input.Offsets) (λ stored. with_lengths a.places stored (λ same. next (last_place a.places))));
    limits = tt;
    only = inl step.only;
    causes = ends_caused told base p files counts files1 files2 counts1 counts2 n a b P h e step;
    same = step.same ∙ h.same;
    later = none_falls-trans _ _ _ h.later step.later;
  }

-- ---- a file that stands for a graph
-- what stopped the reading of a file that stands for a graph is no fault of it
pub read_hindered : (base : List ℕ) (p : Parameters) (td : Bool) (files : Files) (counts : List ℕ → Counts) → IsWithinLimits p → (files1 files2 : Files) (counts1 counts2 : List ℕ → Counts) (n : ℕ) (a b : Reading) (P : List Whole → Type 0)
    → IsUnderWay td base p files files1 counts counts1 n a P → (e : Ending) → Advances {B = Unit {0}} td files1 files2 counts1 counts2 p a b (Err e)
    → IsTrue td → (x : Accepted) → IsGraphFile (held_by (file_of base) files input.Graph) p x → IsHindrance e.status
read_hindered base p td files counts limits files1 files2 counts1 counts2 n a b P h e step t x g =
    hindered (graph_then the_readings p (held_by (file_of base) files input.Graph)) x e (graph_goes the_readings p limits (held_by (file_of base) files input.Graph) x g)
    (ends_told td base p files counts files1 files2 counts1 counts2 n a b _ h e step t limits the_readings)
