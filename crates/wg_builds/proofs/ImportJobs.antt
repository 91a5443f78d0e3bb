-- An ASCIIGraph text that is imported, line by line: how it ends.
use Rattle.std.proofs.Common.{◌≡◌, ℕ, ◌≤◌, Bool, List, length, Some, Result, Ok, Err, refl, sym, subst, ◌∙◌, arith}
use Rattle.std.specs.Bool.{IsTrue}
use Rattle.std.specs.FinMap as map
use Rattle.wg_outside.specs.Outside.{Files, Counts, NonDecreasing}
use Rattle.wg_outside.specs.declared.limits.TheConstants.{MOST_BYTES}
use Rattle.wg_num.specs.Lines.{lines_of}
use Rattle.wg_graph.specs.Digraph.{Digraph}
use Rattle.wg_ascii.specs.{Growing.IsFirst, Reading.StandsFor, declared.fault.AsciiError.AsciiError}
use Rattle.wg_ascii.specs.declared.fault.AsciiError.TheVariants as error
use Rattle.wg_words.specs.{Jobs.writing, declared.jobs.Origin.TheVariants.Import}
use Rattle.wg_params.specs.declared.layout.Layout.{Layout}
use Rattle.wg_outcomes.specs.{Judged.with_text, Names.held_by, Names.text_named, Promised.ArePromised, Commands.builds}
use Rattle.wg_readings.specs.Loading.{IsBadText, LoadsText}
use Rattle.wg_readings.proofs.ReadingsLemmas.{text_goes_on, text_refused}
use Rattle.wg_readings.proofs.JobSteps.{IsRefusal, ends_at}
use Rattle.wg_outcomes.specs.{declared.ending.Ending.Ending, declared.status.Input.TheVariants.Text}
use Rattle.wg_outcomes.specs.{declared.status.Status.Status, JobFiles.input_name, Performs.Outside, Performs.Performs}
use Rattle.wg_outcomes.specs.declared.status.Status.TheVariants.{Done, Memory}
use Rattle.wg_outcomes.proofs.{Statuses.IsOwn, Statuses.own_caused, FileLemmas.held_goes}
use Rattle.wg_builds.specs.Imported.{status_of_text}

-- an ASCIIGraph text that was not read ends the job
pub text_unread : (text base : List ℕ) (l : Layout) (td to : Bool) (before after : Outside) (e : Ending) → after.taken ≡ before.taken → LoadsText text td before.files after.files before.counts after.counts (Err e)
    → Performs (writing base l (Import text)) td to before after e.status e.promised
text_unread text base l td to before after e silent h =
    ends_at (writing base l (Import text)) td to before after e silent h.same h.later (λ t r. h.steps t r (λ g. builds l g)) (text_named text) Text IsBadText refl refl h.only h.causes (λ t r. refl)
    (λ fault. subst (IsRefusal (writing base l (Import text))) (sym fault.2) (record { own = tt; stop = tt; possible = refl }))
    (λ t fault. subst (λ (s : Status). ArePromised (held_by (input_name (writing base l (Import text))) before.files) s e.promised) (sym fault.2) tt)

-- other reads came before
pub text_after : (name : List ℕ) (td : Bool) (f g h : Files) (a b c : List ℕ → Counts) (r : Result Digraph Ending) → g ≡ f → NonDecreasing a b → LoadsText name td g h b c r → LoadsText name td f h a c r
text_after name td f g h a b c r same later l = grind arith

module _ (name : List ℕ) (td : Bool) (files files' : Files) (counts counts' : List ℕ → Counts) (same : files' ≡ files) (later : NonDecreasing counts counts') where
  -- ---- the text was read
  pub text_read : (g : Digraph) → (IsTrue td → (file : List ℕ) × (map.get files name ≡ Some file) × (length file ≤ MOST_BYTES) × StandsFor (lines_of file) g) → LoadsText name td files files' counts counts' (Ok g)
  text_read g told = record {
    steps = λ t r next. let h = told t in held_goes Text (map.get files name) h.0 h.1 h.2 (λ bytes. with_text r bytes next) ∙ text_goes_on r h.0 g h.3 next;
    only = tt;
    causes = own_caused _ _ _ _ _ _ Done tt;
    same = same;
    later = later;
  }

  -- ---- memory ran out, or a line is at fault
  pub text_wants : (e : Ending) → e.status ≡ Memory → LoadsText name td files files' counts counts' (Err e)
  text_wants e want = grind arith

  pub text_stops : (e : Ending) (x : AsciiError) → e.status ≡ status_of_text x → (IsTrue td → (file : List ℕ) × (map.get files name ≡ Some file) × (length file ≤ MOST_BYTES) × IsFirst (lines_of file) x) → LoadsText name td files files' counts counts' (Err e)
  text_stops e x h h2 = grind (arith, text_refused, IsOwn, own_caused, held_goes, text_wants)
