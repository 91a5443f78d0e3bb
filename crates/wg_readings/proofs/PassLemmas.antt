-- A graph file that is read in pieces, in a validation.
use Rattle.std.proofs.Common.{◌≡◌, inl, inr, ℕ, Bool, true, false, List, refl, sym, ◌∙◌, ap, subst, Option, Some, None, Result, Ok, Err, arith}
use Rattle.std.specs.Bool.{IsTrue}
use Rattle.std.specs.FinMap as map
use Rattle.wg_outside.specs.{Outside.Files, Outside.Counts, declared.whole.LoadError.LoadError}
use Rattle.wg_outside.specs.declared.whole.LoadError.TheVariants as load
use Rattle.wg_params.specs.Parameters.{Parameters, IsWithinLimits}
use Rattle.wg_grammar.specs.{declared.fault.ArchiveFault.ArchiveFault, Archive.Accepted, Errors.OfRefusal}
use Rattle.wg_grammar.specs.declared.fault.ArchiveFault.TheVariants as archive
use Rattle.wg_source.specs.Held.{HeldBytes}
use Rattle.wg_source.specs.Stepping.{HasCause as HasReadCause}
use Rattle.wg_grammar.specs.declared.error.ReadError.{ReadError}
use Rattle.wg_grammar.specs.declared.error.ReadError.TheVariants as pages
use Rattle.wg_stream.specs.{declared.first.First.First, declared.state.State.TheVariants.Open, FirstError.Says}
use Rattle.wg_stream.specs.Reading.{Reading, Goes, IsJudged}
use Rattle.wg_stream.proofs.ErrorLemmas.{no_err}
use Rattle.wg_outcomes.specs.{Answers.Answers, Answers.Steps, Causes.HasCause, Names.no_outputs, Promised.IsStopAt}
use Rattle.wg_outcomes.specs.{Judged.Judged, Judged.status_of, Judged.with_graph, Readings.Readings}
use Rattle.wg_outcomes.specs.{declared.ending.Ending.Ending, declared.status.Input.Input}
use Rattle.wg_outcomes.specs.declared.status.Input.TheVariants.{Graph}
use Rattle.wg_outcomes.specs.declared.status.Status.TheVariants.{BadArchive, Done, Memory}
pub use Rattle.wg_outcomes.proofs.FileLemmas.{file_goes}
use Rattle.wg_outcomes.proofs.{FileLemmas.held_goes, Statuses.own_caused}
use Rattle.wg_readings.specs.Passes.{Advances, FollowsFile, IsFound, IsGraphFile, ending_at, graph_then}
use Rattle.wg_readings.proofs.{FindingLemmas.error_steps, ReadingsLemmas.goes_on, ReadingsLemmas.is_refused}

-- ---- what an error tells, whatever the file is
of_graph : (n : ℕ) (f : ArchiveFault) (first : First) → Says (pages.Fault f) first → IsStopAt Graph n (ending_at n (pages.Fault f))
of_graph n f first h = grind arith

only_at : (n : ℕ) (x : ReadError ArchiveFault LoadError) (first : First) → Says x first → IsStopAt Graph n (ending_at n x)
only_at n x first h = grind arith

cause_at : (told : Bool) (name : List ℕ) (files : Files) (old new : List ℕ → Counts) (h : HeldBytes) (n : ℕ) (x : ReadError ArchiveFault LoadError)
    → OfRefusal x (HasReadCause told name files old new h)
    → (names : Input → Option (List ℕ)) → names Graph ≡ Some name → HasCause names no_outputs old new 0 0 (ending_at n x).status
cause_at told name files old new h n x refusal names named = grind arith

-- ---- what it tells of a file that is told
module _ (r : Readings) (p : Parameters) (limits : IsWithinLimits p) where
  pub graph_goes : (held : Option (List ℕ)) (a : Accepted) → IsGraphFile held p a → (next : Accepted → Judged) → graph_then r p held next ≡ next a
  graph_goes held a h next = held_goes Graph held h.file h.is h.judged.short (λ bytes. with_graph r p bytes next) ∙ goes_on r p limits h.file a.graph a.places h.judged.reads next

  fault_refuses : (held : Option (List ℕ)) (f : ArchiveFault) → (held ≡ None → ◌≡◌ {A = ReadError ArchiveFault LoadError} (pages.Fault f) (pages.Refused load.Absent))
      → ((file : List ℕ) → held ≡ Some file → IsJudged file p (Err f))
      → (next : Accepted → Judged) → Answers (graph_then r p held next) (BadArchive f)
  fault_refuses None f none some next = absurd (let no = none refl in cc)
  fault_refuses (Some file) f none some next =
      let h = some file refl in
      inl (sym (ap status_of (file_goes Graph file h.short (λ bytes. with_graph r p bytes next) ∙ is_refused r p limits file f h.reads next)))

-- ---- a step of a reading

-- a file that was read is there, and one that was not found is absent
pub found_after : (o : Option (List ℕ)) (looked : Bool) → (o ≡ None → looked ≡ false → ⊥) → (looked ≡ true → (file : List ℕ) × (o ≡ Some file)) → (file : List ℕ) × (o ≡ Some file)
found_after o looked h h2 = grind arith

absent_after : (o : Option (List ℕ)) (looked : Bool) (x : ReadError ArchiveFault LoadError)
    → (o ≡ None → looked ≡ false → ◌≡◌ {A = Result (Unit {0}) (ReadError ArchiveFault LoadError)} (Err x) (Err (pages.Refused load.Absent)))
    → (looked ≡ true → (file : List ℕ) × (o ≡ Some file)) → o ≡ None → x ≡ pages.Refused load.Absent
absent_after o looked x h h2 h3 = grind arith

module _ (told : Bool) (files files' : Files) (counts counts' : List ℕ → Counts) (p : Parameters) (a b : Reading) (going : a.state ≡ Open) (same : a.pages.params ≡ p) where
  module _ (t : IsTrue told) (limits : IsWithinLimits p) (found : IsFound files a) (follows : FollowsFile files a) (r : Readings) where
    refuses : (x : ReadError ArchiveFault LoadError) → Goes told files files' counts counts' a b (Err x) → (next : Accepted → Judged)
        → Answers (graph_then r p (map.get files a.name) next) (ending_at p.arcs x).status
    refuses pages.Memory g next = inr tt
    refuses (pages.Fault f) g next =
        fault_refuses r p limits (map.get files a.name) f (absent_after _ a.held.looked (pages.Fault f) (g.absent t) found)
        (λ file is. let k = follows file is in subst (λ (q : Parameters). IsJudged file q (Err f)) same (g.fault t file is k.0 k.1)) next
    refuses (pages.Refused e) g next = grind (arith, error_steps)

  -- an error ends the job
  pub stops : (x : ReadError ArchiveFault LoadError) (e : Ending) → e ≡ ending_at p.arcs x → Goes told files files' counts counts' a b (Err x)
      → Advances {B = Unit {0}} told files files' counts counts' p a b (Err e)
  stops x e is g = subst (λ (y : Ending). Advances {B = Unit {0}} told files files' counts counts' p a b (Err y)) (sym is)
      (record {
        params = g.params;
        name = g.name;
        onward = g.onward;
        same = g.same;
        later = g.later;
        only = only_at p.arcs x g.closed.0 g.closed.1;
        causes = cause_at told a.name files counts counts' a.held p.arcs x g.cause;
        there = λ t held is found. tt;
        refused = λ t limits held here found follows r.
            subst (λ (f : Files). Steps {B = Accepted} (graph_then r p (map.get f a.name)) (Err (ending_at p.arcs x))) here
            (refuses t limits (subst (λ (f : Files). IsFound f a) (sym here) found) (subst (λ (f : Files). FollowsFile f a) (sym here) follows) r x g);
      })

  pub advances : Goes told files files' counts counts' a b (Ok tt) → Advances {B = Unit {0}} told files files' counts counts' p a b (Ok tt)
  advances g = record {
    params = g.params;
    name = g.name;
    onward = g.onward;
    same = g.same;
    later = g.later;
    only = tt;
    causes = λ names named. own_caused _ _ _ _ _ _ Done tt;
    there = λ t held is found. found_after _ a.held.looked (λ none new. no_err (g.absent t (ap (λ (f : Files). map.get f a.name) is ∙ none) new)) found;
    refused = λ t limits held is found follows r. tt;
  }
