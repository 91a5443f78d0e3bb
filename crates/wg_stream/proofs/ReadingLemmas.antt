-- A reading that goes on.
use Rattle.std.proofs.Common.{◌≡◌, ◌∙◌, ℕ, ◌≤◌, List, ◌∷◌, Bool, true, false, Some, None, Result, Ok, Err, length, refl, sym, ap, subst, arith}
use Rattle.std.specs.Bool.{IsTrue}
use Rattle.std.specs.FinMap as map
use Rattle.wg_outside.specs.Outside.{Files, Counts}
use Rattle.wg_outside.specs.declared.limits.TheConstants.{MOST_BYTES}
use Rattle.wg_grammar.specs.Archive.{ReadsGraph, lists_of, places_of}
use Rattle.wg_bits.specs.Bits.{bits_of}
use Rattle.wg_grammar.specs.Record.{Whole}
use Rattle.wg_stream.specs.declared.state.State.{State}
use Rattle.wg_stream.specs.declared.state.State.TheVariants.{Open, Done, Closed}
use Rattle.wg_stream.specs.declared.first.First.{First}
use Rattle.wg_grammar.specs.declared.error.ReadError.{ReadError}
use Rattle.wg_grammar.specs.declared.fault.ArchiveFault.{ArchiveFault}
use Rattle.wg_grammar.specs.Errors.{OfFault, OfRefusal}
use Rattle.wg_stream.specs.FirstError.{Says}
use Rattle.wg_outside.specs.declared.whole.LoadError.{LoadError}
use Rattle.wg_source.specs.Held.{HeldBytes, IsHeldOf}
use Rattle.wg_source.specs.Stepping.{Steps, HasCause}
use Rattle.wg_source.specs.StepLaws.{later_cause, still_there, two_steps}
use Rattle.wg_stream.specs.Prefix.{PagesRead, AreBehind, HoldsFew, IsOneMore}
use Rattle.wg_stream.specs.Reading.{Reading, AgreesIn, Goes, IsInStep, IsJudged, IsSteady, Stands, StaysInStep}
use Rattle.wg_grammar.proofs.ErrorLemmas.{fault_weaker, refusal_weaker}

-- what an open reading that is in step knows of the file: what it holds, and the records up to the next bit and up to
-- the end of the last
pub reads_of : (file : List ℕ) (r : Reading) (whole : List Whole) → r.state ≡ Open → Stands r r.state → IsInStep file r whole
    → IsHeldOf file r.held × AreBehind (bits_of file) r.pages r.held.at whole × AreBehind (bits_of file) r.pages r.at whole
reads_of file r whole is stands s =
    let a = subst (λ (x : State). AgreesIn x file r whole) is s in
    let here = subst (Stands r) is stands in
    (a.held, subst (λ (n : ℕ). AreBehind (bits_of file) r.pages n whole) (sym here) a.records, a.records)

-- ---- a step of an open reading: a look at the file, and then a record of it or its end
module _ (told : Bool) (files files1 files2 : Files) (counts counts1 counts2 : List ℕ → Counts) (r : Reading) (v : IsSteady r) (going : r.state ≡ Open) (h1 h2 : HeldBytes) (looked : h1 ≡ record r.held { looked = true })
    (look : Steps told r.name files files1 counts counts1 r.held h1) (absent : IsTrue told → map.get files r.name ≡ None → r.held.looked ≡ false → ⊥)
    (step : Steps told r.name files1 files2 counts1 counts2 h1 h2) (pages : PagesRead) (params : pages.params ≡ r.pages.params) (few : HoldsFew pages) (at : ℕ) (state : State) where
  abbrev after : Reading
  after = record { pages = pages; name = r.name; at = at; held = h2; state = state }

  both : Steps told r.name files files2 counts counts2 r.held h2
  both = two_steps _ _ _ _ _ _ _ _ _ _ _ _ refl look step

  -- a file that the reading is in step with, after the look
  record IsHere (file : List ℕ) (whole : List Whole) : Type 0 where
    there : map.get files1 r.name ≡ Some file
    before : IsHeldOf file r.held
    held : IsHeldOf file h1
    short : length file ≤ MOST_BYTES
    next : AreBehind (bits_of file) r.pages h1.at whole
    last : AreBehind (bits_of file) r.pages r.at whole

  here : IsTrue told → (file : List ℕ) → map.get files r.name ≡ Some file → (whole : List Whole) → IsInStep file r whole → IsHere file whole
  here t file is whole s =
      let a = reads_of file r whole going v.stands s in
      let held = look.in_step t file is a.0 in
      record {
        there = still_there _ _ _ _ _ _ _ _ _ file refl look is;
        before = a.0;
        held = held;
        short = held.short (ap (λ (h : HeldBytes). h.looked) looked);
        next = subst (λ (n : ℕ). AreBehind (bits_of file) r.pages n whole) (sym (ap (λ (h : HeldBytes). h.at) looked)) a.1;
        last = a.2;
      }

  pub goes_wrong : (e : ReadError ArchiveFault LoadError) → r.at ≡ at → (f : First) × Says e f × (state ≡ Closed f) → OfRefusal e (HasCause told r.name files1 counts1 counts2 h1)
      → (IsTrue told → (file : List ℕ) → map.get files1 r.name ≡ Some file → IsHeldOf file h1 → (whole : List Whole) → AreBehind (bits_of file) r.pages h1.at whole
      → OfFault e (λ f. ReadsGraph r.pages.params (bits_of file) (Err f))) → Goes told files files2 counts counts2 r after (Err e)
  goes_wrong e same closed cause fault = record {
    params = params;
    name = refl;
    onward = omega (arith, same);
    same = both.same;
    later = both.later;
    few = few;
    small = (both.small v.small).few;
    looked = tt;
    closed = closed;
    fault = λ t file is whole s.
        let k = here t file is whole s in
        fault_weaker e _ _ (λ f x. record { short = k.short; reads = x }) (fault t file k.there k.held whole k.next);
    cause = refusal_weaker e _ _ (λ l x. later_cause _ _ _ _ _ _ _ _ _ _ l refl look x) cause;
    absent = λ t none new. absurd (absent t none new);
  }

  -- one record more was read
  pub one_read : state ≡ Open → at ≡ h2.at
      → (IsTrue told → (file : List ℕ) → map.get files1 r.name ≡ Some file → IsHeldOf file h1 → (whole : List Whole) → AreBehind (bits_of file) r.pages h1.at whole → IsOneMore (bits_of file) pages h2.at whole)
      → IsTrue told → (file : List ℕ) → map.get files r.name ≡ Some file → (whole : List Whole) → IsInStep file r whole → StaysInStep file after whole (Ok true)
  one_read is same reads t file there whole s =
      let k = here t file there whole s in
      let more = reads t file k.there k.held whole k.next in (
        more.0,
        more.1,
        more.2 ∙ sym same,
        subst (λ (x : State). AgreesIn x file after (more.0 ∷ whole)) (sym is)
            (record { held = both.in_step t file there k.before; records = subst (λ (n : ℕ). AreBehind (bits_of file) pages n (more.0 ∷ whole)) (sym same) more.3 }),
      )

  -- all records were read, and the end is right
  pub all_read : r.pages ≡ pages → r.at ≡ at
      → (IsTrue told → (file : List ℕ) → map.get files1 r.name ≡ Some file → IsHeldOf file h1 → (whole : List Whole) → AreBehind (bits_of file) r.pages h1.at whole
      → ReadsGraph r.pages.params (bits_of file) (Ok (record { graph = lists_of whole; places = places_of whole })))
      → IsTrue told → (file : List ℕ) → map.get files r.name ≡ Some file → (whole : List Whole) → IsInStep file r whole → AgreesIn Done file after whole
  all_read same stays reads t file there whole s =
      let k = here t file there whole s in (
        record { held = both.in_step t file there k.before; records = subst (λ (n : ℕ). AreBehind (bits_of file) pages n whole) stays (subst (λ (q : PagesRead). AreBehind (bits_of file) q r.at whole) same k.last) },
        subst (λ (q : PagesRead). IsJudged file q.params (Ok (record { graph = lists_of whole; places = places_of whole }))) same (record { short = k.short; reads = reads t file k.there k.held whole k.next }),
      )

-- how a reading goes on, of an equal depot
pub goes_as : {D : Type 0} (told : Bool) (files : D → Files) (counts : D → List ℕ → Counts) (x y z : D) (a b : Reading) (e : Result (Unit {0}) (ReadError ArchiveFault LoadError)) → y ≡ z
    → Goes told (files x) (files y) (counts x) (counts y) a b e → Goes told (files x) (files z) (counts x) (counts z) a b e
goes_as told files counts x y z a b e same h = subst (λ w. Goes told (files x) (files w) (counts x) (counts w) a b e) same h
