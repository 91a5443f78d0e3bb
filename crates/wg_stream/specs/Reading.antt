-- A reading of a graph file, and what it knows of the file.
use Rattle.std.specs.Prelude.{◌≡◌, ℕ, ◌*◌, ◌≤◌, Bool, true, false, List, ◌∷◌, length, Some, None, Result, Ok, Err, IsTrue, OnOk, IfErr}
use Rattle.std.specs.FinMap as map
use Rattle.wg_outside.specs.Outside.{Files, Counts, NonDecreasing}
use Rattle.wg_outside.specs.declared.limits.TheConstants.{MOST_BYTES}
use Rattle.wg_outside.specs.declared.whole.LoadError.{LoadError}
use Rattle.wg_outside.specs.declared.whole.LoadError.TheVariants as load
use Rattle.wg_bits.specs.Bits.{bits_of}
use Rattle.wg_params.specs.Parameters.{Parameters}
use Rattle.wg_grammar.specs.declared.fault.ArchiveFault.{ArchiveFault}
use Rattle.wg_grammar.specs.Record.{Whole}
use Rattle.wg_grammar.specs.Archive.{Accepted, ReadsGraph, lists_of, places_of}
use Rattle.wg_grammar.specs.declared.error.ReadError.{ReadError}
use Rattle.wg_grammar.specs.declared.error.ReadError.TheVariants.{Refused}
use Rattle.wg_stream.specs.declared.first.First.{First}
use Rattle.wg_stream.specs.declared.state.State.{State}
use Rattle.wg_stream.specs.declared.state.State.TheVariants.{Open, Done, Closed}
use Rattle.wg_stream.specs.declared.stream_error.StreamError.{StreamError}
use Rattle.wg_grammar.specs.Errors.{OnFault, OnRefusal}
use Rattle.wg_stream.specs.FirstError.{OfGraph, Says}
use Rattle.wg_source.specs.declared.stretch.TheConstants.{MOST_HELD}
use Rattle.wg_source.specs.Held.{HeldBytes, IsHeldOf, IsSmall}
use Rattle.wg_source.specs.Stepping.{HasCause}
use Rattle.wg_stream.specs.Prefix.{PagesRead, AreBehind, HoldsFew}

-- what was read of the records; the name of the file; the end of the last record; what is held of the file; and
-- whether the reading goes on
pub record Reading : Type 0 where
  pub pages : PagesRead
  pub name : List ℕ
  pub at : ℕ
  pub held : HeldBytes
  pub state : State

-- what holds whatever the bytes are: the next record begins at the end of the last; at the end all pages were read,
-- with the promised arcs; and no more lists are kept than the window has, and few bytes are held
abbrev pub Stands : Reading → State → Type 0
Stands r Open = r.held.at ≡ r.at
Stands r Done = (r.pages.page ≡ r.pages.params.nodes) × (r.pages.arcs ≡ r.pages.params.arcs)
Stands r (Closed e) = Unit {0}

pub record IsSteady (r : Reading) : Type 0 where
  pub bound : r.at ≤ 8 * MOST_BYTES
  pub stands : Stands r r.state
  pub few : HoldsFew r.pages
  pub small : IsSmall r.held

-- these are the records of the file that were read, the last of them first, and what is held is a part of the file
pub record AreReadOf (file : List ℕ) (r : Reading) (whole : List Whole) : Type 0 where
  pub held : IsHeldOf file r.held
  pub records : AreBehind (bits_of file) r.pages r.at whole

-- the file is no longer than the limit, and stands for this graph, or this is its first fault
pub record IsJudged (file : List ℕ) (p : Parameters) (answer : Result Accepted ArchiveFault) : Type 0 where
  pub short : length file ≤ MOST_BYTES
  pub reads : ReadsGraph p (bits_of file) answer

abbrev pub AgreesIn : State → List ℕ → Reading → List Whole → Type 0
AgreesIn Open file r whole = AreReadOf file r whole
AgreesIn Done file r whole = AreReadOf file r whole
    × IsJudged file r.pages.params (Ok (record { graph = lists_of whole; places = places_of whole }))
AgreesIn (Closed e) file r whole = OfGraph e (λ f. IsJudged file r.pages.params (Err f))

-- The reading is in step with this file, of which these records were read: at the end they are its graph, and a fault
-- that closed it is the first of the file.
abbrev pub IsInStep : List ℕ → Reading → List Whole → Type 0
IsInStep file r whole = AgreesIn r.state file r whole

-- what a step leaves: the same records, or one more, with the list that was read last
abbrev pub StaysInStep : List ℕ → Reading → List Whole → Result Bool StreamError → Type 0
StaysInStep file r whole (Ok true) = (next : Whole) × (next.known.list ≡ r.pages.list) × (next.end ≡ r.at)
    × IsInStep file r (next ∷ whole)
StaysInStep file r whole (Ok false) = IsInStep file r whole
StaysInStep file r whole (Err e) = IsInStep file r whole

-- A step of a reading that goes on: what stays as it is, what is held, and what an error tells.
pub record Goes (told : Bool) (files files' : Files) (counts counts' : List ℕ → Counts) (old new : Reading)
    (result : Result (Unit {0}) (ReadError ArchiveFault LoadError)) : Type 0 where
  pub params : new.pages.params ≡ old.pages.params
  pub name : new.name ≡ old.name
  pub onward : old.at ≤ new.at
  pub same : files' ≡ files
  pub later : NonDecreasing counts counts'
  pub few : HoldsFew new.pages
  pub small : length new.held.bytes ≤ MOST_HELD
  pub looked : OnOk result (new.held.looked ≡ true)
  -- an error closes the reading; it is the first of the file, and of the outside it has a cause
  pub closed : IfErr result (λ e. (f : First) × Says e f × (new.state ≡ Closed f))
  pub fault : IsTrue told → (file : List ℕ) → map.get files old.name ≡ Some file → (whole : List Whole)
      → IsInStep file old whole → OnFault result (λ f. IsJudged file old.pages.params (Err f))
  pub cause : OnRefusal result (HasCause told old.name files counts counts' old.held)
  -- a file that is not there is missed at the first step
  pub absent : IsTrue told → map.get files old.name ≡ None → old.held.looked ≡ false
      → result ≡ Err (Refused load.Absent)
