-- What a reading is, after the list that it lends is done with.
use Rattle.std.specs.Prelude.{◌≡◌, ℕ, ◌+◌, ◌/◌, ◌≤◌, true, List, ◌∷◌, length}
use Rattle.std.specs.Borrow.{MutBor, Fml}
use Rattle.std.specs.Io.BufRead.{Rests}
use Rattle.wg_grammar.specs.Record.{Whole}
use Rattle.wg_stream.specs.declared.first.First.{First}
use Rattle.wg_stream.specs.declared.state.State.TheVariants.{Open, Done, Closed}
use Rattle.wg_stream.specs.declared.stream_error.StreamError.{StreamError}
use Rattle.wg_stream.specs.declared.stream_error.StreamError.TheVariants as errors
use Rattle.wg_stream.specs.FirstError.{of_first}
use Rattle.wg_stream.specs.Prefix.{HoldsFew}
use Rattle.wg_stream.specs.Reading.{Reading, IsInStep}
use Rattle.wg_source.specs.declared.stretch.TheConstants.{MOST_HELD}
use Rattle.wg_stream.specs.contracts.reader.Reader.{the_row}

-- the reading comes to be one of which this holds
abbrev pub RestsSo : MutBor Reading → (Reading → Type 0) → Fml
RestsSo s P = Rests the_row s P

-- The reading stays at its file and parameters, and its offset does not fall; no more lists are kept than the window
-- has, none that is held is longer than there are pages, and no more bytes of the file are held than one piece.
pub record KeepsOn (old after : Reading) : Type 0 where
  pub params : after.pages.params ≡ old.pages.params
  pub name : after.name ≡ old.name
  pub onward : old.at ≤ after.at
  pub few : HoldsFew after.pages
  pub small : length after.held.bytes ≤ MOST_HELD

-- the lists of all pages were lent, with the promised arcs, and no list more
pub record IsDone (old after : Reading) : Type 0 where
  pub state : after.state ≡ Done
  pub none : after.pages.page ≡ old.pages.page
  pub all : after.pages.page ≡ after.pages.params.nodes
  pub total : after.pages.arcs ≡ after.pages.params.arcs

-- the list of the next page was lent, and no more pages or arcs than are promised; of the file behind its record only
-- so few bytes were read
pub record HasLent (old after : Reading) (list : List ℕ) : Type 0 where
  pub state : after.state ≡ Open
  pub looked : after.held.looked ≡ true
  pub page : after.pages.page ≡ old.pages.page + 1
  pub few : after.pages.page ≤ after.pages.params.nodes
  pub arcs : after.pages.arcs ≡ old.pages.arcs + length list
  pub within : after.pages.arcs ≤ after.pages.params.arcs
  pub near : after.held.first + length after.held.bytes ≤ after.at / 8 + MOST_HELD

-- the list is that of the record that comes next in the file, which ends at the offset
pub record HasRead (file : List ℕ) (after : Reading) (whole : List Whole) (list : List ℕ) : Type 0 where
  pub next : Whole
  pub is : next.known.list ≡ list
  pub end : next.end ≡ after.at
  pub in_step : IsInStep file after (next ∷ whole)

-- the first error closes the reading, and is named again from then on
pub record IsClosed (old after : Reading) (e : StreamError) : Type 0 where
  pub now : old.state ≡ Open → (f : First) × (e ≡ of_first f) × (after.state ≡ Closed f)
  pub again : (f : First) → old.state ≡ Closed f → (e ≡ errors.Closed f) × (after ≡ old)
