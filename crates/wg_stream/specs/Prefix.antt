-- How far the records of an archive have been read.
use Rattle.std.specs.Prelude.{◌≡◌, ◌≤◌, ℕ, All, Bool, List, [], ◌∷◌, length, take, map}
use Rattle.wg_params.specs.Parameters.{Parameters}
use Rattle.wg_graph.specs.Ascending.{Ascends, Below}
use Rattle.wg_grammar.specs.Context.{Known}
use Rattle.wg_grammar.specs.Record.{Whole}
use Rattle.wg_grammar.specs.Archive.{Pages, arcs_read}
use Rattle.wg_decoder.specs.Remembered.{Serves}
use Rattle.wg_decoder.specs.Spare.{SpareLengths, NoneLonger}

-- the parameters; how many pages and arcs were read; what is kept of the pages before the next, the nearest first; the
-- list of the page that was read last, empty before the first; and how long the lists are whose memory serves for later
-- ones: four, and one past the window
pub record PagesRead : Type 0 where
  pub params : Parameters
  pub page : ℕ
  pub arcs : ℕ
  pub kept : List Known
  pub list : List ℕ
  pub spares : SpareLengths
  pub past : ℕ

-- no list that is held has more numbers than this
pub record AreShort (most : ℕ) (behind : List Known) (waiting : SpareLengths) (length_past : ℕ) : Type 0 where
  pub kept : All (λ k. length k.list ≤ most) behind
  pub spares : NoneLonger most waiting
  pub past : length_past ≤ most

-- of the pages before no more lists are kept than the window has; and no list that is held is longer than there are
-- pages
pub record HoldsFew (r : PagesRead) : Type 0 where
  pub near : length r.kept ≤ r.params.window
  pub short : AreShort r.params.nodes r.kept r.spares r.past

-- what holds whatever the bits are
pub record AreSound (r : PagesRead) : Type 0 where
  pub few : r.page ≤ r.params.nodes
  pub within : r.arcs ≤ r.params.arcs
  pub serves : Serves r.params r.page r.kept
  pub ascends : Ascends 0 r.list
  pub below : Below r.params.nodes r.list
  pub held : HoldsFew r

-- the records of so many pages with so many arcs stand from the first bit to the bit at, and these pages are kept of
-- them
pub record RecordsStand (p : Parameters) (bits : List Bool) (pages arcs at : ℕ) (kept : List Known)
    (behind : List Whole) : Type 0 where
  pub stood : List Whole
  pub records : Pages p bits [] 0 stood behind at
  pub count : length behind ≡ pages
  pub total : arcs_read behind ≡ arcs
  pub nearest : kept ≡ take p.window (map (λ w. w.known) behind)

-- these records, the last of them first, are those that were read; the next begins at the bit at
abbrev pub AreBehind : List Bool → PagesRead → ℕ → List Whole → Type 0
AreBehind bits r at behind = RecordsStand r.params bits r.page r.arcs at r.kept behind

-- one record more was read than these: it has the list of the page that was read last, and ends at the bit at
abbrev pub IsOneMore : List Bool → PagesRead → ℕ → List Whole → Type 0
IsOneMore bits r at behind = (w : Whole) × (w.known.list ≡ r.list) × (w.end ≡ at) × AreBehind bits r at (w ∷ behind)
