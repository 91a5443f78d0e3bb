-- The lists whose memory serves for later ones.
use Rattle.std.specs.Prelude.{ℕ, ◌≤◌, List}
use Rattle.std.specs.Borrow.{MutBor, Fml}
use Rattle.std.specs.Io.BufRead.{Rests}
use Rattle.wg_graph.specs.contracts.list.List.{the_row}

-- how many numbers stand in each of them
pub record SpareLengths : Type 0 where
  pub copied : ℕ
  pub inside : ℕ
  pub united : ℕ
  pub furthest : ℕ

abbrev pub all_empty : SpareLengths
all_empty = record { copied = 0; inside = 0; united = 0; furthest = 0 }

-- no list has more numbers than this
pub record NoneLonger (most : ℕ) (s : SpareLengths) : Type 0 where
  pub copied : s.copied ≤ most
  pub inside : s.inside ≤ most
  pub united : s.united ≤ most
  pub furthest : s.furthest ≤ most

-- once what it lends is done with, the list is one of which this holds
abbrev pub EndsSo : MutBor (List ℕ) → (List ℕ → Type 0) → Fml
EndsSo list P = Rests the_row list P
