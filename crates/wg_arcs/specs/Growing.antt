-- A text of arcs that is read line by line.
use Rattle.std.specs.Prelude.{◌≡◌, ℕ, ◌+◌, ◌-◌, ◌<◌, ◌≤◌, true, List, [], ◌++◌, length, get_or, Option, Some, None}
use Rattle.std.specs.List.{All, last_or}
use Rattle.wg_params.specs.declared.limits.TheConstants.{MOST_ARCS}
use Rattle.wg_graph.specs.Ascending.{Ascends, Below}
use Rattle.wg_arcs.specs.Reading.{arcs_in, is_after, fault_at, IsFirstFault}
use Rattle.wg_arcs.specs.declared.fault.ArcsKind.{ArcsKind}
use Rattle.wg_arcs.specs.declared.fault.ArcsError.{ArcsError}
use Rattle.wg_arcs.specs.declared.fault.ArcsError.TheVariants as error

-- how many pages there are, how many lines were read, their last arc, and how many arcs they have
pub record ArcLinesRead : Type 0 where
  pub nodes : ℕ
  pub line : ℕ
  pub last : Option (ℕ × ℕ)
  pub arcs : ℕ

-- the arc may come after so many, of which this is the last one, if n pages are given
pub record MayCome (n : ℕ) (last : Option (ℕ × ℕ)) (count : ℕ) (a : ℕ × ℕ) : Type 0 where
  pub source : a.0 < n
  pub target : a.1 < n
  pub after : is_after last a ≡ true
  pub room : count < MOST_ARCS

-- the lists of the first of n pages, of which the last has an arc
pub record Begins (n : ℕ) (lists : List (List ℕ)) : Type 0 where
  pub begun : length lists ≤ n
  pub ascending : All (Ascends 0) lists
  pub below : All (Below n) lists
  pub ends : 0 < length lists → 0 < length (get_or lists (length lists - 1) [])

-- the first lines are read, so many, and none of them is faulty; their arcs are these, and the other lines come next
pub record SoFar (n : ℕ) (all next : List (List ℕ)) (count : ℕ) (arcs : List (ℕ × ℕ)) : Type 0 where
  pub done : List (List ℕ)
  pub split : all ≡ done ++ next
  pub counted : length done ≡ count
  pub theirs : arcs ≡ arcs_in done
  pub sound : (i : ℕ) → i < count → fault_at n all i ≡ None

-- the lines that a reading has come to, none of them faulty before; it knows how many arcs there are, and the last one
pub record IsUpTo (all next : List (List ℕ)) (arcs : List (ℕ × ℕ)) (s : ArcLinesRead) : Type 0 where
  pub lines : SoFar s.nodes all next s.line arcs
  pub last : last_or None arcs ≡ s.last
  pub count : length arcs ≡ s.arcs

-- one line further on, which has this arc, if it has one
abbrev pub with_line : ArcLinesRead → Option (ℕ × ℕ) → ArcLinesRead
with_line s None = record s { line = s.line + 1 }
with_line s (Some a) = record s { line = s.line + 1; last = Some a; arcs = s.arcs + 1 }

-- the line is named with the reason why it is refused
abbrev pub IsRefusedLine : ℕ → Option ArcsKind → ArcsError → Type 0
IsRefusedLine line refusal (error.Line l kind) = (l ≡ line) × (refusal ≡ Some kind)
IsRefusedLine line refusal error.Memory = ⊥

-- the first fault of these lines is named
abbrev pub IsFirst : ℕ → List (List ℕ) → ArcsError → Type 0
IsFirst n all (error.Line line kind) = IsFirstFault n all line kind
IsFirst n all error.Memory = ⊥
