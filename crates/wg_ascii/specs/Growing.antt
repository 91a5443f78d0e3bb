-- A graph that is read line by line.
use Rattle.std.specs.Prelude.{◌≡◌, ◌≢◌, ℕ, ◌+◌, ◌<◌, ◌≤◌, List, [], ◌∷◌, ◌++◌, length, map, drop, get_or, decimal, Option, Some, None}
use Rattle.std.specs.List.{sum_by}
use Rattle.wg_num.specs.Words.{words_of}
use Rattle.wg_params.specs.declared.limits.TheConstants.{MOST_ARCS, MOST_PAGES}
use Rattle.wg_graph.specs.Ascending.{Ascends, Below}
use Rattle.wg_graph.specs.Digraph.{Digraph, IsGraphPrefix, arc_count, successors}
use Rattle.wg_ascii.specs.Reading.{fault_of_words, fault_after, IsFirstFault}
use Rattle.wg_ascii.specs.declared.fault.AsciiKind.{AsciiKind}
use Rattle.wg_ascii.specs.declared.fault.AsciiKind.TheVariants as kind
use Rattle.wg_ascii.specs.declared.fault.AsciiError.{AsciiError}
use Rattle.wg_ascii.specs.declared.fault.AsciiError.TheVariants as error

-- how many pages the first line tells, how many lines were read, with the first one, and how many arcs they have
pub record PageLinesRead : Type 0 where
  pub nodes : ℕ
  pub line : ℕ
  pub arcs : ℕ

-- the line is named with this fault, or memory ran out
abbrev pub IsRefused : ℕ → Option AsciiKind → AsciiError → Type 0
IsRefused line fault (error.Line l k) = (l ≡ line) × (fault ≡ Some k)
IsRefused line fault error.Memory = Unit {0}

-- the word writes the number, which may come next: `least` is one more than the number before it, and so many arcs come
-- before it
pub record IsNumber (n least arcs : ℕ) (word : List ℕ) (v : ℕ) : Type 0 where
  pub text : word ≡ decimal v
  pub low : least ≤ v
  pub page : v < n
  pub room : arcs < MOST_ARCS

-- the words write the successors of one of n pages, and so many arcs come before these
pub record IsList (n arcs : ℕ) (words : List (List ℕ)) (list : List ℕ) : Type 0 where
  pub text : words ≡ map decimal list
  pub ascends : Ascends 0 list
  pub below : Below n list
  pub room : arcs + length list ≤ MOST_ARCS

-- the first of these lines lists the successors of a page, and others come after it
abbrev pub HasList : ℕ → ℕ → List (List ℕ) → List (List ℕ) → List ℕ → Type 0
HasList n arcs lines after list = (text : List ℕ) × (lines ≡ text ∷ after) × IsList n arcs (words_of text) list

-- the first of these lines, as that of a page, has a fault
abbrev pub HasNoList : ℕ → ℕ → ℕ → List (List ℕ) → AsciiError → Type 0
HasNoList line n arcs lines e =
    (text : List ℕ) × (after : List (List ℕ)) × (lines ≡ text ∷ after)
    × IsRefused line (fault_of_words n 0 arcs (words_of text)) e

-- the first of these lines lists the successors of the next page, which was added, and others come after it
abbrev pub HasPage : List (List ℕ) → List (List ℕ) → Digraph → Digraph → Type 0
HasPage lines after old new =
    (list : List ℕ) × HasList old.nodes (arc_count old) lines after list × (new.lists ≡ old.lists ++ list ∷ [])

-- the first of these lines list the successors of the pages so far, and the others come after them
pub record HasLists (lines after : List (List ℕ)) (g : Digraph) : Type 0 where
  pub there : length g.lists ≤ length lines
  pub split : drop (length g.lists) lines ≡ after
  pub words : (x : ℕ) → x < length g.lists → words_of (get_or lines x []) ≡ map decimal (successors g x)
  pub prefix : IsGraphPrefix g

-- the first fault of the lines after the first one, of which each counts two more than its index
abbrev pub IsFirstAfter : ℕ → List (List ℕ) → AsciiError → Type 0
IsFirstAfter n lines (error.Line line k) =
    (x : ℕ) × (line ≡ x + 2) × (fault_after n lines x ≡ Some k) × ((y : ℕ) → y < x → fault_after n lines y ≡ None)
IsFirstAfter n lines error.Memory = Unit {0}

-- no line has a word
abbrev pub AreBlank : List (List ℕ) → Type 0
AreBlank lines = (x : ℕ) → words_of (get_or lines x []) ≡ []

-- the first of these lines that has a word is named as one too many; the first of all has this number
abbrev pub IsFirstExtra : ℕ → List (List ℕ) → AsciiError → Type 0
IsFirstExtra first lines (error.Line line k) =
    (x : ℕ) × (line ≡ first + x) × (k ≡ kind.Extra) × (words_of (get_or lines x []) ≢ [])
    × ((y : ℕ) → y < x → words_of (get_or lines y []) ≡ [])
IsFirstExtra first lines error.Memory = ⊥

-- the first line tells a number of pages within the limit
pub record Tells (words : List (List ℕ)) (n : ℕ) : Type 0 where
  pub is : words ≡ decimal n ∷ []
  pub small : n ≤ MOST_PAGES

-- the lines before these have no words; the first of all and the first of these have these numbers
pub record BlankSoFar (lines rest : List (List ℕ)) (first line : ℕ) : Type 0 where
  pub done : ℕ
  pub counted : line ≡ first + done
  pub split : drop done lines ≡ rest
  pub none : (x : ℕ) → x < done → words_of (get_or lines x []) ≡ []

-- Of all lines those that a reading has come to are in order: the first one tells the number of pages, then come those
-- of these lists, and, if these are the lists of all pages, lines without words. The others come next.
pub record IsUpTo (all next lists : List (List ℕ)) (s : PageLinesRead) : Type 0 where
  pub first : List ℕ
  pub lines : List (List ℕ)
  pub behind : List (List ℕ)
  pub split : all ≡ first ∷ lines
  pub tells : Tells (words_of first) s.nodes
  pub pages : HasLists lines behind (record { nodes = s.nodes; lists = lists })
  pub arcs : s.arcs ≡ sum_by (λ list. length list) lists
  pub blank : BlankSoFar behind next (length lists + 2) (s.line + 1)
  pub waits : length lists < s.nodes → (next ≡ behind) × (s.line ≡ length lists + 1)

-- the first fault of these lines is named, or memory ran out
abbrev pub IsFirst : List (List ℕ) → AsciiError → Type 0
IsFirst all (error.Line line kind) = IsFirstFault all line kind
IsFirst all error.Memory = Unit {0}
