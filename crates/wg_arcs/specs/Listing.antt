-- The lists that a text of arcs gives, page by page, as far as it was read.
use Rattle.std.specs.Prelude.{◌≡◌, ℕ, ◌<◌, ◌≤◌, nat_lt, if◌then◌else◌, List, [], ◌∷◌, ◌++◌, length, Option, Some}
use Rattle.std.specs.Prelude.{None, IfSome, option_to_list}
use Rattle.std.specs.List.{All, last_or}
use Rattle.wg_params.specs.declared.limits.TheConstants.{MOST_ARCS}
use Rattle.wg_graph.specs.Ascending.{Ascends, Below}
use Rattle.wg_graph.specs.Arcs.{arcs_from}
use Rattle.wg_arcs.specs.Growing.{ArcLinesRead}

-- the arcs of some pages, and of the page after them
abbrev pub arcs_on : List (List ℕ) → List ℕ → List (ℕ × ℕ)
arcs_on done list = arcs_from 0 (done ++ list ∷ [])

-- The lists of some pages, and of the page after them as far as it was read. If an arc of a later page comes next, it
-- was read too.
pub record AreListed (done : List (List ℕ)) (list : List ℕ) (next : Option (ℕ × ℕ)) (s : ArcLinesRead) : Type 0 where
  pub ascending : All (Ascends 0) done
  pub below : All (Below s.nodes) done
  pub list_ascends : Ascends 0 list
  pub list_below : Below s.nodes list
  -- a page is begun by an arc, but for the first one
  pub some : 0 < length done → 0 < length list
  pub inside : 0 < length done → length done < s.nodes
  pub last : last_or None (arcs_on done list ++ option_to_list next) ≡ s.last
  pub count : length (arcs_on done list ++ option_to_list next) ≡ s.arcs
  pub few : s.arcs ≤ MOST_ARCS
  pub comes : IfSome next (λ a. (length done < a.0) × (a.0 < s.nodes) × (a.1 < s.nodes))

-- what an arc that is not of a page before adds to the list of this page
abbrev pub on_page : ℕ → Option (ℕ × ℕ) → List ℕ
on_page page None = []
on_page page (Some a) = if nat_lt page a.0 then [] else a.1 ∷ []

-- the arc, if it is of a later page
abbrev pub later_than : ℕ → Option (ℕ × ℕ) → Option (ℕ × ℕ)
later_than page None = None
later_than page (Some a) = if nat_lt page a.0 then Some a else None
