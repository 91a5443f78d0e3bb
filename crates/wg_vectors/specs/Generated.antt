-- The generated graph of n pages: it follows from a seed by a linear congruential generator. As web graphs do, it has
-- lists that share members with lists close before them, members spread over all pages, and intervals.
use Rattle.std.specs.Prelude.{ℕ, zero, suc, ◌+◌, ◌-◌, ◌*◌, ◌/◌, ◌%◌, ◌^◌, Bool, ◌==◌, ◌&&◌, not, nat_lt, min, if◌then◌else◌, List, [], ◌∷◌, ◌++◌, length, get_or}
use Rattle.wg_graph.specs.Digraph.{Digraph}

-- ---- draws

-- the state of the generator after a draw
unfoldable pub next_state : ℕ → ℕ
next_state s = (s * 6364136223846793005 + 1442695040888963407) % 2 ^ 64

-- the number that a draw in this state gives
unfoldable pub drawn : ℕ → ℕ
drawn s = next_state s / 2 ^ 33

-- the successors that a page has so far, ascending, and the state of the generator
pub record Drafted : Type 0 where
  pub list : List ℕ
  pub state : ℕ

abbrev pub after_draw : Drafted → Drafted
after_draw d = record d { state = next_state d.state }

-- with the number y in its place, if it is not there yet
abbrev pub with_number : ℕ → List ℕ → List ℕ
with_number y [] = y ∷ []
with_number y (x ∷ xs) = if nat_lt y x then y ∷ x ∷ xs else if y == x then x ∷ xs else x ∷ with_number y xs

abbrev pub with_successor : ℕ → Drafted → Drafted
with_successor y d = record d { list = with_number y d.list }

-- ---- the first step: members of a list close before

-- A draw tells whether a member is copied: not at a multiple of 8, and not if there are 64 successors.
abbrev pub is_taken : Drafted → Bool
is_taken d = not (drawn d.state % 8 == 0) && nat_lt (length d.list) 64

abbrev pub with_copied : ℕ → Drafted → Drafted
with_copied y d = if is_taken d then with_successor y (after_draw d) else after_draw d

abbrev pub copying : List ℕ → Drafted → Drafted
copying [] d = d
copying (y ∷ ys) d = copying ys (with_copied y d)

-- how far before page x the list stands that it copies from
abbrev pub distance : ℕ → ℕ → ℕ
distance x s = 1 + drawn s % min x 7

-- These are the lists of the pages before this one. Of four draws one copies nothing.
abbrev pub begun : List (List ℕ) → ℕ → Drafted
begun [] s = record { list = []; state = s }
begun (list ∷ lists) s =
    let x : ℕ = length (list ∷ lists) in
    if drawn s % 4 == 0
    then (record { list = []; state = next_state s })
    else copying (get_or (list ∷ lists) (x - distance x (next_state s)) [])
    (record { list = []; state = next_state (next_state s) })

-- ---- the second step: up to three of all n pages

abbrev pub scattering : ℕ → ℕ → Drafted → Drafted
scattering n zero d = d
scattering n (suc k) d = scattering n k (with_successor (drawn d.state % n) (after_draw d))

abbrev pub scattered : ℕ → Drafted → Drafted
scattered n d = scattering n (drawn d.state % 4) (after_draw d)

-- ---- the third step: an interval

-- with the k numbers from y on
abbrev pub with_numbers : ℕ → ℕ → List ℕ → List ℕ
with_numbers y zero list = list
with_numbers y (suc k) list = with_numbers (y + 1) k (with_number y list)

-- the interval of this left end and length, up to the last page
abbrev pub with_interval : ℕ → ℕ → ℕ → Drafted → Drafted
with_interval n left size d = record d { list = with_numbers left (min (left + size) n - left) d.list }

-- Of four draws one brings an interval, of 4 to 11 pages.
abbrev pub extended : ℕ → Drafted → Drafted
extended n d =
    let left = after_draw d in
    let size = after_draw left in
    if drawn d.state % 4 == 0
    then with_interval n (drawn left.state % n) (4 + drawn size.state % 8) (after_draw size)
    else left

-- ---- the graph

-- the successors of the page that comes after the pages with these lists
unfoldable pub drafted : ℕ → List (List ℕ) → ℕ → Drafted
drafted n lists s = extended n (scattered n (begun lists s))

-- the lists, and those of the k pages that follow
abbrev pub lists_on : ℕ → ℕ → List (List ℕ) → ℕ → List (List ℕ)
lists_on n zero lists s = lists
lists_on n (suc k) lists s = let d = drafted n lists s in lists_on n k (lists ++ d.list ∷ []) d.state

-- from the seed and the number of pages
unfoldable pub generated : ℕ → ℕ → Digraph
generated seed n = record { nodes = n; lists = lists_on n n [] seed }
