-- All lists stand, and are those of the transposed graph.
use Rattle.std.proofs.Common.{◌≡◌, ℕ, zero, suc, ◌+◌, ◌-◌, ◌<◌, ◌≤◌, List, [], ◌∷◌, length, map, take, drop, get_or, slice_range, refl, sym, ap, subst, ◌∙◌, arith, length-drop, zero-add}
use Rattle.std.specs.Prelude.{sum}
use Rattle.std.specs.List.{range_with_len}
use Rattle.std.proofs.lemmas.List.{length-take-le, get_or-take, get_or-drop, ext_get_or}
use Rattle.std.proofs.lemmas.List.FromFn.{fill_by_all}
use Rattle.wg_params.specs.declared.limits.TheConstants.{MOST_ARCS, MOST_PAGES}
use Rattle.wg_graph.specs.Digraph.{Digraph, IsGraph, IsGraphPrefix, arc_count}
use Rattle.wg_graph.specs.Pieces.{pieces, EndsAt, cut, IsCut}
use Rattle.wg_graph.proofs.Ends.{length-pieces, piece_at}
use Rattle.wg_transpose.specs.Transposed.{predecessors, transposed}
use Rattle.wg_transpose.specs.SoFar.{onward, start, AreCounts, AreFilled, ArePrefixes, ArePlaced, ArePlacedFrom}
use Rattle.wg_transpose.proofs.Reversed.{is_proper}
use Rattle.wg_transpose.proofs.Totals.{start_le, start_of_all, as_many, sum_is_start}

ends_are : (s : ℕ → ℕ) → ((v : ℕ) → s v ≤ s (suc v)) → (k : ℕ) (ends : List ℕ) → ((v : ℕ) → v < length ends → get_or ends v 0 ≡ s (suc (k + v))) → EndsAt (s k) ends (s (k + length ends))
ends_are s up k [] each = ap s (omega arith)
ends_are s up k (end ∷ ends) each =
    let first : end ≡ s (suc k) = each 0 (omega arith) ∙ ap s (omega arith) in
    let rest : EndsAt (s (suc k)) ends (s (suc k + length ends)) = ends_are s up (suc k) ends (λ v lt. each (suc v) (omega arith) ∙ ap s (omega arith)) in
    let total : s (suc k + length ends) ≡ s (k + suc (length ends)) = ap s (omega arith) in
    (omega (arith, first, up k), subst (λ m. EndsAt m ends (s (k + suc (length ends)))) (sym first) (subst (EndsAt (s (suc k)) ends) total rest))

-- a list stands in its place
stands : {X : Type 0} (none : X) (all list : List X) (from to : ℕ) → to ≡ from + length list → to ≤ length all → ((i : ℕ) → i < length list → get_or all (from + i) none ≡ get_or list i none) → slice_range all from to ≡ list
stands none all list from to is fits members =
    let size : length (slice_range all from to) ≡ length list = omega (arith, length-take-le (to - from) (drop from all) (omega (arith, length-drop from all))) in
    ext_get_or none (slice_range all from to) list size
    (λ i lt. get_or-take (to - from) (drop from all) i none (omega arith) ∙ get_or-drop from all i none ∙ members i (omega arith))

-- all lists, from the first on
pub from_none : (lists : ℕ → List ℕ) → onward 0 lists ≡ lists
from_none lists = λ i v. lists (zero-add v i)

-- before the first page
pub none_placed : {X : Type 0} {none : X} (n : ℕ) (whole : ℕ → List X) (counts starts : List ℕ) (all : List X) → AreCounts n whole counts → length starts ≡ length counts → ((v : ℕ) → v < length counts → get_or starts v 0 ≡ sum (take v counts)) → length all ≡ start whole n
    → AreFilled none n whole (λ v. []) starts all
none_placed n whole counts starts all h pages begins room = record {
  pages = pages ∙ h.pages;
  room = room;
  reached = λ v lt. let at : get_or starts v 0 ≡ start whole v = begins v (omega (arith, h.pages)) ∙ sum_is_start n whole counts h v (omega arith) in omega arith;
  members = λ v lt i none. absurd (omega arith);
}

module _ {X : Type 0} {none : X} (n : ℕ) (whole : ℕ → List X) (ends : List ℕ) (all : List X) (h : AreFilled none n whole whole ends all) where
  pub begins_at : (v : ℕ) → v < n → get_or (0 ∷ ends) v 0 ≡ start whole v
  begins_at zero lt = refl
  begins_at (suc v) lt = h.reached v (omega arith)

  pub ends_within : (v : ℕ) → v < n → get_or ends v 0 ≤ length all
  ends_within v lt = omega (arith, h.reached v lt, h.room, start_le whole (suc v) n (omega arith))

  pub list_is : (v : ℕ) → v < n → slice_range all (start whole v) (get_or ends v 0) ≡ whole v
  list_is v lt = stands none all (whole v) (start whole v) (get_or ends v 0) (h.reached v lt) (ends_within v lt) (h.members v lt)

module _ (n : ℕ) (whole : ℕ → List ℕ) (ends all : List ℕ) (h : ArePrefixes n whole whole ends all) where
  list_at : (v : ℕ) → v < n → get_or (pieces 0 ends all) v [] ≡ whole v
  list_at v lt = piece_at 0 ends all v (omega (arith, h.pages)) ∙ ap (λ m. slice_range all m (get_or ends v 0)) (begins_at n whole ends all h v lt) ∙ list_is n whole ends all h v lt

  pub lists_are : pieces 0 ends all ≡ map whole (range_with_len 0 n)
  lists_are = fill_by_all whole (pieces 0 ends all) n [] (length-pieces 0 ends all ∙ h.pages) list_at

  reaches : (v : ℕ) → v < length ends → get_or ends v 0 ≡ start whole (suc (0 + v))
  reaches v lt = let e : v ≡ 0 + v = omega arith in h.reached v (omega (arith, h.pages)) ∙ ap (λ (k : ℕ). start whole (suc k)) e

  pub ends_at : EndsAt 0 ends (length all)
  ends_at =
      let end : start whole (0 + length ends) ≡ length all = ap (start whole) (omega (arith, h.pages)) ∙ sym h.room in
      subst (EndsAt 0 ends) end (ends_are (start whole) (λ v. start_le whole v (suc v) (omega arith)) 0 ends reaches)

pub is_transposed : (g : Digraph) (ends all : List ℕ) → ArePlaced g (predecessors g) ends all → cut (length ends) ends all ≡ transposed g
is_transposed g ends all h = λ i. record { nodes = h.pages i; lists = lists_are g.nodes (predecessors g) ends all h i }

pub is_whole : (g : Digraph) → IsGraph g → (ends all : List ℕ) → ArePlaced g (predecessors g) ends all → g.nodes ≤ MOST_PAGES → arc_count g ≤ MOST_ARCS → IsCut (length ends) ends all
is_whole g ok ends all h few_pages few_arcs =
    let proper = is_proper g in
    let count : arc_count (transposed g) ≡ arc_count g = as_many g ok in
    record {
      whole = ends_at g.nodes (predecessors g) ends all h;
      prefix = subst IsGraphPrefix (sym (is_transposed g ends all h)) (record {
        begun = omega (arith, proper.counted);
        ascending = proper.ascending;
        below = proper.below;
        few_pages = few_pages;
        few_arcs = omega (arith, count);
      });
    }

-- ---- all lists, from page 0 on, where h is the graph g read again

pub room_of_all : (g h : Digraph) → h ≡ g → IsGraph h → (n size : ℕ) → n ≡ h.nodes → size ≡ arc_count g → size ≡ start (onward 0 (predecessors h)) n
room_of_all g h same ok n size pages is = rw (from_none (predecessors h), pages) (is ∙ sym (ap arc_count same) ∙ sym (start_of_all h ok))

pub from_first : (g h : Digraph) → h ≡ g → (n : ℕ) (ends all : List ℕ) → n ≡ h.nodes → ArePlacedFrom h 0 n (predecessors h) ends all → ArePlaced g (predecessors g) ends all
from_first g h same n ends all pages placed =
    let here : ArePlaced h (predecessors h) ends all =
    subst (λ (m : ℕ). ArePrefixes m (predecessors h) (predecessors h) ends all) pages
    (subst (λ (f : ℕ → List ℕ). ArePrefixes n f f ends all) (from_none (predecessors h)) placed) in
    subst (λ (d : Digraph). ArePlaced d (predecessors d) ends all) same here
