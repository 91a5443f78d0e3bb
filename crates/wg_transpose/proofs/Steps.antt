-- The arcs of one page, one by one.
use Rattle.std.proofs.Common.{All, ◌≡◌, ◌≢◌, ◌⊎◌, Bool, ℕ, ◌+◌, ◌-◌, ◌<◌, ◌≤◌, cond, List, [], ◌∷◌, ◌++◌, length, take, get_or, set, sym, ap, subst, ◌∙◌, arith, inl, inr, add-one, get_or-set_same, get_or-set_other}
use Rattle.std.proofs.lemmas.Bool.{cases_lt, cases_eq}
use Rattle.std.proofs.lemmas.List.{take_all, take_more}
use Rattle.std.proofs.lemmas.List.Elements.{All-from_get_or}
use Rattle.wg_params.specs.declared.limits.TheConstants.{MOST_PAGES}
use Rattle.wg_graph.specs.Ascending.{Ascends}
use Rattle.wg_graph.specs.Numbers.{is_in}
use Rattle.wg_graph.specs.Digraph.{Digraph, successors}
use Rattle.wg_graph.specs.Arcs.{has_arc}
use Rattle.wg_transpose.specs.Transposed.{predecessors}
use Rattle.wg_transpose.specs.SoFar.{predecessors_below, onward, AreCounts, ArePrefixes, ArePlacedFrom, IsListOf, OneMore}
use Rattle.wg_transpose.proofs.Reversed.{list_ascends, list_below}
use Rattle.wg_transpose.proofs.Totals.{count_if}
use Rattle.wg_transpose.proofs.Seen.{in_push_same, in_push_other, with_page, not_before, seen_now, seen_other, seen_le, none_seen, all_seen, where_le, where_few, member_below}
use Rattle.wg_transpose.proofs.Places.{place_more, place_fits, same_prefixes}

-- ---- counting

-- each page of the list has one arc more
pub record HaveOneMore (list old new : List ℕ) : Type 0 where
  pub each : (v : ℕ) → v < length old → get_or new v 0 ≡ get_or old v 0 + cond (is_in v list) 1 0

-- the next page of the list has none yet
pub not_counted : (list : List ℕ) (j : ℕ) (old new : List ℕ) → Ascends 0 list → j < length list → get_or list j 0 < length old → HaveOneMore (take j list) old new
    → get_or new (get_or list j 0) 0 ≡ get_or old (get_or list j 0) 0
not_counted list j old new up lt below h = grind (arith, not_before, h.each)

pub count_step : (list : List ℕ) (j : ℕ) (old new : List ℕ) → Ascends 0 list → j < length list → get_or list j 0 < length old → length new ≡ length old → HaveOneMore (take j list) old new
    → HaveOneMore (take (j + 1) list) old (set new (get_or list j 0) (get_or new (get_or list j 0) 0 + 1))
count_step list j old new up lt below size h =
    let x : ℕ = get_or list j 0 in
    let seen : List ℕ = take j list in
    let more : take (j + 1) list ≡ seen ++ x ∷ [] = take_more list j 0 lt in
    record {
      each = λ v v_lt. rw more (elim (cases_eq v x) [
        | inl same ↦
            let now = in_push_same x seen in
            let before = not_counted list j old new up lt below h in
            let written = get_or-set_same new x (get_or new x 0 + 1) 0 (omega arith) in
            rw (same, now) (omega (arith, written, before))
        | inr other ↦
            get_or-set_other new x v (get_or new x 0 + 1) 0 other ∙ h.each v v_lt
            ∙ ap (λ (b : Bool). get_or old v 0 + cond b 1 0) (sym (in_push_other v x seen other))
      ]);
    }

pub counted_more : (g : Digraph) (k : ℕ) (list old new : List ℕ) → list ≡ successors g k → length new ≡ length old → ((v : ℕ) → v < length old → get_or new v 0 ≡ get_or old v 0 + cond (is_in v list) 1 0)
    → AreCounts g.nodes (predecessors_below g k) old → AreCounts g.nodes (predecessors_below g (k + 1)) new
counted_more g k list old new is size each h = record {
  pages = size ∙ h.pages;
  each = λ v lt.
      let here = rw is at (each v (omega (arith, h.pages))) in
      rw add-one (omega (arith, here, h.each v lt, count_if (λ u. has_arc g u v) k));
}

-- each page has as many arcs at most as pages were gone through
pub few_counts : (g : Digraph) (k : ℕ) (counts : List ℕ) → k < MOST_PAGES → AreCounts g.nodes (predecessors_below g k) counts → All (λ count. count < MOST_PAGES) counts
few_counts g k counts few h = All-from_get_or (λ count. count < MOST_PAGES) counts 0 (λ v lt. omega (arith, h.pages, h.each v (omega (arith, h.pages)), where_few (λ u. has_arc g u v) k))

-- ---- placing

one_more : (g : Digraph) (k j : ℕ) (list : List ℕ) → Ascends 0 list → j < length list → OneMore (with_page g k (take j list)) (with_page g k (take (j + 1) list)) (get_or list j 0) k
one_more g k j list up lt =
    let more : take (j + 1) list ≡ take j list ++ get_or list j 0 ∷ [] = take_more list j 0 lt in
    rw more (record {
      here = seen_now g k (take j list) (get_or list j 0) (not_before 0 j list up lt);
      others = λ w other. seen_other g k (take j list) (get_or list j 0) w other;
    })

-- A number more for list t: it is put into its place if t is one of the n lists from the first on, whose ends these
-- are.
module _ (whole before after : ℕ → List ℕ) (first n t x : ℕ) (ends all : List ℕ) (base : OneMore before after t x) (fits : (w : ℕ) → length (after w) ≤ length (whole w))
    (h : ArePrefixes n (onward first whole) (onward first before) ends all) where
  abbrev b : ℕ → List ℕ
  b = onward first before

  abbrev c : ℕ → List ℕ
  c = onward first after

  more : (v : ℕ) → t ≡ first + v → OneMore b c v x
  more v at = record {
    here = subst (λ (m : ℕ). after m ≡ before m ++ x ∷ []) at base.here;
    others = λ w other. base.others (first + w) (λ e. other (omega (arith, e, at)));
  }

  -- the next place of the list lies within
  pub place_below : first ≤ t → t - first < n → get_or ends (t - first) 0 < length all
  place_below low high =
      let v : ℕ = t - first in
      place_fits n (onward first whole) b c v x ends all high (more v (omega arith)) (λ w. fits (first + w)) h

  outside : (t < first) ⊎ (n ≤ t - first) → ArePrefixes n (onward first whole) c ends all
  outside out = same_prefixes n (onward first whole) b c ends all (λ w w_lt. sym (base.others (first + w) (away w w_lt out))) h
    where
      away : (w : ℕ) → w < n → (t < first) ⊎ (n ≤ t - first) → first + w ≢ t
      away w w_lt (inl low) e = omega arith
      away w w_lt (inr past) e = omega arith

  inside : first ≤ t → t - first < n → ArePrefixes n (onward first whole) c (set ends (t - first) (get_or ends (t - first) 0 + 1)) (set all (get_or ends (t - first) 0) x)
  inside low high =
      let v : ℕ = t - first in
      place_more n (onward first whole) b c v x ends all high (more v (omega arith)) (λ w. fits (first + w)) h

  pub place_step : (new_ends new_all : List ℕ)
      → (first ≤ t → t - first < length ends → new_ends ≡ set ends (t - first) (get_or ends (t - first) 0 + 1))
      → (first ≤ t → t - first < length ends → new_all ≡ set all (get_or ends (t - first) 0) x)
      → ((t < first) ⊎ (length ends ≤ t - first) → new_ends ≡ ends) → ((t < first) ⊎ (length ends ≤ t - first) → new_all ≡ all)
      → ArePrefixes n (onward first whole) c new_ends new_all
  place_step new_ends new_all put_ends put_all same_ends same_all =
      elim (cases_lt t first) [
        | inl low ↦ rw (same_ends (inl low), same_all (inl low)) (outside (inl low))
        | inr from_on ↦ elim (cases_lt (t - first) n) [
          | inl within ↦ let low : t - first < length ends = omega (arith, h.pages) in rw (put_ends from_on low, put_all from_on low) (inside from_on within)
          | inr past ↦ let high : length ends ≤ t - first = omega (arith, h.pages) in rw (same_ends (inr high), same_all (inr high)) (outside (inr past))
        ]
      ]

module _ (g : Digraph) (k j : ℕ) (list : List ℕ) (is : IsListOf g k list) (lt : j < length list) where
  pub page_more : OneMore (with_page g k (take j list)) (with_page g k (take (j + 1) list)) (get_or list j 0) k
  page_more = one_more g k j list (subst (Ascends 0) (sym is.is) (list_ascends g is.proper k is.page)) lt

  -- what stands for a list is no more than there will be
  pub page_fits : {X : Type 0} (items : List ℕ → List X) → ((xs ys : List ℕ) → length (items xs) ≤ length (items (xs ++ ys)))
      → (v : ℕ) → length (items (with_page g k (take (j + 1) list) v)) ≤ length (items (predecessors g v))
  page_fits items more v =
      let le = subst (λ (l : List ℕ). length (items (with_page g k (take (j + 1) l) v)) ≤ length (items (predecessors_below g (k + 1) v))) (sym is.is) (seen_le items more g k (j + 1) v) in
      let page = is.page in
      omega (arith, le, where_le items more (λ u. has_arc g u v) (k + 1) g.nodes (omega arith))

  pub target_below : get_or list j 0 < g.nodes
  target_below = subst (λ (l : List ℕ). get_or l j 0 < g.nodes) (sym is.is) (member_below g.nodes j (successors g k) (list_below g is.proper k is.page) (subst (λ (l : List ℕ). j < length l) is.is lt))

pub place_end : (g : Digraph) (first n k j : ℕ) (list ends all : List ℕ) → IsListOf g k list → length list ≤ j → ArePlacedFrom g first n (with_page g k (take j list)) ends all → ArePlacedFrom g first n (predecessors_below g (k + 1)) ends all
place_end g first n k j list ends all is past h =
    let same : (v : ℕ) → with_page g k (take j list) v ≡ predecessors_below g (k + 1) v = λ v.
    ap (λ (seen : List ℕ). with_page g k seen v) (take_all j list past ∙ is.is) ∙ sym (all_seen g k v) in
    same_prefixes n (onward first (predecessors g)) (onward first (with_page g k (take j list))) (onward first (predecessors_below g (k + 1))) ends all (λ w lt. same (first + w)) h

-- before the first arc of a page
pub none_yet : (g : Digraph) (first n k : ℕ) (ends all : List ℕ) → ArePlacedFrom g first n (predecessors_below g k) ends all → ArePlacedFrom g first n (with_page g k []) ends all
none_yet g first n k ends all h =
    same_prefixes n (onward first (predecessors g)) (onward first (predecessors_below g k)) (onward first (with_page g k [])) ends all (λ w lt. sym (none_seen g k (first + w))) h
