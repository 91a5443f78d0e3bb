-- The lists of one range, and the range after it.
use Rattle.std.proofs.Common.{◌≡◌, ℕ, zero, suc, ◌+◌, ◌-◌, ◌*◌, ◌<◌, ◌≤◌, List, ◌++◌, length, take, drop, get_or, slice_range, refl, sym, ap, subst, ◌∙◌, arith, length-drop, length-append, zero-add, []}
use Rattle.std.specs.Prelude.{sum}
use Rattle.std.proofs.lemmas.List.{length-take-le, get_or-take, get_or-drop, drop-drop}
use Rattle.std.proofs.lemmas.Slice.{drop-put_mid, between-put_mid}
use borrow.Rule.Slice.PartMut.{put_mid}
use Rattle.std.proofs.lemmas.List.Edits.{length-between, get_or-between}
use Rattle.wg_params.specs.declared.limits.TheConstants.{MOST_ARCS}
use Rattle.wg_graph.specs.Digraph.{Digraph}
use Rattle.wg_transpose.specs.Transposed.{predecessors}
use Rattle.wg_transpose.specs.SoFar.{onward, start, AreCounts, ArePrefixes}
use Rattle.wg_transpose.specs.Transposing.{Ranging, IsRangeOf, HoldsLists, AreRanges}
use Rattle.wg_transpose.specs.Laws.{RangesAreFew}
use Rattle.wg_transpose.proofs.Totals.{start_le, start_of_all, sum_is_start, sum_is_all}
use Rattle.wg_transpose.proofs.Whole.{ends_within, list_is}

-- ---- one list

module _ (n : ℕ) (lists : ℕ → List ℕ) (from to : ℕ) (ends all : List ℕ) (h : HoldsLists n lists from to ends all) (page : ℕ) (low : from ≤ page) (high : page < to) where
  abbrev v : ℕ
  v = page - from

  abbrev whole : ℕ → List ℕ
  whole = onward from lists

  abbrev part : List ℕ
  part = slice_range ends from to

  pub end_there : page < length ends
  end_there = omega (arith, h.counted, h.within)

  at_end : get_or part v 0 ≡ get_or ends page 0
  at_end =
      let e : from + v ≡ page = omega arith in
      get_or-between ends from to v 0 (omega arith) ∙ ap (λ (k : ℕ). get_or ends k 0) e

  pub begins_first : page ≡ from → 0 ≡ start whole v
  begins_first at = let none : 0 ≡ v = omega arith in ap (start whole) none

  pub begins_next : from < page → get_or ends (page - 1) 0 ≡ start whole v
  begins_next behind =
      let u : ℕ = v - 1 in
      let next : suc u ≡ v = omega arith in
      let there : from + u ≡ page - 1 = omega arith in
      let read : get_or part u 0 ≡ get_or ends (page - 1) 0 = get_or-between ends from to u 0 (omega arith) ∙ ap (λ (k : ℕ). get_or ends k 0) there in
      sym read ∙ h.lists.reached u (omega arith) ∙ ap (start whole) next

  pub list_within : get_or ends page 0 ≤ length all
  list_within = omega (arith, at_end, ends_within (to - from) whole part all h.lists v (omega arith))

  pub list_ordered : (begin : ℕ) → begin ≡ start whole v → begin ≤ get_or ends page 0
  list_ordered begin is = omega (arith, is, at_end, h.lists.reached v (omega arith))

  pub list_there : (begin : ℕ) → begin ≡ start whole v → slice_range all begin (get_or ends page 0) ≡ lists page
  list_there begin is =
      let e : from + v ≡ page = omega arith in
      ap (λ (b : ℕ). slice_range all b (get_or ends page 0)) is ∙ ap (slice_range all (start whole v)) (sym at_end)
      ∙ list_is (to - from) whole part all h.lists v (omega arith) ∙ ap lists e

-- ---- the next range

start_split : (lists : ℕ → List ℕ) (a b : ℕ) → start lists (a + b) ≡ start lists a + start (onward a lists) b
start_split lists a zero = let e : a + 0 ≡ a = omega arith in omega (arith, ap (start lists) e)
start_split lists a (suc b) = let e : a + suc b ≡ suc (a + b) = omega arith in omega (arith, ap (start lists) e, start_split lists a b)

pub length_written : (a k : ℕ) (xs ys : List ℕ) → a + k ≤ length xs → length ys ≡ k → length (put_mid a k xs ys) ≡ length xs
length_written a k xs ys fits size =
    omega (
      arith,
      length-append (take a xs) (ys ++ drop k (drop a xs)),
      length-append ys (drop k (drop a xs)),
      length-take-le a xs (omega arith),
      length-drop k (drop a xs),
      length-drop a xs,
    )

module _ (lists : ℕ → List ℕ) (r : Ranging) (h : IsRangeOf lists r) where
  abbrev n : ℕ
  n = length r.ends

  abbrev to : ℕ
  to = r.to

  abbrev rest : ℕ → List ℕ
  rest = onward r.to lists

  -- the lists behind the range have no more numbers than all
  few_behind : (k : ℕ) → k ≤ n - to → start rest k ≤ MOST_ARCS
  few_behind k le =
      let all_of : to + (n - to) ≡ n = (let within = h.within in omega arith) in
      omega (arith, h.few, start_le rest k (n - to) le, start_split lists to (n - to), ap (start lists) all_of)

  pub sum_behind : sum (drop to r.ends) ≤ MOST_ARCS
  sum_behind = omega (arith, sum_is_all (n - to) rest (drop to r.ends) h.counts, few_behind (n - to) (omega arith))

  module _ (p : ℕ) (fits : p ≤ length (drop to r.ends)) where
    pub range_within : to + p ≤ n
    range_within = omega (arith, fits, length-drop to r.ends, h.within)

    pub range_size : length (slice_range r.ends to (to + p)) ≡ p
    range_size = length-between r.ends to (to + p) range_within ∙ omega arith

    pub range_arcs : (k : ℕ) → k ≤ p → sum (take k (drop to r.ends)) ≡ start rest k
    range_arcs k le = sum_is_start (n - to) rest (drop to r.ends) h.counts k (omega (arith, fits, h.counts.pages))

    pub range_few : start rest p ≤ MOST_ARCS
    range_few = few_behind p (omega (arith, fits, h.counts.pages))

    pub range_counted : AreCounts (length (slice_range r.ends to (to + p))) rest (slice_range r.ends to (to + p))
    range_counted = record {
      pages = refl;
      each = λ v lt.
          let below : v < p = omega (arith, lt, range_size) in
          get_or-take (to + p - to) (drop to r.ends) v 0 (omega arith) ∙ h.counts.each v (omega (arith, fits, h.counts.pages));
    }

    -- its counts are written over by the ends of its lists
    module _ (m : ℕ) (new placed : List ℕ) (is : m ≡ to + p - to) (size : length new ≡ p) where
      pub range_length : length (put_mid to m r.ends new) ≡ n
      range_length = length_written to m r.ends new (omega (arith, range_within)) (omega arith)

      pub range_held : ArePrefixes p rest rest new placed → IsRangeOf lists (record { from = to; to = to + p; ends = put_mid to m r.ends new; all = placed })
      range_held h_placed =
          let le = range_within in
          let there : slice_range (put_mid to m r.ends new) to (to + p) ≡ new = between-put_mid to m r.ends new (to + p) (omega arith) (omega arith) in
          let behind : drop (to + p) (put_mid to m r.ends new) ≡ drop p (drop to r.ends) =
          drop-put_mid to m r.ends new (to + p) (omega arith) (omega arith) (omega arith) ∙ sym (drop-drop p to r.ends) in
          subst (λ (k : ℕ). HoldsLists k lists to (to + p) (put_mid to m r.ends new) placed) (sym range_length) (record {
            few = h.few;
            counted = range_length;
            ordered = omega arith;
            within = le;
            lists = let size_is : p ≡ to + p - to = omega arith in rw there (subst (λ (k : ℕ). ArePrefixes k rest rest new placed) size_is h_placed);
            counts = rw behind (record {
              pages = omega (arith, length-drop p (drop to r.ends), h.counts.pages);
              each = λ v lt.
                  let e : to + (p + v) ≡ to + p + v = omega arith in
                  get_or-drop p (drop to r.ends) v 0 ∙ h.counts.each (p + v) (omega arith) ∙ ap (λ (u : ℕ). length (lists u)) e;
            });
          })

-- before the first range
pub none_held : (lists : ℕ → List ℕ) (counts : List ℕ) → start lists (length counts) ≤ MOST_ARCS → AreCounts (length counts) lists counts → IsRangeOf lists (record { from = 0; to = 0; ends = counts; all = [] })
none_held lists counts few h = record {
  few = few;
  counted = refl;
  ordered = omega arith;
  within = omega arith;
  lists = record { pages = refl; room = refl; reached = λ v lt. absurd (omega arith); members = λ v lt. absurd (omega arith) };
  counts = record { pages = omega arith; each = λ v lt. h.each v (omega arith) ∙ ap (λ (u : ℕ). length (lists u)) (sym (zero-add v)) };
}

-- ---- how many ranges there are

ranges_have : (g : Digraph) (room n : ℕ) (at : ℕ → ℕ) → AreRanges g room (n + 1) at → (k : ℕ) → k ≤ n → room * k ≤ start (predecessors g) (at k)
ranges_have g room n at h zero le = omega arith
ranges_have g room n at h (suc k) le =
    let follow = h.follow k (omega arith) in
    let full = h.full k (omega arith) in
    let e : at k + (at (k + 1) - at k) ≡ at (k + 1) = omega arith in
    let next : at (k + 1) ≡ at (suc k) = ap at (omega arith) in
    omega (arith, full, ranges_have g room n at h k (omega arith), start_split (predecessors g) (at k) (at (k + 1) - at k), ap (start (predecessors g)) e, ap (start (predecessors g)) next)

pub are_few : RangesAreFew
are_few g ok room n at h =
    omega (arith, ranges_have g room n at h n (omega arith), h.follow n (omega arith), h.within, start_le (predecessors g) (at n) g.nodes (omega (arith, h.follow n (omega arith), h.within)), start_of_all g ok)
