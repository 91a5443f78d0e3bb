-- The step to the next range.
use Rattle.std.proofs.Common.{◌≡◌, ℕ, ◌+◌, ◌-◌, ◌<◌, ◌≤◌, List, length, take, drop, slice_range, refl, sym, ap, subst, ◌∙◌, arith}
use Rattle.std.specs.Prelude.{sum}
use Rattle.std.proofs.lemmas.Slice.{between_to_end}
use borrow.Rule.Slice.PartMut.{put_mid}
use Rattle.wg_params.specs.declared.limits.TheConstants.{MOST_ARCS}
use Rattle.wg_transpose.specs.SoFar.{onward, start, AreCounts, ArePrefixes}
use Rattle.wg_transpose.specs.Transposing.{Ranging, IsRangeOf, numbers_between}
use Rattle.wg_transpose.proofs.Held.{length_written, sum_behind, range_within, range_size, range_arcs, range_few, range_counted, range_held}

-- `now` is the range before, `seen` are the ends that are read
module _ {lists : ℕ → List ℕ} {r now : Ranging} {seen : List ℕ} (is : r ≡ now) (held : IsRangeOf lists now) (same : seen ≡ r.ends) where
  -- how long the lists behind the range are
  abbrev behind : List ℕ
  behind = slice_range seen r.to (length seen)

  held_now : IsRangeOf lists r
  held_now = subst (IsRangeOf lists) (sym is) held

  behind_is : behind ≡ drop r.to r.ends
  behind_is = between_to_end seen r.to (length seen) (omega arith) ∙ ap (drop r.to) same

  pub next_sum : sum behind ≤ MOST_ARCS
  next_sum = subst (λ (l : List ℕ). sum l ≤ MOST_ARCS) (sym behind_is) (sum_behind lists r held_now)

  -- a step over p lists
  module _ {p : ℕ} (within : p ≤ length behind) where
    fits : p ≤ length (drop r.to r.ends)
    fits = subst (λ (l : List ℕ). p ≤ length l) behind_is within

    numbers_are : (k : ℕ) → k ≤ p → sum (take k behind) ≡ start (onward r.to lists) k
    numbers_are k le = ap (λ (l : List ℕ). sum (take k l)) behind_is ∙ range_arcs lists r held_now p fits k le

    pub next_least : (room : ℕ) → ((k : ℕ) → 0 < k → k < p → sum (take k behind) < room)
        → (list : ℕ) → now.to < list → list < r.to + p → numbers_between lists now.to list < room
    next_least room least list =
        subst (λ (s : Ranging). s.to < list → list < r.to + p → numbers_between lists s.to list < room) is
        (λ low high. omega (arith, least (list - r.to) (omega arith) (omega arith), numbers_are (list - r.to) (omega arith)))

    -- the ends as they are handed to the pass
    module _ {ends : List ℕ} (same_ends : ends ≡ r.ends) where
      abbrev near : List ℕ
      near = slice_range ends r.to (r.to + p)

      near_is : near ≡ slice_range r.ends r.to (r.to + p)
      near_is = ap (λ (l : List ℕ). slice_range l r.to (r.to + p)) same_ends

      near_size : length near ≡ p
      near_size = ap length near_is ∙ range_size lists r held_now p fits

      pub next_counted : AreCounts (length near) (onward r.to lists) near
      next_counted =
          subst (λ (l : List ℕ). AreCounts (length l) (onward r.to lists) l) (sym near_is)
          (range_counted lists r held_now p fits)

      pub next_numbers : (total size : ℕ) → total ≡ sum (take p behind) → size ≡ total
          → size ≡ start (onward r.to lists) (length near)
      next_numbers total size sums all =
          omega (arith, all, sums, numbers_are p (omega arith), ap (start (onward r.to lists)) near_size)

      pub next_few : (total size : ℕ) → total ≡ sum (take p behind) → size ≡ total → size ≤ MOST_ARCS
      next_few total size sums all =
          omega (arith, all, sums, numbers_are p (omega arith), range_few lists r held_now p fits)

      -- the ends that the pass wrote
      module _ (new : List ℕ) (size : length new ≡ length near) where
        pub next_length : length (put_mid r.to (r.to + p - r.to) ends new) ≡ length ends
        next_length =
            length_written r.to (r.to + p - r.to) ends new
            (omega (arith, range_within lists r held_now p fits, ap length same_ends)) (omega (arith, size, near_size))

        pub next_held : (placed ends_now all_now : List ℕ) → ends_now ≡ put_mid r.to (r.to + p - r.to) ends new → all_now ≡ placed
            → ArePrefixes (length near) (onward r.to lists) (onward r.to lists) new placed
            → IsRangeOf lists (record { from = r.to; to = r.to + p; ends = ends_now; all = all_now })
        next_held placed ends_now all_now by all_by h =
            let by_before : ends_now ≡ put_mid r.to (r.to + p - r.to) r.ends new =
            by ∙ ap (λ (l : List ℕ). put_mid r.to (r.to + p - r.to) l new) same_ends in
            let h_p = subst (λ (m : ℕ). ArePrefixes m (onward r.to lists) (onward r.to lists) new placed) near_size h in
            rw (by_before, all_by)
            (range_held lists r held_now p fits (r.to + p - r.to) new placed refl (size ∙ near_size) h_p)
