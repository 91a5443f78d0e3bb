-- What a round leaves, from what was gathered.
use Rattle.std.proofs.Common.{ℕ, ◌≡◌, ◌+◌, ◌-◌, ◌*◌, ◌<◌, ◌≤◌, ◌==◌, List, All, length, get_or, cond, min, refl, ap, arith, ◌∙◌, subst, add-one, inl, inr}
use Rattle.std.proofs.lemmas.Bool.{cases_lt}
use Rattle.std.proofs.lemmas.List.Elements.{All-from_get_or}
use Rattle.wg_params.specs.declared.limits.TheConstants.{MOST_PAGES}
use Rattle.wg_graph.specs.Arcs.{has_arc}
use Rattle.wg_graph.specs.Digraph.{Digraph, IsGraph, outdegree}
use Rattle.wg_rank.specs.Sum.{sum_below}
use Rattle.wg_rank.specs.Rank.{total, sum_in, sum_dangling, low_flow, high_flow, lower, upper, gap, clipped, low, high}
use Rattle.wg_rank.specs.Settling.{settled_lows, settled_highs, least}
use Rattle.wg_rank.specs.Intervals.{Intervals, IsTable, AreBoundsOf, next_low, next_high, by_page}
use Rattle.wg_rank.specs.Weights.{AreWeights, weights_or_ones}
use Rattle.wg_rank.specs.declared.limits.TheConstants.{UNITS}
use Rattle.wg_rank.proofs.Sums.{sum_same, sum_le, sum_const, term_le_sum}
use Rattle.wg_rank.proofs.Pageranks.{lower_total}

pub all_within_total : (m : ℕ) (xs : List ℕ) → sum_below (length xs) (by_page xs) ≤ m → All (λ x. x ≤ m) xs
all_within_total m xs h =
    All-from_get_or (λ x. x ≤ m) xs 0 (λ i w. omega (arith, h, term_le_sum (length xs) (by_page xs) i w))

-- some of the bounds add up to no more than 1 for each page
pub units_room : (k : ℕ) (xs : List ℕ) → length xs ≤ MOST_PAGES → All (λ x. x ≤ UNITS) xs → k ≤ length xs → sum_below k (by_page xs) ≤ MOST_PAGES * UNITS
units_room k xs few h le =
    omega (arith, sum_le k (by_page xs) (λ _. UNITS) (λ v i. h v 0 (omega arith)), sum_const k UNITS)

-- ---- a round depends on the bounds of pages alone

in_same : (g : Digraph) (f k : ℕ → ℕ) (v : ℕ) → ((u : ℕ) → u < g.nodes → f u ≡ k u) → sum_in g f v ≡ sum_in g k v
in_same g f k v h = sum_same g.nodes _ _ (λ u w. ap (λ x. cond (has_arc g u v) x 0) (h u w))

dangling_same : (g : Digraph) (f k : ℕ → ℕ) → ((u : ℕ) → u < g.nodes → f u ≡ k u) → sum_dangling g f ≡ sum_dangling g k
dangling_same g f k h = sum_same g.nodes _ _ (λ u w. ap (λ x. cond (outdegree g u == 0) x 0) (h u w))

module _ (g : Digraph) (a : ℕ) (w : ℕ → ℕ) where
  pub lower_same : (l k : ℕ → ℕ) (v : ℕ) → ((u : ℕ) → u < g.nodes → l u ≡ k u) → lower g a w l v ≡ lower g a w k v
  lower_same l k v h = grind (arith, in_same, dangling_same)

  upper_same : (l k : ℕ → ℕ) (v : ℕ) → ((u : ℕ) → u < g.nodes → l u ≡ k u) → upper g a w l v ≡ upper g a w k v
  upper_same l k v h = grind (arith, in_same, dangling_same)

  pub clipped_same : (l k h j : ℕ → ℕ) (v : ℕ) → v < g.nodes → ((u : ℕ) → u < g.nodes → l u ≡ k u)
      → ((u : ℕ) → u < g.nodes → h u ≡ j u) → clipped g a w l h v ≡ clipped g a w k j v
  clipped_same l k h j v i e f =
      let e1 = lower_same l k v e in
      let e2 : gap g (lower g a w l) ≡ gap g (lower g a w k) = ap (λ x. UNITS - x) (sum_same g.nodes (lower g a w l) (lower g a w k) (λ u _. lower_same l k u e)) in
      rw (e1, e2, (upper_same h j v f), (f v i)) refl

-- one round on, the bounds are those of one round more
pub holds_more : (b c : Intervals) (g : Digraph) → c.damping ≡ b.damping → c.weights ≡ b.weights → c.rounds ≡ b.rounds + 1
    → IsTable c.low g.nodes (next_low g b) → IsTable c.high g.nodes (next_high g b) → AreBoundsOf b g → AreBoundsOf c g
holds_more b c g d e k l h o = record {
  low_is = record {
    counted = l.counted;
    each = λ v i. rw (d, e, k, add-one) (l.each v i ∙ lower_same g b.damping (by_page b.weights) _ (low g b.damping (by_page b.weights) b.rounds) v o.low_is.each);
  };
  high_is = record {
    counted = h.counted;
    each = λ v i. rw (d, e, k, add-one)
        (h.each v i
        ∙ clipped_same g b.damping (by_page b.weights) _ (low g b.damping (by_page b.weights) b.rounds) _ (high g b.damping (by_page b.weights) b.rounds) v i o.low_is.each o.high_is.each);
  };
}

-- ---- what was gathered makes the new bounds

pub settled_lower : (g : Digraph) (a k : ℕ) (w l x : ℕ → ℕ) (d : ℕ) → k ≡ g.nodes
    → ((v : ℕ) → v < g.nodes → x v ≡ low_flow g l v) → d ≡ sum_dangling g l
    → (v : ℕ) → v < g.nodes → settled_lows a k d w x v ≡ lower g a w l v
settled_lower g a k w l x d e flows rest v i = rw (flows v i, rest, e) refl

pub settled_table : (g : Digraph) (a k : ℕ) (ws : List ℕ) (l : ℕ → ℕ) (xs : List ℕ) (d : ℕ) → k ≡ g.nodes → length xs ≡ g.nodes
    → d ≡ sum_dangling g l
    → ((v : ℕ) → v < k → get_or xs v 0 ≡ settled_lows a k d (by_page (weights_or_ones k ws)) (low_flow g l) v)
    → IsTable xs g.nodes (lower g a (by_page (weights_or_ones k ws)) l)
settled_table g a k ws l xs d e m rest each = grind arith

-- upper bounds never rise
pub least_within : (old new : List ℕ) (f k : ℕ → ℕ) (m : ℕ) → length new ≡ length old → All (λ x. x ≤ m) old
    → ((v : ℕ) → v < length old → get_or new v 0 ≡ least (get_or old v 0) (f v) (k v)) → All (λ x. x ≤ m) new
least_within old new f k m e h each =
    All-from_get_or (λ x. x ≤ m) new 0 (λ v i. omega (arith, each v (omega arith), h v 0 (omega arith)))

least_same : (h x y p q s t : ℕ) → x ≡ y → p ≡ q → s ≡ t → least h x (p + s) ≡ least h y (q + t)
least_same h x y p q s t e f k = rw (e, f, k) refl

module _ (g : Digraph) (a : ℕ) (w : ℕ → ℕ) where
  -- new lower bounds add up to at most 1
  pub table_total : (l : ℕ → ℕ) (xs : List ℕ) → IsGraph g → a ≤ 1000 → (0 < g.nodes → 0 < total g w) → total g l ≤ UNITS → IsTable xs g.nodes (lower g a w l)
      → sum_below (length xs) (by_page xs) ≤ UNITS
  table_total l xs ok da heavy t e =
      rw e.counted (elim (cases_lt 0 g.nodes) [
        | inl p ↦ omega (arith, sum_same g.nodes (by_page xs) (lower g a w l) e.each, lower_total g a w ok da p (heavy p) l t)
        | inr z ↦ let q : g.nodes ≡ 0 = omega arith in rw q (omega arith)
      ])

  -- what they leave of 1
  gap_from : (l : ℕ → ℕ) (xs : List ℕ) → IsTable xs g.nodes (lower g a w l) → UNITS - sum_below (length xs) (by_page xs) ≡ gap g (lower g a w l)
  gap_from l xs e = rw e.counted (ap (λ x. UNITS - x) (sum_same g.nodes (by_page xs) (lower g a w l) e.each))

  upper_from : (h : ℕ → ℕ) (d n : ℕ) → n ≡ g.nodes → d ≡ sum_dangling g h
      → (v : ℕ) → settled_highs a n d w (high_flow g h) v ≡ upper g a w h v
  upper_from h d n m rest v = rw (rest, m) refl

  -- so does what was settled and then cut
  pub clipped_at : (l h : ℕ → ℕ) (xs : List ℕ) (d n x s t v : ℕ) → n ≡ g.nodes → IsTable xs g.nodes (lower g a w l) → d ≡ sum_dangling g h → v < g.nodes
      → x ≡ min s (get_or xs v 0 + (UNITS - t)) → t ≡ sum_below (length xs) (by_page xs) → s ≡ min (h v) (settled_highs a n d w (high_flow g h) v)
      → x ≡ clipped g a w l h v
  clipped_at l h xs d n x s t v m low_is rest i cut all settled = grind (arith, gap_from, upper_from, lower, least_same, upper)

-- the new lower bounds add up to at most 1
pub settled_total : (g : Digraph) (a k : ℕ) (ws : List ℕ) (l : ℕ → ℕ) (xs : List ℕ) → IsGraph g → a ≤ 1000 → AreWeights k (weights_or_ones k ws) → k ≡ g.nodes
    → sum_below k l ≤ UNITS → IsTable xs g.nodes (lower g a (by_page (weights_or_ones k ws)) l) → sum_below (length xs) (by_page xs) ≤ UNITS
settled_total g a k ws l xs ok da h e t table =
    table_total g a (by_page (weights_or_ones k ws)) l xs ok da
    (λ p. subst (λ n. 0 < sum_below n (by_page (weights_or_ones k ws))) e (h.some (omega arith))) (rw (← e) t) table

-- ---- tables of lists that are the same

pub lower_table : (g : Digraph) (a : ℕ) (xs ys l k ws vs : List ℕ) → xs ≡ ys → k ≡ l → vs ≡ ws
    → IsTable ys g.nodes (lower g a (by_page (weights_or_ones (length k) vs)) (by_page k))
    → IsTable xs g.nodes (lower g a (by_page (weights_or_ones (length l) ws)) (by_page l))
lower_table g a xs ys l k ws vs e f h t = rw (e, ← f, ← h) t

pub clipped_table : (g : Digraph) (a : ℕ) (xs ys l k h j ws vs : List ℕ) → xs ≡ ys → k ≡ l → j ≡ h → vs ≡ ws
    → IsTable ys g.nodes (clipped g a (by_page (weights_or_ones (length k) vs)) (by_page k) (by_page j))
    → IsTable xs g.nodes (clipped g a (by_page (weights_or_ones (length l) ws)) (by_page l) (by_page h))
clipped_table g a xs ys l k h j ws vs e f i q t = rw (e, ← f, ← i, ← q) t
