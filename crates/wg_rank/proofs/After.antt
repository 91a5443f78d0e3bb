-- Bounds before the first round, and after so many.
use Rattle.std.proofs.Common.{◌≡◌, ◌≤◌, ℕ, List, length, Option, Result, Ok, Err, sym, ◌∙◌, subst, arith}
use Rattle.std.specs.Result.{IfOk}
use Rattle.std.proofs.lemmas.List.FromFn.{fill_by_all, get_or-map-range_with_len, length-map-range_with_len}
use Rattle.wg_params.specs.declared.limits.TheConstants.{MOST_PAGES, MOST_DAMPING, MOST_ROUNDS}
use Rattle.wg_graph.specs.Digraph.{Digraph}
use Rattle.wg_rank.specs.Rank.{low, high}
use Rattle.wg_rank.specs.Intervals.{Intervals, AreBounds, AreBoundsOf, IsTable, by_page}
use Rattle.wg_rank.specs.Weights.{AreWeights, weights_of}
use Rattle.wg_rank.specs.Rounds.{AreReady, bounds_after, of_pages}

-- ---- bounds before the first round
module _ {E : Type 0} (g : Digraph) (n : ℕ) (count : n ≡ g.nodes) where
  pub ready : (r : Result Intervals E) → IfOk r (λ b. (h : Digraph) → h.nodes ≡ n → AreBoundsOf b h) → IfOk r (λ b. b.rounds ≡ 0) → IfOk r (λ b. length b.low ≡ n) → IfOk r (AreReady g)
  ready (Ok b) holds before pages = record { holds = holds g (sym count); before = before; bounded = pages ∙ count }
  ready (Err e) holds before pages = tt

  pub weighed_by : (given : Option (List ℕ)) (r : Result Intervals E) → IfOk r (λ b. b.weights ≡ weights_of n given) → IfOk r (λ b. b.weights ≡ weights_of g.nodes given)
  weighed_by given r h = subst (λ (k : ℕ). IfOk r (λ (b : Intervals). b.weights ≡ weights_of k given)) count h

module _ (g : Digraph) (given : Option (List ℕ)) (rounds damping : ℕ) where
  abbrev weights : List ℕ
  weights = weights_of g.nodes given

  -- ---- bounds after the last round
  module _ (b : Intervals) (holds : AreBoundsOf b g) (after : b.rounds ≡ rounds) (damped : b.damping ≡ damping) (weighed : b.weights ≡ weights) where
    table_after : (xs : List ℕ) (f : ℕ → (ℕ → ℕ) → ℕ → ℕ → ℕ) → IsTable xs g.nodes (f b.damping (by_page b.weights) b.rounds) → IsTable xs g.nodes (f damping (by_page weights) rounds)
    table_after xs f t =
        subst (λ (k : ℕ). IsTable xs g.nodes (f damping (by_page weights) k)) after
        (subst (λ (w : List ℕ). IsTable xs g.nodes (f damping (by_page w) b.rounds)) weighed
        (subst (λ (a : ℕ). IsTable xs g.nodes (f a (by_page b.weights) b.rounds)) damped t))

    low_after : b.low ≡ (bounds_after g given damping rounds).low
    low_after =
        let t = table_after b.low (λ a w k. low g a w k) holds.low_is in
        fill_by_all (low g damping (by_page weights) rounds) b.low g.nodes 0 t.counted t.each

    high_after : b.high ≡ (bounds_after g given damping rounds).high
    high_after =
        let t = table_after b.high (λ a w k. high g a w k) holds.high_is in
        fill_by_all (high g damping (by_page weights) rounds) b.high g.nodes 0 t.counted t.each

    pub bounds_are : b ≡ bounds_after g given damping rounds
    bounds_are = λ i. record { damping = damped i; rounds = after i; weights = weighed i; low = low_after i; high = high_after i }

  -- ---- what is proved of them
  pub bounds_hold : AreBoundsOf (bounds_after g given damping rounds) g
  bounds_hold = record {
    low_is = of_pages_is (low g damping (by_page weights) rounds);
    high_is = of_pages_is (high g damping (by_page weights) rounds);
  }
    where
      of_pages_is : (f : ℕ → ℕ) → IsTable (of_pages g f) g.nodes f
      of_pages_is f = record { counted = length-map-range_with_len f 0 g.nodes; each = λ v lt. get_or-map-range_with_len f 0 g.nodes v v 0 lt (omega arith) }

  pub are_bounds : rounds ≤ MOST_ROUNDS → damping ≤ MOST_DAMPING → g.nodes ≤ MOST_PAGES → AreWeights g.nodes weights → AreBounds (bounds_after g given damping rounds)
  are_bounds few damped small are = grind (arith, length-map-range_with_len)
