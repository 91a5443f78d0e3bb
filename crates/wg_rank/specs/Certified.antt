-- What bounds say of the exact shares.
use Rattle.std.specs.Prelude.{ℕ, ◌≡◌, ◌+◌, ◌-◌, ◌*◌, ◌^◌, ◌<◌, ◌≤◌}
use Rattle.wg_graph.specs.Digraph.{Digraph, arc_count}
use Rattle.wg_rank.specs.Rank.{total, gap, numerator, denominator, IsStationary, Encloses}
use Rattle.wg_rank.specs.Intervals.{Intervals, by_page}
use Rattle.wg_rank.specs.declared.limits.TheConstants.{UNITS}

-- for the weights of these bounds
abbrev pub numerator_of : Intervals → Digraph → ℕ → ℕ → ℕ
numerator_of b g j = numerator g b.damping (by_page b.weights) j

abbrev pub denominator_of : Intervals → Digraph → ℕ → ℕ
denominator_of b g j = denominator g (by_page b.weights) j

pub record IsCertified (b : Intervals) (g : Digraph) : Type 0 where
  -- each iterate from this round on lies within the bounds
  pub iterates : (j : ℕ) → b.rounds ≤ j
      → Encloses g (by_page b.low) (by_page b.high) (numerator_of b g j) (denominator_of b g j)
  -- and so does each stationary vector
  pub stationary : (p : ℕ → ℕ) (d : ℕ) → total g p ≡ d → IsStationary g b.damping (by_page b.weights) p d
      → Encloses g (by_page b.low) (by_page b.high) p d
  -- the shares of an iterate add up to 1
  pub sums : 0 < g.nodes → (j : ℕ) → (total g (numerator_of b g j) ≡ denominator_of b g j) × (0 < denominator_of b g j)
  pub ordered : (v : ℕ) → v < g.nodes → by_page b.low v ≤ by_page b.high v
  -- no interval is wider than what the lower bounds leave of 1
  pub within_gap : (v : ℕ) → v < g.nodes → by_page b.high v ≤ by_page b.low v + gap g (by_page b.low)
  pub width : (v : ℕ) → v < g.nodes
      → (1000 - b.damping) * 1000 ^ b.rounds * (by_page b.high v - by_page b.low v)
      ≤ (1000 - b.damping) * b.damping ^ b.rounds * UNITS + 1000 ^ b.rounds *
      (b.damping * arc_count g + 3 * 1000 * g.nodes)
