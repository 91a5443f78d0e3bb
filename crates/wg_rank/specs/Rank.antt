-- PageRank after Page and Brin, with damping a / 1000 and a teleport by weights w: its exact iterates, and bounds of
-- them in whole units.
use Rattle.std.specs.Prelude.{ℕ, ◌≡◌, zero, suc, ◌+◌, ◌-◌, ◌*◌, ◌/◌, ◌<◌, ◌≤◌, ◌==◌, cond, min, max}
use Rattle.std.specs.Int.{div_ceil}
use Rattle.wg_graph.specs.Arcs.{has_arc}
use Rattle.wg_graph.specs.Digraph.{Digraph, outdegree}
use Rattle.wg_rank.specs.Sum.{sum_below, product_below}
use Rattle.wg_rank.specs.declared.limits.TheConstants.{UNITS}

-- the sum of f over the pages
abbrev pub total : Digraph → (ℕ → ℕ) → ℕ
total g f = sum_below g.nodes f

-- the sum of f over the pages with an arc to v
abbrev pub sum_in : Digraph → (ℕ → ℕ) → ℕ → ℕ
sum_in g f v = total g (λ u. cond (has_arc g u v) (f u) 0)

-- the sum of f over the dangling pages, which have no successors
abbrev pub sum_dangling : Digraph → (ℕ → ℕ) → ℕ
sum_dangling g f = total g (λ u. cond (outdegree g u == 0) (f u) 0)

-- ---- one round of the bounds: l below and h above

-- what flows to page v along arcs, each page's share rounded down
abbrev pub low_flow : Digraph → (ℕ → ℕ) → ℕ → ℕ
low_flow g l v = sum_in g (λ u. l u / outdegree g u) v

-- what flows to page v along arcs, each page's share rounded up
abbrev pub high_flow : Digraph → (ℕ → ℕ) → ℕ → ℕ
high_flow g h v = sum_in g (λ u. div_ceil (h u) (outdegree g u)) v

-- what page v gets along arcs, from the dangling pages and by teleport, each part rounded down
abbrev pub lower : Digraph → ℕ → (ℕ → ℕ) → (ℕ → ℕ) → ℕ → ℕ
lower g a w l v =
    a * low_flow g l v / 1000
    + (a * sum_dangling g l / (1000 * g.nodes) + (1000 - a) * UNITS * w v / (1000 * total g w))

-- what page v gets along arcs, from the dangling pages and by teleport, each part rounded up
abbrev pub upper : Digraph → ℕ → (ℕ → ℕ) → (ℕ → ℕ) → ℕ → ℕ
upper g a w h v =
    div_ceil (a * high_flow g h v) 1000
    + (div_ceil (a * sum_dangling g h) (1000 * g.nodes) + div_ceil ((1000 - a) * UNITS * w v) (1000 * total g w))

-- what lower bounds leave of 1
abbrev pub gap : Digraph → (ℕ → ℕ) → ℕ
gap g l = UNITS - total g l

-- no more than before, than what flows in, and than what the lower bounds leave
abbrev pub clipped : Digraph → ℕ → (ℕ → ℕ) → (ℕ → ℕ) → (ℕ → ℕ) → ℕ → ℕ
clipped g a w l h v = min (min (h v) (upper g a w h v)) (lower g a w l v + gap g (lower g a w l))

-- the bounds of page v after k rounds
abbrev pub low : Digraph → ℕ → (ℕ → ℕ) → ℕ → ℕ → ℕ
low g a w zero v = 0
low g a w (suc k) v = lower g a w (low g a w k) v

abbrev pub high : Digraph → ℕ → (ℕ → ℕ) → ℕ → ℕ → ℕ
high g a w zero v = UNITS
high g a w (suc k) v = clipped g a w (low g a w k) (high g a w k) v

-- ---- the exact iterates: of each a numerator for each page, over one denominator

abbrev pub degrees_product : Digraph → ℕ
degrees_product g = product_below g.nodes (λ u. max 1 (outdegree g u))

-- one step from p, whose sum is d: numerators over d * 1000 * nodes * degrees_product * total weight
abbrev pub exact_step : Digraph → ℕ → (ℕ → ℕ) → (ℕ → ℕ) → ℕ → ℕ → ℕ
exact_step g a w p d v =
    a * g.nodes * total g w * sum_in g (λ u. p u * (degrees_product g / outdegree g u)) v
    + a * degrees_product g * total g w * sum_dangling g p
    + (1000 - a) * g.nodes * degrees_product g * w v * d

abbrev pub denominator : Digraph → (ℕ → ℕ) → ℕ → ℕ
denominator g w zero = g.nodes
denominator g w (suc t) = denominator g w t * 1000 * g.nodes * degrees_product g * total g w

abbrev pub numerator : Digraph → ℕ → (ℕ → ℕ) → ℕ → ℕ → ℕ
numerator g a w zero v = 1
numerator g a w (suc t) v = exact_step g a w (numerator g a w t) (denominator g w t) v

-- a step leaves the shares p / d as they are
abbrev pub IsStationary : Digraph → ℕ → (ℕ → ℕ) → (ℕ → ℕ) → ℕ → Type 0
IsStationary g a w p d =
    (v : ℕ) → v < g.nodes → exact_step g a w p d v ≡ p v * 1000 * g.nodes * degrees_product g * total g w

-- the share p / d of each page lies within its bounds
abbrev pub Encloses : Digraph → (ℕ → ℕ) → (ℕ → ℕ) → (ℕ → ℕ) → ℕ → Type 0
Encloses g l h p d = (v : ℕ) → v < g.nodes → (l v * d ≤ UNITS * p v) × (UNITS * p v ≤ h v * d)

-- each stationary vector lies between lower bounds and those with so much more
abbrev pub EnclosesStationary : Digraph → ℕ → (ℕ → ℕ) → (ℕ → ℕ) → ℕ → Type 0
EnclosesStationary g a w l left =
    (p : ℕ → ℕ) (d : ℕ) → total g p ≡ d → IsStationary g a w p d → Encloses g l (λ v. l v + left) p d
