-- Sums of shares over lists of pages.
use Rattle.std.specs.List.{sum_by}
use Rattle.std.proofs.Common.{ℕ, ◌≡◌, ◌-◌, ◌+◌, ◌*◌, ◌%◌, ◌^◌, ◌<◌, ◌≤◌, All, List, length, get_or, ap, arith}
use Rattle.std.proofs.Math.Nat.{mod-eq_of_lt}
use Rattle.std.proofs.lemmas.List.Sums.{sum_by-le}
use Rattle.wg_params.specs.declared.limits.TheConstants.{MOST_PAGES}
use Rattle.wg_graph.specs.Arcs.{has_arc}
use Rattle.wg_graph.specs.Digraph.{Digraph}
use Rattle.wg_transpose.specs.Transposed.{predecessors}
use Rattle.wg_rank.specs.Lanes.{low_bits, high_bits, in_lanes}
use Rattle.wg_rank.specs.Shares.{AreShares}
use Rattle.wg_rank.specs.declared.limits.TheConstants.{UNITS}
use Rattle.wg_rank.proofs.Flow.{flow_le}
use Rattle.wg_rank.proofs.LaneSums.{low_bits_small, high_bits_small, bits_join}
use Rattle.wg_rank.proofs.Runs.{before_sum}

-- of at most 2^24 pages nothing is lost in lanes
list_joins : (s : ℕ → ℕ) (xs : List ℕ) → length xs ≤ 2 ^ 24 → All (λ u. s u ≤ UNITS) xs
    → sum_by (low_bits s) xs % 2 ^ 64 + sum_by (high_bits s) xs % 2 ^ 64 * 2 ^ 40 ≡ sum_by s xs
list_joins s xs few small =
    let lows : sum_by (low_bits s) xs ≤ length xs * (2 ^ 40 - 1) = sum_by-le (low_bits s) (2 ^ 40 - 1) xs (λ i d w. low_bits_small s (get_or xs i d)) in
    let highs : sum_by (high_bits s) xs ≤ length xs * (2 ^ 40 - 1) = sum_by-le (high_bits s) (2 ^ 40 - 1) xs (λ i d w. high_bits_small s (get_or xs i d) (small i d w)) in
    let a : sum_by (low_bits s) xs % 2 ^ 64 ≡ sum_by (low_bits s) xs = mod-eq_of_lt (omega arith) in
    let b : sum_by (high_bits s) xs % 2 ^ 64 ≡ sum_by (high_bits s) xs = mod-eq_of_lt (omega arith) in
    rw (a, b) (bits_join s xs)

module _ (n : ℕ) (low high : ℕ → ℕ) (shares : List (List ℕ)) (h : AreShares n low high shares) where
  module _ (xs : List ℕ) (few : length xs ≤ 2 ^ 24) (within : All (λ u. u < length shares) xs) (lanes : List ℕ) (e : lanes ≡ in_lanes (λ s. sum_by s xs) low high) where
    pub low_joins : get_or lanes 0 0 + get_or lanes 1 0 * 2 ^ 40 ≡ sum_by low xs
    low_joins = grind (arith, list_joins)

    pub high_joins : get_or lanes 2 0 + get_or lanes 3 0 * 2 ^ 40 ≡ sum_by high xs
    high_joins = grind (arith, list_joins)

-- no more than 1 for each page
pub shares_room : (g : Digraph) (v : ℕ) (s : ℕ → ℕ) (xs : List ℕ) → g.nodes ≤ MOST_PAGES → xs ≡ predecessors g v → ((u : ℕ) → u < g.nodes → s u ≤ UNITS)
    → sum_by s xs ≤ MOST_PAGES * UNITS
shares_room g v s xs few are small =
    omega (arith, ap (sum_by s) are, before_sum g s v, flow_le g.nodes UNITS (λ u. has_arc g u v) s small)
