-- What is true of the fields of all bounds.
use Rattle.std.specs.Prelude.{◌≡◌, ◌*◌, ◌≤◌, All, length}
use Rattle.wg_params.specs.declared.limits.TheConstants.{MOST_PAGES, MOST_DAMPING, MOST_ROUNDS}
use Rattle.wg_rank.specs.Sum.{sum_below}
use Rattle.wg_rank.specs.Intervals.{Intervals, by_page}
use Rattle.wg_rank.specs.Weights.{AreWeights, weights_or_ones}
use Rattle.wg_rank.specs.declared.limits.TheConstants.{UNITS}
use Rattle.wg_rank.specs.declared.bounds.Bounds.TheInside.{Inside}

abbrev pub intervals_of : Inside → Intervals
intervals_of b = record {
  damping = b.damping;
  rounds = b.rounds;
  weights = weights_or_ones (length b.low.items) b.weights;
  low = b.low.items;
  high = b.high.items;
}

pub record AreKept (b : Inside) : Type 0 where
  pub few : length b.low.items ≤ MOST_PAGES
  pub damped : b.damping ≤ MOST_DAMPING
  pub counted : b.rounds ≤ MOST_ROUNDS
  pub weighed : AreWeights (length b.low.items) (weights_or_ones (length b.low.items) b.weights)
  pub high_pages : length b.high.items ≡ length b.low.items
  pub inflow_pages : length b.inflows.items ≡ 2 * length b.low.items
  -- so that no sum passes 128 bits
  pub low_total : sum_below (length b.low.items) (by_page b.low.items) ≤ UNITS
  pub high_units : All (λ x. x ≤ UNITS) b.high.items
