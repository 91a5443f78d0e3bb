use Rattle.std.proofs.Common.{◌≡◌, ℕ, ◌≤◌, List, length}
use Rattle.wg_graph.specs.Numbers.{is_in}
use Rattle.wg_graph.specs.Ascending.{Ascends}
use Rattle.wg_greedy.specs.Fields.{extras}
use Rattle.wg_encoder.specs.Cost.{room_after}
use Rattle.wg_encoder.specs.Dues.{extra_dues, MayCome}
use Rattle.wg_encoder.proofs.extras.ExtraTally.add_below.Given as goal

abbrev pub invariant-loop-member : goal.invariant-loop-member
invariant-loop-member l = record {
  come : MayCome l.self l.members;
  same : (y : ℕ) → l.number ≤ y → is_in y l.members ≡ is_in y l.fn.members;
  fields : (rest : List ℕ) → Ascends l.number rest → room_after l.room (extra_dues l.self (extras l.members rest)) ≡ room_after l.fn.room (extra_dues l.fn.self (extras l.fn.members rest));
}

abbrev pub decreases-loop-member : goal.decreases-loop-member
decreases-loop-member l = length l.members
