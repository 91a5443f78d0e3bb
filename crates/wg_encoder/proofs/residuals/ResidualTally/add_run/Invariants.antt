use Rattle.std.proofs.Common.{◌≡◌, ℕ, ◌+◌, ◌-◌, List, ◌++◌}
use Rattle.std.specs.List.{range_with_len}
use Rattle.wg_intervals.specs.Canonical.{numbers_of}
use Rattle.wg_encoder.specs.Cost.{room_after}
use Rattle.wg_encoder.specs.Dues.{residual_dues}
use Rattle.wg_encoder.proofs.residuals.ResidualTally.add_run.Given as goal

abbrev pub invariant-loop-index : goal.invariant-loop-index
invariant-loop-index l = record {
  page : l.self.page ≡ l.fn.self.page;
  code : l.self.code ≡ l.fn.self.code;
  fields : (numbers : List ℕ) → room_after l.room (residual_dues l.self (range_with_len (l.run.left + l.index) (l.run.length - l.index) ++ numbers)) ≡ room_after l.fn.room (residual_dues l.fn.self (numbers_of l.run ++ numbers));
}
