-- Numbers in memory that is taken once.
use Rattle.std.specs.Prelude.{ℕ, List}

-- the numbers, in order, others that wait to be put behind them, and for how many in all there is room
pub record Filled : Type 0 where
  pub list : List ℕ
  pub waiting : List ℕ
  pub room : ℕ
