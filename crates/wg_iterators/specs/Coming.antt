-- Pages whose successors are given one by one.
use Rattle.std.specs.Prelude.{ℕ, List}

-- A page whose successors are given one by one: how many there are, how many pages are read below it, and which
-- successors are still to come.
pub record Coming : Type 0 where
  pub outdegree : ℕ
  pub depth : ℕ
  pub list : List ℕ
