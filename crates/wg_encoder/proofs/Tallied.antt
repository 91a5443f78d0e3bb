-- Blocks that are counted one by one.
use Rattle.std.proofs.Common.{ℕ, ◌-◌, cond, eqb}

abbrev pub stored_next : ℕ → ℕ → ℕ
stored_next count b = cond (eqb count 0) b (b - 1)
