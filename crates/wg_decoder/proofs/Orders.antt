-- Orders of numbers, apart from the facts of a function, all of which a search would go through.
use Rattle.std.proofs.Common.{◌≢◌, ℕ, suc, ◌+◌, ◌<◌, ◌≤◌, arith}

pub above_0 : (n : ℕ) → n ≢ 0 → 0 < n
above_0 n some = omega (arith, some)

pub from_0 : (n : ℕ) → 0 ≤ n
from_0 n = omega arith

pub up_to_itself : (n : ℕ) → n ≤ n
up_to_itself n = omega arith

pub from_next : (m n : ℕ) → m < n → suc m ≤ n
from_next m n below = omega (arith, below)

pub from_1 : (n : ℕ) → 1 ≤ n → 0 < n
from_1 n some = omega (arith, some)

pub with_more : (m n k : ℕ) → m ≤ n → m ≤ n + k
with_more m n k below = omega (arith, below)
