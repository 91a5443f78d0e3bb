-- What each page gives to each of its successors.
use Rattle.std.specs.Prelude.{ℕ, ◌≡◌, ◌<◌, ◌≤◌, List, [], length, get_or}
use Rattle.wg_rank.specs.Lanes.{in_lanes}
use Rattle.wg_rank.specs.declared.limits.TheConstants.{UNITS}

-- these are the lanes of what n pages give, below and above, and each gives at most 1
pub record AreShares (n : ℕ) (low high : ℕ → ℕ) (shares : List (List ℕ)) : Type 0 where
  pub pages : length shares ≡ n
  pub each : (u : ℕ) → u < n → get_or shares u [] ≡ in_lanes (λ s. s u) low high
  pub low_small : (u : ℕ) → u < n → low u ≤ UNITS
  pub high_small : (u : ℕ) → u < n → high u ≤ UNITS
