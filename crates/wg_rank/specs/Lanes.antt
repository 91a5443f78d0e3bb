-- Sums of two functions of the pages in four lanes of 64 bits: the low 40 bits of what each adds, and the other bits.
use Rattle.std.specs.Prelude.{◌≡◌, ℕ, ◌+◌, ◌/◌, ◌%◌, ◌^◌, ◌<◌, ◌≤◌, List, [], ◌∷◌, length, get_or, All}
use Rattle.wg_graph.specs.Digraph.{Digraph}
use Rattle.wg_transpose.specs.Transposed.{predecessors}
use Rattle.wg_transpose.specs.declared.run.PageRun.{PageRun}
use Rattle.wg_transpose.specs.Runs.{numbers_of_all, StandApart}
use Rattle.wg_rank.specs.Sum.{sum_below}
use Rattle.wg_rank.specs.declared.limits.TheConstants.{UNITS}

-- the low 40 bits of each number, and the other bits
abbrev pub low_bits : (ℕ → ℕ) → ℕ → ℕ
low_bits s u = s u % 2 ^ 40

abbrev pub high_bits : (ℕ → ℕ) → ℕ → ℕ
high_bits s u = s u / 2 ^ 40

-- the lanes of two functions, of which some sum is taken, modulo 2^64
abbrev pub in_lanes : ((ℕ → ℕ) → ℕ) → (ℕ → ℕ) → (ℕ → ℕ) → List ℕ
in_lanes total low high =
    (total (low_bits low) % 2 ^ 64) ∷ (total (high_bits low) % 2 ^ 64)
    ∷ (total (low_bits high) % 2 ^ 64) ∷ (total (high_bits high) % 2 ^ 64) ∷ []

-- For each of n pages, and behind the last one, the lanes of what all pages below it add up to. Each is at most 1.
pub record AreSummed (n : ℕ) (low high : ℕ → ℕ) (sums : List (List ℕ)) : Type 0 where
  pub pages : length sums ≡ n + 1
  pub each : (u : ℕ) → u < n + 1 → get_or sums u [] ≡ in_lanes (sum_below u) low high
  pub low_small : (u : ℕ) → u < n → low u ≤ UNITS
  pub high_small : (u : ℕ) → u < n → high u ≤ UNITS

-- what all pages below page u give, and what it gives
abbrev pub run_lane : (ℕ → ℕ) → (ℕ → ℕ) → ℕ → List ℕ
run_lane low high u = in_lanes (sum_below u) low high

abbrev pub page_lane : (ℕ → ℕ) → (ℕ → ℕ) → ℕ → List ℕ
page_lane low high u = in_lanes (λ s. s u) low high

-- For each of n pages there is what `lane` tells, and behind the last one what all of them add up to. Each is at most 1.
pub record AreWritten (lane : (ℕ → ℕ) → (ℕ → ℕ) → ℕ → List ℕ) (n : ℕ) (low high : ℕ → ℕ) (lanes : List (List ℕ)) : Type 0 where
  pub pages : length lanes ≡ n + 1
  pub each : (u : ℕ) → u < n → get_or lanes u [] ≡ lane low high u
  pub last : get_or lanes n [] ≡ in_lanes (sum_below n) low high
  pub low_small : (u : ℕ) → u < n → low u ≤ UNITS
  pub high_small : (u : ℕ) → u < n → high u ≤ UNITS

-- these are the runs of the pages that link to page v
pub record AreRunsTo (g : Digraph) (v : ℕ) (runs : List PageRun) : Type 0 where
  pub apart : StandApart 0 runs
  pub within : All (λ r. r.to ≤ g.nodes) runs
  pub numbers : numbers_of_all runs ≡ predecessors g v
