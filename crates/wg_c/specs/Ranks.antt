-- What the calls on PageRank answer.
use Rattle.std.specs.Prelude.{◌≢◌, ◌⊎◌, ℕ, ◌+◌, ◌*◌, ◌<◌, List, length}
use Rattle.wg_params.specs.declared.limits.TheConstants.{MOST_DAMPING, MOST_ROUNDS}
use Rattle.wg_c.specs.declared.verifying.WgWide.{WgWide}

-- neither no weight nor one for each page
abbrev pub AreOdd : ℕ → List ℕ → Type 0
AreOdd nodes weights = (length weights ≢ 0) × (length weights ≢ nodes)

-- a damping or so many rounds are past their limits, or an array is not as long as it has to be
abbrev pub IsBeyond : ℕ → List ℕ → ℕ → ℕ → List ℕ → List ℕ → Type 0
IsBeyond nodes weights damping rounds low high =
    (MOST_DAMPING < damping) ⊎ (MOST_ROUNDS < rounds) ⊎ AreOdd nodes weights ⊎ (length low ≢ 2 * nodes)
    ⊎ (length high ≢ 2 * nodes)

-- the number of two words
abbrev pub wide_in : WgWide → ℕ
wide_in w = w.low + 18446744073709551616 * w.high
