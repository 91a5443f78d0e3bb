-- The page that a record refers to.
use Rattle.std.specs.Prelude.{◌≡◌, ℕ, zero, suc, ◌-◌, ◌≤◌, Bool, List, Option, Some, None}
use Rattle.wg_params.specs.Parameters.{Parameters}
use Rattle.wg_grammar.specs.Record.{Whole}
use Rattle.wg_decoder.specs.Proper.{IsRecord}
use Rattle.wg_stream.specs.AllRecords.{known_at, offset_at}

-- The record of page x is proper against the list below.
abbrev pub StandsOn : Parameters → List Bool → List Whole → ℕ → Option (List ℕ) → Type 0
StandsOn p bits records x below =
    IsRecord p x below (record { bits = bits; at = offset_at records x }) (known_at records x).list

-- the list of the page r pages before x; none if r is 0
abbrev pub below_at : List Whole → ℕ → ℕ → Option (List ℕ)
below_at records x zero = None
below_at records x (suc r) = Some (known_at records (x - suc r)).list

abbrev pub depth_at : List Whole → ℕ → ℕ → ℕ
depth_at records x zero = 0
depth_at records x (suc r) = suc (known_at records (x - suc r)).depth

-- the record of page x refers r pages back, or to none if r is 0
pub record Refers (p : Parameters) (bits : List Bool) (records : List Whole) (x r : ℕ) : Type 0 where
  pub near : r ≤ x
  pub proper : StandsOn p bits records x (below_at records x r)
  pub depth : (known_at records x).depth ≡ depth_at records x r
