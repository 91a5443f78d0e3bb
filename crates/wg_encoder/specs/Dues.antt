-- Which fields of a record are still to come, if some of its members are behind.
use Rattle.std.specs.Prelude.{ℕ, ◌+◌, ◌-◌, ◌==◌, ◌<◌, ◌≤◌, ◌^◌, Bool, not, if◌then◌else◌, List, [], ◌∷◌, ◌++◌, length, map, filter}
use Rattle.std.specs.List.{flat_map}
use Rattle.wg_params.specs.Codes.{IsCode}
use Rattle.wg_graph.specs.Ascending.{Ascends, Below}
use Rattle.wg_blocks.specs.Canonical.{blocks_from}
use Rattle.wg_intervals.specs.declared.run.Run.{Run}
use Rattle.wg_intervals.specs.Canonical.{is_long, numbers_of, runs_from}
use Rattle.wg_grammar.specs.declared.fault.Field.TheVariants as field
use Rattle.wg_encoder.specs.declared.blocks.BlockTally.{BlockTally}
use Rattle.wg_encoder.specs.declared.extras.ExtraTally.{ExtraTally}
use Rattle.wg_encoder.specs.declared.intervals.IntervalTally.{IntervalTally}
use Rattle.wg_encoder.specs.declared.residuals.ResidualTally.{ResidualTally}
use Rattle.wg_greedy.specs.Fields.{Written, written, stored_blocks, has_some, count_fields, interval_fields, residual_fields}

-- ---- blocks

-- how blocks are stored if n are before them: the first of all is stored as it is, later ones less 1
abbrev pub stored_after : ℕ → List ℕ → List ℕ
stored_after n blocks = if n == 0 then stored_blocks blocks else map (λ b. b - 1) blocks

-- the count of all blocks and those that come, if blocks are written
abbrev pub dues_of_blocks : BlockTally → List ℕ → List Written
dues_of_blocks t blocks = if t.is_written
    then written field.BlockCount t.counts (t.count + length blocks) ∷ map (written field.Block t.code)
    (stored_after t.count blocks) else []

-- the count of all blocks and those that come, if this mask comes
abbrev pub block_dues : BlockTally → List Bool → List Written
block_dues t mask = dues_of_blocks t (blocks_from t.run mask)

-- no more than i members are behind
pub record IsWithin (t : BlockTally) (i : ℕ) : Type 0 where
  pub count : t.count ≤ i
  pub run : t.run.length ≤ i
  pub counts : IsCode t.counts
  pub code : IsCode t.code

-- ---- what is not copied

abbrev pub interval_dues : IntervalTally → List Run → List Written
interval_dues t runs = interval_fields t.page t.least t.past runs

abbrev pub residual_dues : ResidualTally → List ℕ → List Written
residual_dues t numbers = residual_fields t.code t.page t.last numbers

-- the count of all intervals, those that come with these runs, and their residuals; whether the record has extras is
-- told
abbrev pub dues_of_runs : ExtraTally → Bool → List Run → List Written
dues_of_runs t found runs =
    (count_fields found t.intervals.least (t.intervals.count + length (filter (is_long t.intervals.least) runs))
    ++ interval_dues t.intervals (filter (is_long t.intervals.least) runs))
    ++ residual_dues t.residuals (flat_map numbers_of (filter (λ r. not (is_long t.intervals.least r)) runs))

-- the intervals and residuals that are due, if these numbers come
abbrev pub extra_dues : ExtraTally → List ℕ → List Written
extra_dues t numbers = dues_of_runs t (has_some (numbers_of t.run ++ numbers)) (runs_from t.run numbers)

-- the pages are low, and the code is one
pub record IsReady (t : ExtraTally) : Type 0 where
  pub interval_page : t.intervals.page < 2 ^ 62
  pub residual_page : t.residuals.page < 2 ^ 62
  pub code : IsCode t.residuals.code

-- these numbers may come
pub record MayCome (t : ExtraTally) (numbers : List ℕ) : Type 0 where
  pub ready : IsReady t
  pub few : t.intervals.count ≤ t.run.left
  pub end : t.run.left + t.run.length ≤ 2 ^ 62
  pub up : Ascends (t.run.left + t.run.length) numbers
  pub low : Below (2 ^ 62) numbers
