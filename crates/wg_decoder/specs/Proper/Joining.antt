-- Numbers that are joined to ascending members, and members that are copied.
use Rattle.std.specs.Prelude.{◌≡◌, ℕ, ◌+◌, Bool, List, ◌++◌, length, sum, take, Option}
use Rattle.wg_params.specs.declared.code.Code.{Code}
use Rattle.wg_graph.specs.Ascending.{Ascends}
use Rattle.wg_graph.specs.Copied.{is_copied, at_positions}
use Rattle.wg_blocks.specs.Stored.{blocks_of, blocks_after}
use Rattle.wg_intervals.specs.Stored.{numbers_inside}
use Rattle.wg_decoder.specs.Proper.Disjoint.{ShareNone}
use Rattle.wg_graph.specs.Unions.{union_of}
use Rattle.wg_decoder.specs.Proper.Laid.{WordsTo, IntervalsTo}

-- both ascend, and they share no number
pub record AreJoinable (members others : List ℕ) : Type 0 where
  pub members_ascend : Ascends 0 members
  pub others_ascend : Ascends 0 others
  pub apart : ShareNone members others

-- the numbers of the row, and both lists behind them, are all
pub record Joining (all row members others : List ℕ) : Type 0 where
  pub joinable : AreJoinable members others
  pub list : row ++ union_of members others ≡ all

-- of the blocks that are stored as these values, index have been read, which end at the member done; what they copy was
-- added to the old numbers
pub record Copying (code : Code) (count : ℕ) (members values : List ℕ) (behind : List Bool) (old : List ℕ)
    (index done : ℕ) (row : List ℕ) (z : List Bool) : Type 0 where
  pub blocks : List ℕ
  pub todo : List ℕ
  pub count_done : length blocks ≡ index
  pub count_todo : length todo + index ≡ count
  pub parts : blocks_of values ≡ blocks ++ blocks_after index todo
  pub stands : WordsTo code todo z behind
  pub total : sum blocks ≡ done
  pub added : row ≡ old ++ at_positions (is_copied blocks) 0 (take done members)

-- of the intervals, index have been read, of which the last ended before past; their numbers were joined
pub record Covered (page least count : ℕ) (all : List ℕ) (behind : List Bool) (index : ℕ) (past : Option ℕ)
    (row members : List ℕ) (z : List Bool) : Type 0 where
  pub lefts : List ℕ
  pub lengths : List ℕ
  pub count_todo : length lefts + index ≡ count
  pub stand : IntervalsTo page least past lefts lengths z behind
  pub on : Joining all row members (numbers_inside lefts lengths)
