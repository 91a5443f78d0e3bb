-- How far a canonical record has been read.
use Rattle.std.proofs.Common.{◌≡◌, ℕ, ◌<◌, ltb, false, not, ◌&&◌, [], length, Some, None, is_none}
use Rattle.wg_params.specs.Parameters.{Parameters}
use Rattle.wg_grammar.specs.Context.{Context}
use Rattle.wg_grammar.specs.SoFar.{SoFar, value_or_0}

-- All that comes before the successors that are not copied has been read: the outdegree is not 0, and the reference,
-- the blocks and their check are read if they are there.
pub record IsPastCopies (p : Parameters) (c : Context) (s : SoFar) : Type 0 where
  pub degree : ℕ
  pub outdegree : s.outdegree ≡ Some degree
  pub some : 0 < degree
  pub reference : (ltb 0 p.window && is_none s.reference) ≡ false
  pub counted : (ltb 0 (value_or_0 s.reference) && is_none s.block_count) ≡ false
  pub all_blocks : ltb (length s.blocks) (value_or_0 s.block_count) ≡ false
  pub judged : (ltb 0 (value_or_0 s.reference) && not s.checked) ≡ false
  pub no_count : s.interval_count ≡ None
  pub no_lefts : s.lefts ≡ []
  pub no_lengths : s.lengths ≡ []
  pub no_residuals : s.residuals ≡ []
