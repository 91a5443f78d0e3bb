-- Numbers of what has been read of a record, from which is told what comes next and what is allowed. Lists are kept by
-- how many numbers they have, their sum, or their last number.
use Rattle.std.specs.Prelude.{◌≡◌, ℕ, ◌+◌, ◌-◌, length, sum}
use Rattle.wg_params.specs.Parameters.{Parameters}
use Rattle.wg_grammar.specs.declared.progress.Tally.{Tally}
use Rattle.wg_grammar.specs.Context.{Context}
use Rattle.wg_grammar.specs.SoFar.{SoFar, value_or_0, last_of, source, copied}

-- the numbers of a record of which s has been read
abbrev pub tally : Parameters → Context → SoFar → Tally
tally p c s = record {
  params = p;
  page = c.page;
  arcs_before = c.arcs_before;
  outdegree = s.outdegree;
  reference = s.reference;
  source = length (source c s);
  block_count = s.block_count;
  blocks = length s.blocks;
  blocks_sum = sum s.blocks;
  copied = length (copied c s);
  checked = s.checked;
  interval_count = s.interval_count;
  lefts = length s.lefts;
  last_left = last_of s.lefts;
  lengths = length s.lengths;
  last_length = last_of s.lengths;
  covered = sum s.lengths;
  residuals = length s.residuals;
  last_residual = last_of s.residuals;
}

-- the numbers are those of a record of which s has been read
abbrev pub Follows : Tally → Parameters → Context → SoFar → Type 0
Follows t p c s = t ≡ tally p c s

-- how many successors are not copied, and how many of these are missing still
abbrev pub extra_of : Tally → ℕ
extra_of t = value_or_0 t.outdegree - t.copied

abbrev pub missing_of : Tally → ℕ
missing_of t = extra_of t - (t.covered + t.residuals)
