-- How the private steps of a `Progress` check and take a value, by the numbers that it keeps.
use Rattle.std.specs.Prelude.{◌≡◌, ℕ, suc, ◌+◌, ◌-◌, ◌%◌, ◌<◌, true, ◌==◌, if◌then◌else◌, Option, Some, None}
use Rattle.wg_graph.specs.Copied.{block_at}
use Rattle.wg_params.specs.Parameters.{Parameters}
use Rattle.wg_grammar.specs.declared.fault.Field.{Field}
use Rattle.wg_grammar.specs.declared.fault.Field.TheVariants as field
use Rattle.wg_grammar.specs.declared.progress.Referenced.{Referenced}
use Rattle.wg_grammar.specs.SoFar.{value_or_0}
use Rattle.wg_grammar.specs.Refusal.{is_page, left_of, residual_of}
use Rattle.wg_grammar.specs.declared.progress.Tally.{Tally}
use Rattle.wg_grammar.specs.Tally.{missing_of}

abbrev pub given_length : Option Referenced → ℕ
given_length None = 0
given_length (Some r) = r.length

abbrev pub given_depth : Option Referenced → ℕ
given_depth None = 0
given_depth (Some r) = suc r.depth

-- the number, if it is a page
abbrev pub within : Parameters → Option ℕ → Option ℕ
within p o = if is_page p o then o else None

-- the number copied after one more block, which ends at end
abbrev pub copied_after : Tally → ℕ → ℕ
copied_after t end = if t.blocks % 2 == 0 then t.copied - (t.source - end) else t.copied + (t.source - end)

-- the numbers after one more value
unfoldable pub after_of : Tally → Option Referenced → Field → ℕ → Tally
after_of t given field.Outdegree v = record t { outdegree = Some v }
after_of t given field.Reference v =
    record t { reference = Some v; source = given_length given; copied = given_length given }
after_of t given field.BlockCount v = record t { block_count = Some v }
after_of t given field.Block v =
    record t {
      blocks = t.blocks + 1;
      blocks_sum = t.blocks_sum + block_at t.blocks v;
      copied = copied_after t (t.blocks_sum + block_at t.blocks v);
    }
after_of t given field.Copied v = record t { checked = true }
after_of t given field.IntervalCount v = record t { interval_count = Some v }
after_of t given field.Left v = record t { lefts = t.lefts + 1; last_left = value_or_0 (left_of t v) }
after_of t given field.Length v =
    record t {
      lengths = t.lengths + 1;
      last_length = v + t.params.interval;
      covered = t.covered + (v + t.params.interval);
    }
after_of t given field.Residual v =
    record t { residuals = t.residuals + 1; last_residual = value_or_0 (residual_of t v) }
after_of t given field.Record v = t

-- what is so of the numbers if a field is next
abbrev pub Due : Tally → Field → Type 0
Due t field.Outdegree = t.outdegree ≡ None
Due t field.Reference = t.reference ≡ None
Due t field.BlockCount = 0 < value_or_0 t.reference
Due t field.Block = t.blocks < value_or_0 t.block_count
Due t field.Copied = Unit {0}
Due t field.IntervalCount = Unit {0}
Due t field.Left = t.lefts < value_or_0 t.interval_count
Due t field.Length = t.lengths < t.lefts
Due t field.Residual = 0 < missing_of t
Due t field.Record = Unit {0}
