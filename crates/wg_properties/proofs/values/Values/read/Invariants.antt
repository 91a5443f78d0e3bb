use Rattle.std.proofs.Common.{◌≡◌, ◌+◌, ◌≤◌, length}
use Rattle.std.specs.List.{last_or, position_from}
use Rattle.wg_params.specs.declared.key.Key.{Key}
use Rattle.wg_num.specs.Lines.{lines_of}
use Rattle.wg_properties.specs.Pairs.{is_continued, first_continued, pairs_of, values_of, value_of}
use Rattle.wg_properties.specs.Values.{value_at}
use Rattle.wg_properties.specs.Words.{name_of}
use Rattle.wg_properties.proofs.values.Values.read.Given as goal

abbrev pub invariant-loop-rest : goal.invariant-loop-rest
invariant-loop-rest l =
    (l.number + length l.rest ≤ length l.fn.text)
    × (position_from is_continued (l.number + 1) (lines_of l.rest) ≡ first_continued (lines_of l.fn.text))
    × ((k : Key) → last_or (value_at l.values k) (values_of (name_of k) (pairs_of (lines_of l.rest))) ≡ value_of (name_of k) (pairs_of (lines_of l.fn.text)))

abbrev pub decreases-loop-rest : goal.decreases-loop-rest
decreases-loop-rest l = length l.rest
