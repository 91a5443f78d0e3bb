-- Which field comes next, and in which code.
use Rattle.std.specs.Prelude.{not, ◌&&◌, ◌==◌, nat_lt, if◌then◌else◌, is_none}
use Rattle.wg_params.specs.Parameters.{Parameters}
use Rattle.wg_params.specs.declared.code.Code.TheVariants.{Gamma}
use Rattle.wg_grammar.specs.declared.fault.Field.TheVariants as field
use Rattle.wg_grammar.specs.declared.need.Need.{Need}
use Rattle.wg_grammar.specs.declared.need.Need.TheVariants as need
use Rattle.wg_grammar.specs.Context.{Context}
use Rattle.wg_grammar.specs.SoFar.{SoFar, value_or_0}
use Rattle.wg_grammar.specs.declared.progress.Tally.{Tally}
use Rattle.wg_grammar.specs.Tally.{tally, extra_of, missing_of}

-- The outdegree comes first, and a page without successors has nothing more. A reference comes if the archive has a
-- window; if it is not 0, the block count, the blocks, and then the check of what is copied. An interval count comes
-- if some successors are not copied and the archive has intervals; then each interval's left end and length.
-- Residuals come while some are missing.
abbrev pub need_of : Tally → Need
need_of t =
    if is_none t.outdegree then need.Read field.Outdegree t.params.outdegrees
    else if value_or_0 t.outdegree == 0 then need.End
    else if nat_lt 0 t.params.window && is_none t.reference then need.Read field.Reference t.params.references
    else if nat_lt 0 (value_or_0 t.reference) && is_none t.block_count
    then need.Read field.BlockCount t.params.block_counts
    else if nat_lt t.blocks (value_or_0 t.block_count) then need.Read field.Block t.params.blocks
    else if nat_lt 0 (value_or_0 t.reference) && not t.checked then need.Check
    else if nat_lt 0 (extra_of t) && nat_lt 0 t.params.interval && is_none t.interval_count
    then need.Read field.IntervalCount Gamma
    else if nat_lt t.lengths t.lefts then need.Read field.Length Gamma
    else if nat_lt t.lefts (value_or_0 t.interval_count) then need.Read field.Left Gamma
    else if nat_lt 0 (missing_of t) then need.Read field.Residual t.params.residuals
    else need.End

-- after what has been read of a record
unfoldable pub next : Parameters → Context → SoFar → Need
next p c s = need_of (tally p c s)
