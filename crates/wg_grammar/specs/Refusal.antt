-- What is allowed in each field.
use Rattle.std.specs.Prelude.{ℕ, ◌+◌, ◌*◌, min, Bool, false, ◌||◌, nat_lt, if◌then◌else◌, Option, Some, None}
use Rattle.wg_codes.specs.declared.outcome.Read.{Read}
use Rattle.wg_codes.specs.declared.outcome.Read.TheVariants as reads
use Rattle.wg_graph.specs.Copied.{block_at}
use Rattle.wg_params.specs.Parameters.{Parameters}
use Rattle.wg_grammar.specs.declared.fault.Field.{Field}
use Rattle.wg_grammar.specs.declared.fault.Field.TheVariants as field
use Rattle.wg_grammar.specs.declared.fault.Kind.{Kind}
use Rattle.wg_grammar.specs.declared.fault.Kind.TheVariants as kind
use Rattle.wg_grammar.specs.Context.{Context, depth_of}
use Rattle.wg_grammar.specs.SoFar.{SoFar, value_or_0, own_number}
use Rattle.wg_grammar.specs.declared.progress.Tally.{Tally}
use Rattle.wg_grammar.specs.Tally.{tally, extra_of, missing_of}

-- whether the number is a page of the archive
abbrev pub is_page : Parameters → Option ℕ → Bool
is_page p None = false
is_page p (Some y) = nat_lt y p.nodes

-- whether a depth passes the limit, if there is one
abbrev pub passes : Option ℕ → ℕ → Bool
passes None depth = false
passes (Some limit) depth = nat_lt limit depth

-- the number that a left end or a residual stands for
abbrev pub left_of : Tally → ℕ → Option ℕ
left_of t v = own_number t.page t.lefts (t.last_left + t.last_length) v

abbrev pub residual_of : Tally → ℕ → Option ℕ
residual_of t v = own_number t.page t.residuals t.last_residual v

-- The first reason to refuse a stored value, if there is one. With a reference comes the depth that it leads to.
abbrev pub refusal_of : Tally → ℕ → Field → ℕ → Option Kind
refusal_of t depth field.Outdegree v =
    if nat_lt t.params.nodes v then Some kind.Range else if nat_lt t.params.arcs (t.arcs_before + v)
    then Some kind.Total else None
refusal_of t depth field.Reference v =
    if nat_lt (min t.params.window t.page) v then Some kind.Range else if passes t.params.chain depth
    then Some kind.Chain else None
refusal_of t depth field.BlockCount v = if nat_lt (t.source + 1) v then Some kind.Range else None
refusal_of t depth field.Block v = if nat_lt t.source (t.blocks_sum + block_at t.blocks v) then Some kind.Range
    else None
refusal_of t depth field.Copied v = if nat_lt (value_or_0 t.outdegree) t.copied then Some kind.Copied else None
refusal_of t depth field.IntervalCount v = if nat_lt (extra_of t) (v * t.params.interval) then Some kind.Range else None
refusal_of t depth field.Left v = if is_page t.params (left_of t v) then None else Some kind.Range
refusal_of t depth field.Length v =
    if nat_lt (missing_of t) (v + t.params.interval) || nat_lt t.params.nodes (t.last_left + v + t.params.interval)
    then Some kind.Range else None
refusal_of t depth field.Residual v = if is_page t.params (residual_of t v) then None else Some kind.Range
refusal_of t depth field.Record v = None

-- after what has been read of a record
unfoldable pub refusal : Parameters → Context → SoFar → Field → ℕ → Option Kind
refusal p c s f v = refusal_of (tally p c s) (depth_of c.behind v) f v

-- what stands at a field's first bit, validated
abbrev pub judged : Parameters → Context → SoFar → Field → Read → Option Kind
judged p c s f (reads.Value v) = refusal p c s f v
judged p c s f reads.Cut = Some kind.Cut
judged p c s f reads.NoWord = Some kind.NoWord
