use Rattle.std.proofs.Common.{inl}
use Rattle.wg_outcomes.proofs.outputs.output_ending.Goals as goal

pub returns-in-Failed-clause-only : goal.returns-in-Failed-clause-only
returns-in-Failed-clause-only c = inl c.of.ensures.status
