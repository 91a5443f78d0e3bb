use Rattle.std.proofs.Common.{◌≡◌, ◌++◌, drop}
use Rattle.std.specs.Prelude.{None}
use Rattle.wg_greedy.specs.Fields.{residual_fields}
use Rattle.wg_encoder.proofs.parts.add_residuals.Given as goal

abbrev pub invariant-loop-y : goal.invariant-loop-y
invariant-loop-y l = record { all : l.fields ++ residual_fields l.code l.page l.last (drop l.y-index l.residuals) ≡ l.fn.fields ++ residual_fields l.code l.page None l.residuals }
