use Rattle.std.proofs.Common.{subst}
use Rattle.wg_marks.specs.Spans.{IsWithoutRows}
use Rattle.wg_marks.proofs.extras.may_have_rows.Goals as goal

pub returns : goal.returns
returns c referenced same none = subst IsWithoutRows (c.others.ensures.left referenced same) (c.has_spans.ensures none)
