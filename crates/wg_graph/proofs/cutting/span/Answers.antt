use Rattle.std.proofs.Common.{length, arith}
use Rattle.wg_graph.proofs.Ends.{end_le, before_le}
use Rattle.wg_graph.proofs.cutting.span.Goals as goal

pub returns-then-x-eq0-clause-within : goal.returns-then-x-eq0-clause-within
returns-then-x-eq0-clause-within c = end_le 0 (length c.args.all.now) c.args.ends.now c.args.x c.requires.whole c.requires.there

pub returns-clause-ordered : goal.returns-clause-ordered
returns-clause-ordered c = before_le 0 (length c.args.all.now) c.args.ends.now c.args.x c.requires.whole (omega arith) c.requires.there

pub returns-clause-within : goal.returns-clause-within
returns-clause-within c = end_le 0 (length c.args.all.now) c.args.ends.now c.args.x c.requires.whole c.requires.there
