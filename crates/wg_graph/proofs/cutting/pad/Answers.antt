use Rattle.std.proofs.Common.{vec_len, arith}
use Rattle.wg_graph.proofs.Growth.{pad_is}
use Rattle.wg_graph.proofs.cutting.pad.Goals as goal

pub returns-clause-whole : goal.returns-clause-whole
returns-clause-whole c = (pad_is c.args.ends.now.items c.args.all.now c.resize.new.self.items c.args.n (vec_len c.args.ends.now) c.requires.whole c.requires.more (omega arith) c.in_ok-resize.ensures.items).0

pub returns-clause-ok : goal.returns-clause-ok
returns-clause-ok c = (pad_is c.args.ends.now.items c.args.all.now c.resize.new.self.items c.args.n (vec_len c.args.ends.now) c.requires.whole c.requires.more (omega arith) c.in_ok-resize.ensures.items).1

pub returns-clause-prefix : goal.returns-clause-prefix
returns-clause-prefix c = (pad_is c.args.ends.now.items c.args.all.now c.resize.new.self.items c.args.n (vec_len c.args.ends.now) c.requires.whole c.requires.more (omega arith) c.in_ok-resize.ensures.items).2
