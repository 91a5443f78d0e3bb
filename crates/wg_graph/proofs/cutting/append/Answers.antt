use Rattle.std.proofs.Common.{arith}
use Rattle.wg_graph.proofs.Growth.{append_is}
use Rattle.wg_graph.proofs.cutting.append.Goals as goal

pub returns-in-Ok-clause-whole : goal.returns-in-Ok-clause-whole
returns-in-Ok-clause-whole c =
    (append_is c.args.ends.now.items c.args.all.now.items c.args.list.now c.push.new.self.items c.extend_from_slice.new.self.items c.len.result c.requires.whole c.in_ok-extend_from_slice.ensures.items (omega arith) c.in-Ok.ensures.items).0

pub returns-in-Ok-clause-ok : goal.returns-in-Ok-clause-ok
returns-in-Ok-clause-ok c =
    (append_is c.args.ends.now.items c.args.all.now.items c.args.list.now c.push.new.self.items c.extend_from_slice.new.self.items c.len.result c.requires.whole c.in_ok-extend_from_slice.ensures.items (omega arith) c.in-Ok.ensures.items).1
