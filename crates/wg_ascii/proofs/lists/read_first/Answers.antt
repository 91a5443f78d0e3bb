use Rattle.std.proofs.Common.{arith}
use Rattle.wg_ascii.proofs.Written.{written_list}
use Rattle.wg_ascii.proofs.lists.read_first.Goals as goal

pub returns-in-Some-clause-list : goal.returns-in-Some-clause-list
returns-in-Some-clause-list c =
    let small = c.requires.pages in
    let e = c.in-Some.ensures in
    written_list c.args.n c.args.arcs c.args.bytes.now c.in-Some.after.now c.plain_list.new.list (omega arith) e.line e.ascends e.below e.room
