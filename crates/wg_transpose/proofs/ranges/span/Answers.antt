use Rattle.std.proofs.Common.{◌-◌, get_or, arith}
use Rattle.wg_transpose.proofs.Held.{begins_first, begins_next, list_within, list_ordered, list_there}
use Rattle.wg_transpose.proofs.ranges.span.Goals as goal

pub returns-then-list-from-clause-within : goal.returns-then-list-from-clause-within
returns-then-list-from-clause-within c = let h = c.requires.holds in list_within h.0 h.1 c.args.from h.2 c.args.ends.now c.args.all.now h.3 c.args.list c.requires.from h.4

pub returns-then-list-from-clause-list : goal.returns-then-list-from-clause-list
returns-then-list-from-clause-list c n lists to h high =
    list_there n lists c.args.from to c.args.ends.now c.args.all.now h c.args.list c.requires.from high 0
    (begins_first n lists c.args.from to c.args.ends.now c.args.all.now h c.args.list c.requires.from high (omega arith))

pub returns-clause-ordered : goal.returns-clause-ordered
returns-clause-ordered c =
    let h = c.requires.holds in
    let next = begins_next h.0 h.1 c.args.from h.2 c.args.ends.now c.args.all.now h.3 c.args.list c.requires.from h.4 (omega arith) in
    list_ordered h.0 h.1 c.args.from h.2 c.args.ends.now c.args.all.now h.3 c.args.list c.requires.from h.4 (get_or c.args.ends.now (c.args.list - 1) 0) next

pub returns-clause-within : goal.returns-clause-within
returns-clause-within c = let h = c.requires.holds in list_within h.0 h.1 c.args.from h.2 c.args.ends.now c.args.all.now h.3 c.args.list c.requires.from h.4

pub returns-clause-list : goal.returns-clause-list
returns-clause-list c n lists to h high =
    let next = begins_next n lists c.args.from to c.args.ends.now c.args.all.now h c.args.list c.requires.from high (omega arith) in
    list_there n lists c.args.from to c.args.ends.now c.args.all.now h c.args.list c.requires.from high (get_or c.args.ends.now (c.args.list - 1) 0) next
