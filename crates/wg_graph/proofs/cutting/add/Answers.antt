use Rattle.std.proofs.Common.{length, arith, ◌≡◌, ◌∙◌}
use Rattle.std.proofs.lemmas.List.{get_or_read}
use Rattle.wg_graph.proofs.Ends.{end_le}
use Rattle.wg_graph.proofs.Growth.{add_is}
use Rattle.wg_graph.proofs.cutting.add.Goals as goal

pub returns-in-Ok-clause-whole : goal.returns-in-Ok-clause-whole
returns-in-Ok-clause-whole c =
    (add_is c.args.ends.now.items c.args.all.now.items c.as_slice.result.now c.pad.new.ends.items c.push.new.self.items c.args.x c.args.v c.index_mut.result.now c.as_slice.ensures.value c.in_ok-pad.ensures.whole c.in_ok-pad.ensures.ok c.in_ok-pad.ensures.count c.index_mut.ensures.value c.in-Ok.ensures.items).0

pub returns-in-Ok-clause-ok : goal.returns-in-Ok-clause-ok
returns-in-Ok-clause-ok c =
    (add_is c.args.ends.now.items c.args.all.now.items c.as_slice.result.now c.pad.new.ends.items c.push.new.self.items c.args.x c.args.v c.index_mut.result.now c.as_slice.ensures.value c.in_ok-pad.ensures.whole c.in_ok-pad.ensures.ok c.in_ok-pad.ensures.count c.index_mut.ensures.value c.in-Ok.ensures.items).1

pub overflow_add-index_mut : goal.overflow_add-index_mut
overflow_add-index_mut c =
    let count = c.in_ok-pad.ensures.count in
    let read = get_or_read c.pad.new.ends.items c.args.x c.index_mut.result.now (omega arith) c.index_mut.ensures.value 0 in
    omega (arith, end_le 0 (length c.as_slice.result.now) c.pad.new.ends.items c.args.x c.in_ok-pad.ensures.whole (omega arith))

pub returns-in-Err-clause-err_ends : goal.returns-in-Err-clause-err_ends
returns-in-Err-clause-err_ends c = let begun : c.len-begun.result ≡ length c.args.ends.now.items = omega arith in c.truncate.ensures.items ∙ rw begun c.in_ok-pad.ensures.prefix
