use Rattle.std.proofs.Common.{arith, length}
use Rattle.wg_order.proofs.Orders.{range_from}
use Rattle.wg_order.proofs.arranging.number.Goals as goal

pub returns : goal.returns
returns c = range_from c.loop-v.pages (length c.args.pages.now) (omega arith) (λ k w. c.loop-v.invariant k (omega arith))
