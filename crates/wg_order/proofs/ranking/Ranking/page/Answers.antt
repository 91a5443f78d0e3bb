use Rattle.std.proofs.Common.{arith, length}
use Rattle.wg_order.proofs.Orders.{pages_below}
use Rattle.wg_order.proofs.ranking.Ranking.page.Goals as goal

pub returns-clause-within : goal.returns-clause-within
returns-clause-within c =
    let r = c.ranked.ensures.ranking c.requires.filled in
    pages_below (length c.args.self.now.low) c.ranked.result.now r.all c.args.i 0 (omega arith)

pub overflow_cast-result : goal.overflow_cast-result
overflow_cast-result c =
    let r = c.ranked.ensures.ranking c.requires.filled in
    omega (arith, pages_below (length c.args.self.now.low) c.ranked.result.now r.all c.args.i 0 (omega arith))
