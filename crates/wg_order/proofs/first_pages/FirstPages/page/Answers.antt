use Rattle.std.proofs.Common.{arith, length, ap}
use Rattle.wg_order.proofs.Fronts.{first_below}
use Rattle.wg_order.proofs.first_pages.FirstPages.page.Goals as goal

pub returns-clause-within : goal.returns-clause-within
returns-clause-within c =
    first_below c.args.self.now.low c.args.self.now.high c.first.result.now c.first.ensures.front c.args.i (omega (arith, ap length c.first.ensures.value, c.requires))

pub overflow_cast-result : goal.overflow_cast-result
overflow_cast-result c =
    omega (
      arith,
      c.first.ensures.few,
      first_below c.args.self.now.low c.args.self.now.high c.first.result.now c.first.ensures.front c.args.i (omega (arith, ap length c.first.ensures.value, c.requires)),
    )
