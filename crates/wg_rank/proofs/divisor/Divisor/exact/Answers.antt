use Rattle.std.proofs.Common.{arith}
use Rattle.wg_rank.proofs.Quotients.{near_exact}
use Rattle.wg_rank.proofs.divisor.Divisor.exact.Goals as goal

pub returns : goal.returns
returns c =
    let s = c.args.self.now in
    near_exact c.args.value s.by s.inverse 9223372036854775808 s.some (omega (arith, c.requires)) s.inverted
