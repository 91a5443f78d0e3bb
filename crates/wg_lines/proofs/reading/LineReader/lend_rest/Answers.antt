use Rattle.std.proofs.Common.{arith}
use Rattle.wg_lines.proofs.HoldLemmas.{one_line, unlent}
use Rattle.wg_lines.proofs.reading.LineReader.lend_rest.Goals as goal

pub invariant_of-self : goal.invariant_of-self
invariant_of-self c =
    let r = c.self.inside in
    let i = c.self.invariant in (
      omega (arith, c.len-self-inside.ensures),
      omega (arith, i.1),
      one_line r.first c.len-self-inside.result r.bytes.items (unlent _ _ _ _ c.self.view_is c.requires i.2),
    )
