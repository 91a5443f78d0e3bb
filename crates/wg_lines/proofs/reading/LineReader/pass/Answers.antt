use Rattle.std.proofs.Common.{◌+◌, sym, subst, ap, length, arith, length-drop}
use Rattle.wg_lines.specs.Reading.{IsUnended}
use Rattle.wg_lines.proofs.HoldLemmas.{one_line}
use Rattle.wg_lines.proofs.reading.LineReader.pass.Goals as goal

pub invariant_of-self : goal.invariant_of-self
invariant_of-self c =
    let r = c.self.inside in
    let i = c.self.invariant in (
      omega arith,
      omega (arith, ap length c.drop_front.ensures, length-drop r.whole r.bytes.items, i.0, i.1),
      one_line (r.first + r.whole) 0 c.drop_front.new.bytes.items (subst IsUnended (sym c.drop_front.ensures) i.2.rest),
    )
