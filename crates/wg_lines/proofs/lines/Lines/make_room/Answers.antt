use Rattle.wg_lines.proofs.PrintLemmas.{prints_of_puts}
use Rattle.wg_lines.proofs.lines.Lines.make_room.Goals as goal

pub returns-clause-prints : goal.returns-clause-prints
returns-clause-prints g c t = prints_of_puts _ _ c.args.self.now c.flush.new.self c.flush.result c.flush.ensures.empty (c.flush.ensures.puts t)
