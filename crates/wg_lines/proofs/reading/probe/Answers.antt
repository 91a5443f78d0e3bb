use Rattle.wg_outside.proofs.PieceLemmas.{probed}
use Rattle.wg_lines.proofs.ReadingLemmas.{readable}
use Rattle.wg_lines.proofs.reading.probe.Goals as goal

pub returns-then-branch-gt0-clause-refused : goal.returns-then-branch-gt0-clause-refused
returns-then-branch-gt0-clause-refused g c = λ t. probed _ c.read.new.buf c.in_ok-read.field-0 (c.in_ok-read.ensures.bytes t) c.if-branch-gt0.true

pub returns-clause-readable : goal.returns-clause-readable
returns-clause-readable g c = λ t. readable _ c.read.new.buf c.in_ok-read.field-0 (c.in_ok-read.ensures.bytes t) c.if-branch-gt0.false
