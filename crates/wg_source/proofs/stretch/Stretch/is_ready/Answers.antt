use Rattle.std.proofs.Common.{rules}
use Rattle.wg_source.proofs.stretch.Stretch.is_ready.Goals as goal

pub returns-then-self-clause-ready : goal.returns-then-self-clause-ready
returns-then-self-clause-ready c = search rules
