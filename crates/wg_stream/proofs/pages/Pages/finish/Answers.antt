use Rattle.std.proofs.Common.{rules}
use Rattle.wg_stream.proofs.pages.Pages.finish.Goals as goal

pub returns-clause-total : goal.returns-clause-total
returns-clause-total g c = search rules

pub returns-clause-reads : goal.returns-clause-reads
returns-clause-reads g c = search rules
