use Rattle.wg_laws.proofs.ImportLemmas.{imports_accepted}
use Rattle.wg_laws.proofs.laws.imported_archives.Goals as goal

pub returns : goal.returns
returns c = imports_accepted
