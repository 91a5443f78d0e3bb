use Rattle.wg_arcs.proofs.ReadBack.{read_back}
use Rattle.wg_arcs.proofs.laws.texts_read_back.Goals as goal

pub returns : goal.returns
returns c = read_back
