use Rattle.wg_ascii.proofs.ReadBack.{read_back}
use Rattle.wg_ascii.proofs.laws.texts_read_back.Goals as goal

pub returns : goal.returns
returns c = read_back
