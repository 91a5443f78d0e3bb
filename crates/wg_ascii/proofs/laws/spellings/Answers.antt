use Rattle.wg_ascii.proofs.ReadBack.{spellings_agree}
use Rattle.wg_ascii.proofs.laws.spellings.Goals as goal

pub returns : goal.returns
returns c = spellings_agree
