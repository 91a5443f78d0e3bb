use Rattle.wg_properties.proofs.Readback.{read_again}
use Rattle.wg_properties.proofs.Fronts.{front_refused}
use Rattle.wg_properties.proofs.ShortTexts.{text_short}
use Rattle.wg_properties.proofs.laws.written_texts.Goals as goal

pub returns : goal.returns
returns c = record { back = read_again; prefixes = front_refused; short = text_short }
