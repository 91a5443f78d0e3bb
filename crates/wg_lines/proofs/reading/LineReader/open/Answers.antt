use Rattle.std.proofs.Common.{refl}
use Rattle.wg_lines.proofs.LineLemmas.{all_after}
use Rattle.wg_lines.proofs.reading.LineReader.open.Goals as goal

pub returns-clause-all : goal.returns-clause-all
returns-clause-all g c = λ file. all_after file _ refl refl c.new.ensures.items
