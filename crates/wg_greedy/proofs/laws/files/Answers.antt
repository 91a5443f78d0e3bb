use Rattle.wg_greedy.proofs.Bytes.{graph_again, offsets_again}
use Rattle.wg_greedy.proofs.laws.files.Goals as goal

pub returns : goal.returns
returns c = λ p lists. (graph_again p lists, offsets_again p lists)
