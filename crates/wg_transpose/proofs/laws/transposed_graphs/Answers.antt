use Rattle.wg_transpose.proofs.Reversed.{are_reversed, is_proper, gives_back, is_one}
use Rattle.wg_transpose.proofs.Totals.{as_many}
use Rattle.wg_transpose.proofs.Held.{are_few}
use Rattle.wg_transpose.proofs.laws.transposed_graphs.Goals as goal

pub returns : goal.returns
returns c = record {
  reversed = are_reversed;
  proper = is_proper;
  arcs = as_many;
  twice = gives_back;
  one = is_one;
  ranges = are_few;
}
