use Rattle.wg_grammar.proofs.ProperGraphs.{graph_proper, arcs_promised, offsets_all}
use Rattle.wg_grammar.proofs.laws.graphs_are_proper.Goals as goal

pub returns : goal.returns
returns c = record { proper = graph_proper; arcs = arcs_promised; offsets = offsets_all }
