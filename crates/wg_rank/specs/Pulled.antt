-- The graph that rounds go along.
use Rattle.wg_graph.specs.Digraph.{Digraph}
use Rattle.wg_rank.specs.declared.pulled.Pulled.{Pulled}
use Rattle.wg_rank.specs.declared.pulled.Pulled.TheVariants as pulled

-- that of the runs, or of the lists
abbrev pub pulled_graph : Pulled → Digraph
pulled_graph (pulled.Runs p) = p.graph
pulled_graph (pulled.InLists p) = p.graph
