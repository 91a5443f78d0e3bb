use Rattle.wg_grammar.proofs.OneGraph.{graph_one, graph_some}
use Rattle.wg_grammar.proofs.laws.one_graph.Goals as goal

pub returns-clause-one : goal.returns-clause-one
returns-clause-one c = λ p bits w x limits. graph_one p limits bits w x

pub returns-clause-some : goal.returns-clause-some
returns-clause-some c = λ p bits limits. graph_some p limits bits
