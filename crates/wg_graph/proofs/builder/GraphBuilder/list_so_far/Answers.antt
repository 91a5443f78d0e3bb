use Rattle.std.proofs.Common.{[], sym, arith}
use Rattle.std.proofs.lemmas.List.{get_or_past}
use Rattle.wg_graph.specs.Pieces.{pieces}
use Rattle.wg_graph.proofs.Growth.{begun_count}
use Rattle.wg_graph.proofs.builder.GraphBuilder.list_so_far.Goals as goal

pub returns-else-x-len-clause-value : goal.returns-else-x-len-clause-value
returns-else-x-len-clause-value c = rw (← c.self.view_is) (sym (get_or_past (pieces 0 c.self.inside.ends.items c.self.inside.all.items) c.args.x [] (omega (arith, begun_count c.self.inside.nodes c.self.inside.ends.items c.self.inside.all.items))))
