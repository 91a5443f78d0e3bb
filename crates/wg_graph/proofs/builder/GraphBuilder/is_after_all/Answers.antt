use Rattle.std.proofs.Common.{◌≡◌, ap, sym, ◌∙◌, arith}
use Rattle.wg_graph.specs.Digraph.{Digraph, successors}
use Rattle.wg_graph.specs.Pieces.{cut}
use Rattle.wg_graph.proofs.Growth.{after_where, after_not}
use Rattle.wg_graph.proofs.builder.GraphBuilder.is_after_all.Goals as goal

pub returns-then-x-begun-clause-value : goal.returns-then-x-begun-clause-value
returns-then-x-begun-clause-value c = rw (← c.self.view_is) (after_not c.self.inside.nodes c.self.inside.ends.items c.self.inside.all.items c.args.x c.args.v (omega arith))

pub returns-clause-value : goal.returns-clause-value
returns-clause-value c =
    let list_is : c.list_so_far.result.now ≡ successors (cut c.self.inside.nodes c.self.inside.ends.items c.self.inside.all.items) c.args.x = c.list_so_far.ensures.value ∙ ap (λ (g : Digraph). successors g c.args.x) (sym c.self.view_is) in
    rw (← c.self.view_is) (after_where c.self.inside.nodes c.self.inside.ends.items c.self.inside.all.items c.args.x c.args.v c.list_so_far.result.now c.is_past.result (omega arith) list_is c.is_past.ensures)

pub overflow_add-x : goal.overflow_add-x
overflow_add-x c = let few = c.self.invariant.prefix.few_pages in let lt = rw (← c.self.view_is) at c.requires in omega (arith, few, lt)
