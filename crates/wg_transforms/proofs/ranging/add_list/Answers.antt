use Rattle.std.proofs.Common.{◌∙◌, ℕ, take, sym, ap, subst, arith}
use Rattle.wg_params.specs.Parameters.{Parameters}
use Rattle.wg_graph.specs.Ascending.{Ascends, Below}
use Rattle.wg_encoder.specs.ArchiveInMemory.{HasEncoded}
use Rattle.wg_transpose.proofs.{InOrder.one_list_more, InOrder.list_fits, Reversed.list_ascends, Reversed.list_below}
use Rattle.wg_transforms.proofs.ranging.add_list.Goals as goal

pub add-requires-clause-list : goal.add-requires-clause-list
add-requires-clause-list c =
    let g = c.requires.0 in
    let n = c.requires.1 in
    record {
      ascends = subst (Ascends 0) (sym n.is) (list_ascends g n.proper c.args.encoder.page n.page);
      below = subst (λ (m : ℕ). Below m c.args.list.now) (sym n.so_far.nodes) (subst (Below g.nodes) (sym n.is) (list_below g n.proper c.args.encoder.page n.page));
    }

pub add-requires-clause-arcs : goal.add-requires-clause-arcs
add-requires-clause-arcs c =
    let n = c.requires.1 in
    omega (arith, n.so_far.encoded.arcs, n.so_far.most, list_fits c.requires.0 n.proper c.args.encoder.page n.page c.args.list.now n.is, n.few)

pub returns-clause-so_far : goal.returns-clause-so_far
returns-clause-so_far c = λ g n.
    let e = c.in_ok-added.ensures in
    record {
      nodes = ap (λ (p : Parameters). p.nodes) e.params ∙ n.so_far.nodes;
      most = ap (λ (p : Parameters). p.arcs) e.params ∙ n.so_far.most;
      encoded =
          subst (HasEncoded c.in_ok-added.added)
          (one_list_more g n.proper c.args.encoder.page n.page c.args.list.now n.is ∙ ap (λ (k : ℕ). take k g.lists) (sym e.page))
          (e.encoded _ n.so_far.encoded);
    }
