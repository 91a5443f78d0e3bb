use Rattle.std.proofs.Common.{◌∙◌, ap}
use Rattle.wg_graph.specs.Digraph.{Digraph, arc_count}
use Rattle.wg_bits.specs.Bits.{bits_of}
use Rattle.wg_grammar.specs.Archive.{Accepted}
use Rattle.wg_grammar.proofs.ProperGraphs.{arcs_promised}
use Rattle.wg_memory.proofs.ranking.lists_of.Goals as goal

pub returns-in_ok-with_room-in-Ok : goal.returns-in_ok-with_room-in-Ok
returns-in_ok-with_room-in-Ok c =
    let f = c.in-Ok.ensures.finds in
    let a : Accepted = record { graph = f.0; places = c.in-Ok.found.offsets } in
    let is = c.in_ok-with_room-in-Ok.ensures.graph a f.1 in
    record {
      limits = c.nodes.ensures.limits;
      graph = (a, f.1, is);
      nodes = ap (λ (g : Digraph). g.nodes) is;
      arcs = ap arc_count is ∙ arcs_promised c.args.params (bits_of c.args.graph.now) a f.1;
      fault = tt;
      sound = tt;
    }
