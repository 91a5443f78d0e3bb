use Rattle.std.proofs.Common.{◌≤◌, ◌∙◌, ap, subst, sym}
use Rattle.wg_params.specs.declared.limits.TheConstants.{MOST_PAGES}
use Rattle.wg_graph.specs.Digraph.{Digraph, arc_count}
use Rattle.wg_grammar.specs.{Archive.Accepted, Laws.accepted_graph}
use Rattle.wg_bits.specs.Bits.{bits_of}
use Rattle.wg_grammar.proofs.ProperGraphs.{arcs_promised}
use Rattle.wg_readings.proofs.ReadingsLemmas.{goes_on}
use Rattle.wg_readings.proofs.archive.lists_of_records.Goals as goal

pub returns : goal.returns
returns c =
    let p = c.args.params.now in
    let bytes = c.args.bytes.now in
    let r = c.in_ok-found.ensures in
    let a : Accepted = record { graph = r.finds.0; places = c.in_ok-found.found.offsets } in
    let is = c.in_ok-with_room.ensures.graph a r.finds.1 in
    record {
      nodes = ap (λ (g : Digraph). g.nodes) is;
      few = subst (λ (g : Digraph). g.nodes ≤ MOST_PAGES) (sym is) r.limits.nodes;
      arcs = ap arc_count is ∙ arcs_promised p (bits_of bytes) a r.finds.1;
      goes = λ q next. goes_on q p r.limits bytes a.graph a.places r.finds.1 (λ x. next (accepted_graph p x)) ∙ ap next (sym is);
      refused = λ q. tt;
      only = tt;
    }
