use Rattle.std.proofs.Common.{◌≡◌, ◌≤◌, ◌∙◌, ap, subst, sym, arith}
use Rattle.wg_outside.proofs.PutsLemmas.{is_that_err}
use Rattle.wg_params.specs.declared.limits.TheConstants.{MOST_PAGES}
use Rattle.wg_graph.specs.Digraph.{Digraph, arc_count}
use Rattle.wg_bits.specs.Bits.{bits_of}
use Rattle.wg_grammar.specs.Laws.{accepted_graph}
use Rattle.wg_grammar.proofs.ProperGraphs.{arcs_promised}
use Rattle.wg_readings.proofs.ReadingsLemmas.{goes_on}
use Rattle.wg_transpose.specs.{Transposed.predecessors, SoFar.AreCounts}
use Rattle.wg_transforms.proofs.transposing.counted_ranges.Goals as goal

pub returns-in_err-found-clause-ends : goal.returns-in_err-found-clause-ends
returns-in_err-found-clause-ends c =
    let e = c.in_err-found.ensures in
    rw (is_that_err c.from_residual.result _ c.from_residual.ensures.1) (record { refused = λ q next. e.refused q (λ a. next (accepted_graph c.args.params.now a)); only = e.only })

pub with_room-requires-clause-finds : goal.with_room-requires-clause-finds
with_room-requires-clause-finds c = let f = c.in_ok-found.ensures.finds in (f.accepted.places, (f.accepted.graph, f.reads, f.greatest_is))

pub with_counts-requires : goal.with_counts-requires
with_counts-requires c =
    let p = c.args.params.now in
    let r = c.in_ok-found.ensures in
    let f = r.finds in
    let is : c.in_ok-lists.lists.graph ≡ accepted_graph p f.accepted = c.in_ok-lists.ensures.graph f.accepted f.reads in
    record {
      few_pages = subst (λ (g : Digraph). g.nodes ≤ MOST_PAGES) (sym is) r.limits.nodes;
      few_arcs = omega (arith, ap arc_count is, arcs_promised p (bits_of c.args.bytes.now) f.accepted f.reads, r.limits.arcs);
      counted = subst (λ (g : Digraph). AreCounts g.nodes (predecessors g) c.in_ok-found.found.counts.items) (sym is) f.counted;
    }

pub returns-clause-goes : goal.returns-clause-goes
returns-clause-goes c =
    let p = c.args.params.now in
    let r = c.in_ok-found.ensures in
    let f = r.finds in
    let is = c.with_counts.ensures.graph ∙ c.in_ok-lists.ensures.graph f.accepted f.reads in
    record {
      none = c.with_counts.ensures.to;
      nodes = ap (λ (g : Digraph). g.nodes) is;
      goes = λ q next. goes_on q p r.limits c.args.bytes.now f.accepted.graph f.accepted.places f.reads (λ x. next (accepted_graph p x)) ∙ ap next (sym is);
    }
