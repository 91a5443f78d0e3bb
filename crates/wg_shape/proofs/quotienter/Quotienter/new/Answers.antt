use Rattle.std.proofs.Common.{◌≤◌, ℕ, length, subst, arith}
use Rattle.std.proofs.lemmas.List.{with_items_is}
use Rattle.wg_params.specs.declared.limits.TheConstants.{MOST_ARCS}
use Rattle.wg_graph.specs.Ascending.{Below}
use Rattle.wg_transpose.specs.SoFar.{AreCounts, start}
use Rattle.wg_transpose.proofs.Held.{none_held}
use Rattle.wg_shape.specs.Classes.{AreClasses, classes_in, reached_by}
use Rattle.wg_shape.proofs.Fewer.{few_by_class}
use Rattle.wg_shape.proofs.quotienter.Quotienter.new.Goals as goal

pub invariant_of-result : goal.invariant_of-result
invariant_of-result g c =
    let graph = g.L.Lists.graph c.args.lists in
    let classes = c.args.classes.now in
    let n = length c.count.new.counts in
    let low : Below n classes = subst (λ (m : ℕ). Below m classes) (omega (arith, c.in_ok-counts.ensures.len)) c.requires.below in
    let ok : AreClasses (classes_in graph classes n) = record {
      proper = c.count.ensures.proper;
      each = c.requires.each;
      below = low;
      few = omega (arith, c.requires.few, c.in_ok-counts.ensures.len);
      few_pages = c.requires.few_pages;
      few_arcs = c.requires.few_arcs;
    } in
    let few : start (reached_by graph classes) n ≤ MOST_ARCS = omega (arith, c.requires.few_arcs, few_by_class graph c.count.ensures.proper classes n c.requires.each low) in
    rw (c.new.ensures, c.new-2.ensures, with_items_is c.in_ok-counts.counts c.count.new.counts (omega arith), c.count.ensures.graph)
    (record { classes = ok; held = none_held (reached_by graph classes) c.count.new.counts few (subst (λ (m : ℕ). AreCounts m (reached_by graph classes) c.count.new.counts) (omega arith) c.count.ensures.counted) })
