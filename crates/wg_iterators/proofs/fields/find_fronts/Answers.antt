use Rattle.std.proofs.Common.{sym, ◌∙◌, arith}
use Rattle.wg_decoder.proofs.ProperLemmas.Beginning.{laid_parts}
use Rattle.wg_iterators.proofs.FrontLemmas.{standing_of, standing_behind}
use Rattle.wg_iterators.proofs.fields.find_fronts.Goals as goal

pub read_head-outdegree-requires : goal.read_head-outdegree-requires
read_head-outdegree-requires c = (c.args.page, c.requires.proper.0, c.requires.proper.1, c.requires.proper.2)

pub find_copied-mask-requires : goal.find_copied-mask-requires
find_copied-mask-requires c =
    let s = standing_of (omega (arith, c.nodes.ensures.within)) c.requires.proper.2 in
    let e = c.read_head-outdegree.ensures.head _ _ _ _ s.laid.outdegree_stands s.laid.reference_stands in
    (c.args.page, s, c.requires.proper.3, e.2)

pub overflow_sub-extra : goal.overflow_sub-extra
overflow_sub-extra c =
    let s = standing_of (omega (arith, c.nodes.ensures.within)) c.requires.proper.2 in
    let e = c.read_head-outdegree.ensures.head _ _ _ _ s.laid.outdegree_stands s.laid.reference_stands in
    let f = c.find_copied-mask.ensures _ s c.requires.proper.3 e.2 in
    omega (arith, e.0, f.1, s.laid.copied_fit)

pub find_inside-intervals-requires-clause-laid : goal.find_inside-intervals-requires-clause-laid
find_inside-intervals-requires-clause-laid c =
    let s = standing_of (omega (arith, c.nodes.ensures.within)) c.requires.proper.2 in
    let e = c.read_head-outdegree.ensures.head _ _ _ _ s.laid.outdegree_stands s.laid.reference_stands in
    let f = c.find_copied-mask.ensures _ s c.requires.proper.3 e.2 in
    (s, omega (arith, e.0, f.1), f.2)

pub overflow_sub-extra-2 : goal.overflow_sub-extra-2
overflow_sub-extra-2 c =
    let s = standing_of (omega (arith, c.nodes.ensures.within)) c.requires.proper.2 in
    let e = c.read_head-outdegree.ensures.head _ _ _ _ s.laid.outdegree_stands s.laid.reference_stands in
    let f = c.find_copied-mask.ensures _ s c.requires.proper.3 e.2 in
    let g = c.find_inside-intervals.ensures s (omega (arith, e.0, f.1)) f.2 in
    omega (arith, e.0, f.1, g.1, s.laid.inside_fit)

pub new-residuals-requires-clause-stand : goal.new-residuals-requires-clause-stand
new-residuals-requires-clause-stand c =
    let s = standing_of (omega (arith, c.nodes.ensures.within)) c.requires.proper.2 in
    let e = c.read_head-outdegree.ensures.head _ _ _ _ s.laid.outdegree_stands s.laid.reference_stands in
    let f = c.find_copied-mask.ensures _ s c.requires.proper.3 e.2 in
    let g = c.find_inside-intervals.ensures s (omega (arith, e.0, f.1)) f.2 in (
      s.laid.residuals,
      s.laid.behind,
      omega (arith, e.0, f.1, g.1, s.laid.residuals_fill),
      rw (c.residuals.ensures.value, ← g.2) s.laid.residuals_stand,
    )

pub returns-clause-fronts : goal.returns-clause-fronts
returns-clause-fronts c below list proper is up =
    let s = standing_of (omega (arith, c.nodes.ensures.within)) proper in
    let e = c.read_head-outdegree.ensures.head _ _ _ _ s.laid.outdegree_stands s.laid.reference_stands in
    let f = c.find_copied-mask.ensures _ s is e.2 in
    let g = c.find_inside-intervals.ensures s (omega (arith, e.0, f.1)) f.2 in
    let h = c.new-residuals.ensures.list s.laid.residuals s.laid.behind (omega (arith, e.0, f.1, g.1, s.laid.residuals_fill))
    (rw (c.residuals.ensures.value, ← g.2) s.laid.residuals_stand) in
    let parts = laid_parts _ _ _ _ _ up s.laid in
    record { outdegree = sym e.0 ∙ sym s.laid.all; apart = rw (f.0, g.0, h) parts.apart; union = rw (f.0, g.0, h) parts.union }

pub returns-clause-behind : goal.returns-clause-behind
returns-clause-behind c below list proper is =
    let s = standing_of (omega (arith, c.nodes.ensures.within)) proper in
    let e = c.read_head-outdegree.ensures.head _ _ _ _ s.laid.outdegree_stands s.laid.reference_stands in
    let f = c.find_copied-mask.ensures _ s is e.2 in
    let g = c.find_inside-intervals.ensures s (omega (arith, e.0, f.1)) f.2 in
    c.new-residuals.ensures.behind s.laid.residuals s.laid.behind (omega (arith, e.0, f.1, g.1, s.laid.residuals_fill))
    (rw (c.residuals.ensures.value, ← g.2) s.laid.residuals_stand) ∙ standing_behind _ proper
