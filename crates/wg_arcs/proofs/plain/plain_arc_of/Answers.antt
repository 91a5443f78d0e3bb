use Rattle.std.proofs.Common.{◌-◌, drop, length, refl, take}
use Rattle.wg_arcs.proofs.LineLemmas.{after_number, after_start, plain_text}
use Rattle.wg_arcs.proofs.plain.plain_arc_of.Goals as goal

pub returns-in_err-to : goal.returns-in_err-to
returns-in_err-to c = rw c.from_residual.ensures record { line = tt; low = tt }

pub returns-in_err-rest : goal.returns-in_err-rest
returns-in_err-rest c = rw c.from_residual-in_err-rest.ensures record { line = tt; low = tt }

pub slice_bounds-second-count : goal.slice_bounds-second-count
slice_bounds-second-count c = c.if-not-begins_with.ensures.within refl

pub slice_bounds-after-count : goal.slice_bounds-after-count
slice_bounds-after-count c = c.in_ok-to.ensures.within

pub returns-clause-line : goal.returns-clause-line
returns-clause-line c =
    let text = c.args.text.now in
    let start = c.args.start.now in
    let second = take (length text - length start) (drop (length start) text) in
    let rest = c.in_ok-rest.rest.now in
    plain_text c.args.page c.in_ok-to.to text second rest
    (after_start c.args.page text start c.requires (c.if-not-begins_with.ensures.front refl))
    (after_number second rest _ c.in_ok-to.to_end 10 c.in_ok-to.ensures.digits c.in_ok-rest.ensures)
