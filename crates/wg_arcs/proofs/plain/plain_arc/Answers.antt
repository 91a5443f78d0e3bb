use Rattle.wg_arcs.proofs.LineLemmas.{after_number, plain_text}
use Rattle.wg_arcs.proofs.plain.plain_arc.Goals as goal

pub returns-in_err-from : goal.returns-in_err-from
returns-in_err-from c = rw c.from_residual.ensures record { line = tt; low = tt }

pub returns-in_err-second : goal.returns-in_err-second
returns-in_err-second c = rw c.from_residual-in_err-second.ensures record { line = tt; low = tt }

pub returns-in_err-to : goal.returns-in_err-to
returns-in_err-to c = rw c.from_residual-in_err-to.ensures record { line = tt; low = tt }

pub returns-in_err-rest : goal.returns-in_err-rest
returns-in_err-rest c = rw c.from_residual-in_err-rest.ensures record { line = tt; low = tt }

pub slice_bounds-after-count : goal.slice_bounds-after-count
slice_bounds-after-count c = c.in_ok-from.ensures.within

pub slice_bounds-after-count-2 : goal.slice_bounds-after-count-2
slice_bounds-after-count-2 c = c.in_ok-to.ensures.within

pub returns-clause-line : goal.returns-clause-line
returns-clause-line c =
    let text = c.args.text.now in
    let second = c.in_ok-second.second.now in
    let rest = c.in_ok-rest.rest.now in
    let from = c.in_ok-from.from in
    let to = c.in_ok-to.to in
    plain_text from to text second rest
    (after_number text second _ c.in_ok-from.from_end 32 c.in_ok-from.ensures.digits
    c.in_ok-second.ensures)
    (after_number second rest _ c.in_ok-to.to_end 10 c.in_ok-to.ensures.digits c.in_ok-rest.ensures)
