use Rattle.std.proofs.Common.{◌∷◌, ◌++◌, ◌∙◌, ℕ, decimal, ap, subst, sym, arith, length, length-drop}
use Rattle.std.proofs.lemmas.List.{take_rest}
use Rattle.wg_graph.specs.Ascending.{Ascends, Below}
use Rattle.wg_ascii.proofs.Written.{added, none_line, parted, written_line, written_more, written_none, written_order}
use Rattle.wg_ascii.proofs.plain.plain_list.Goals as goal

pub returns-in_err-first : goal.returns-in_err-first
returns-in_err-first c = rw c.from_residual.ensures record { line = tt; ascends = tt; below = tt; room = tt }

pub returns-then-first-eq10 : goal.returns-then-first-eq10
returns-then-first-eq10 c = record {
  line =
      none_line c.args.text.now c.in_ok-first.after.now c.clear.new.self c.in_ok-first.first.now
      c.in_ok-first.ensures.cases.0 c.if-first-eq10.true c.clear.ensures;
  ascends = subst (Ascends 0) (sym c.clear.ensures) tt;
  below = subst (Below c.args.n) (sym c.clear.ensures) tt;
  room = omega (arith, ap length c.clear.ensures, c.requires.arcs);
}

pub words-init : goal.words-init
words-init c = written_none c.args.n c.args.arcs c.args.text.now c.clear.new.self c.requires.arcs c.clear.ensures

pub returns-in_err-number : goal.returns-in_err-number
returns-in_err-number c =
    rw c.from_residual-in_err-number.ensures record { line = tt; ascends = tt; below = tt; room = tt }

pub returns-then-number-least : goal.returns-then-number-least
returns-then-number-least c = record { line = tt; ascends = tt; below = tt; room = tt }

pub returns-then-is_err : goal.returns-then-is_err
returns-then-is_err c = record { line = tt; ascends = tt; below = tt; room = tt }

pub slice_bounds-split_first-count : goal.slice_bounds-split_first-count
slice_bounds-split_first-count c = c.in_ok-number.ensures.within

pub returns-in_err-byte : goal.returns-in_err-byte
returns-in_err-byte c = rw c.from_residual-in_err-byte.ensures record { line = tt; ascends = tt; below = tt; room = tt }

pub returns-then-byte-eq10 : goal.returns-then-byte-eq10
returns-then-byte-eq10 c =
    let w = c.words in
    let rest = w.rest.now in
    let after = c.in_ok-byte.after.now in
    let v = c.in_ok-number.number in
    let new = c.push.new.self in
    let more = added c.push.result w.list new v c.push.ensures.ok c.if-is_err.ensures.value in
    let is =
    parted rest after c.in_ok-number.end v c.in_ok-byte.byte.now c.in_ok-number.ensures.digits
    c.in_ok-byte.ensures.cases.0 ∙ ap (λ (b : ℕ). decimal v ++ b ∷ after) c.if-byte-eq10.true in
    let order =
    written_order c.args.n c.args.arcs c.args.text.now rest w.list new w.least w.count v w.invariant more
    c.if-number-least.false c.if-n-number.false c.if-count-ge-MOST_ARCS.false in
    record {
      line =
          written_line c.args.n c.args.arcs c.args.text.now rest after w.list new w.least w.count v w.invariant is more;
      ascends = order.ascends;
      below = order.below;
      room = omega (arith, order.counted, order.room);
    }

pub returns-then-byte-ne32 : goal.returns-then-byte-ne32
returns-then-byte-ne32 c = record { line = tt; ascends = tt; below = tt; room = tt }

pub overflow_add-least : goal.overflow_add-least
overflow_add-least c = omega (arith, c.if-n-number.false, c.requires.pages)

pub overflow_add-count : goal.overflow_add-count
overflow_add-count c = omega (arith, c.if-count-ge-MOST_ARCS.false)

pub words-smaller : goal.words-smaller
words-smaller c =
    omega (arith, ap length (sym (take_rest c.words.rest.now c.in_ok-number.end) ∙ c.in_ok-byte.ensures.cases.0), length-drop c.in_ok-number.end c.words.rest.now)

pub words-preserved : goal.words-preserved
words-preserved c =
    let w = c.words in
    let rest = w.rest.now in
    let after = c.in_ok-byte.after.now in
    let v = c.in_ok-number.number in
    let new = c.push.new.self in
    let more = added c.push.result w.list new v c.push.ensures.ok c.if-is_err.ensures.value in
    let is =
    parted rest after c.in_ok-number.end v c.in_ok-byte.byte.now c.in_ok-number.ensures.digits
    c.in_ok-byte.ensures.cases.0 ∙ ap (λ (b : ℕ). decimal v ++ b ∷ after) c.if-byte-ne32.false in
    written_more c.args.n c.args.arcs c.args.text.now rest after w.list new w.least w.count v w.invariant is more
    c.if-number-least.false c.if-n-number.false c.if-count-ge-MOST_ARCS.false
