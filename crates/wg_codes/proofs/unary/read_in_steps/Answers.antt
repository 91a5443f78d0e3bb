use Rattle.std.proofs.Common.{arith}
use Rattle.wg_codes.proofs.UnaryWords.{unary_none, unary_cut, unary_value, unary_place}
use Rattle.wg_codes.proofs.unary.read_in_steps.Goals as goal

pub returns-then-zeros-most-clause-found : goal.returns-then-zeros-most-clause-found
returns-then-zeros-most-clause-found c = unary_none c.args.most c.zeros-zeros.result _ _ c.if-zeros-most.true c.zeros-zeros.ensures.zeros

pub returns-in-None-clause-found : goal.returns-in-None-clause-found
returns-in-None-clause-found c = unary_cut c.args.most c.zeros-zeros.result _ _ c.if-zeros-most.false c.zeros-zeros.ensures.zeros c.in-None.ensures.none.0

pub returns-in-Some-clause-found : goal.returns-in-Some-clause-found
returns-in-Some-clause-found c =
    unary_value c.args.most c.zeros-zeros.result _ _ _ _ c.if-zeros-most.false c.zeros-zeros.ensures.zeros
    (c.zeros-zeros.ensures.stops (omega arith)) c.in-Some.ensures.some.0

pub returns-in-Some-clause-moves : goal.returns-in-Some-clause-moves
returns-in-Some-clause-moves c = unary_place c.args.cursor.now _ _ c.zeros-zeros.result c.zeros-zeros.ensures.offset c.in-Some.ensures.some.1
