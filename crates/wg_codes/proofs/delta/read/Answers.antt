use Rattle.std.proofs.Common.{arith}
use Rattle.wg_codes.specs.Words.{gamma, delta}
use Rattle.wg_codes.proofs.Prefix.{rest_after}
use Rattle.wg_codes.proofs.Highest.{low_head_cut, low_head_none, low_cut, low_value, low_place}
use Rattle.wg_codes.proofs.delta.read.Goals as goal

pub returns-in-Cut-clause-found : goal.returns-in-Cut-clause-found
unfolding delta
returns-in-Cut-clause-found c = low_head_cut gamma 62 (omega arith) _ c.in-Cut.ensures.found

pub returns-in-NoWord-clause-found : goal.returns-in-NoWord-clause-found
unfolding delta
returns-in-NoWord-clause-found c = low_head_none gamma 62 (omega arith) _ c.in-NoWord.ensures.found

pub returns-in-None-clause-found : goal.returns-in-None-clause-found
unfolding delta
returns-in-None-clause-found c =
    low_cut gamma 62 (omega arith) _ _ _ c.in-Value.ensures.found.0
    (rest_after gamma 62 _ _ _ c.in-Value.ensures.found c.in-Value.ensures.moves) c.in-None.ensures.none.0

pub returns-in-Some-clause-found : goal.returns-in-Some-clause-found
unfolding delta
returns-in-Some-clause-found c =
    low_value gamma 62 (omega arith) _ _ _ _ _ c.in-Value.ensures.found.0
    (rest_after gamma 62 _ _ _ c.in-Value.ensures.found c.in-Value.ensures.moves) c.in-Some.ensures.some.0

pub returns-in-Some-clause-moves : goal.returns-in-Some-clause-moves
unfolding delta
returns-in-Some-clause-moves c =
    low_place gamma _ _ _ _ _ c.in-Value.ensures.moves c.in-Some.ensures.some.1 c.in-Some.ensures.some.0.index
