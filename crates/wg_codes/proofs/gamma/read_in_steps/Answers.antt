use Rattle.wg_codes.specs.Words.{unary, gamma}
use Rattle.wg_codes.proofs.Prefix.{rest_after, restored}
use Rattle.wg_codes.proofs.Highest.{low_head_cut, low_head_none, low_cut, low_value, low_place}
use Rattle.wg_codes.proofs.gamma.read_in_steps.Goals as goal

pub returns-in-Cut-clause-found : goal.returns-in-Cut-clause-found
unfolding gamma
returns-in-Cut-clause-found c = low_head_cut unary c.args.most c.requires _ c.in-Cut.ensures.found

pub returns-in-NoWord-clause-found : goal.returns-in-NoWord-clause-found
unfolding gamma
returns-in-NoWord-clause-found c = low_head_none unary c.args.most c.requires _ c.in-NoWord.ensures.found

pub returns-in-None-clause-found : goal.returns-in-None-clause-found
unfolding gamma
returns-in-None-clause-found c =
    low_cut unary c.args.most c.requires _ _ _ c.in-Value.ensures.found.0
    (rest_after unary c.args.most _ _ _ c.in-Value.ensures.found c.in-Value.ensures.moves) c.in-None.ensures.none.0

pub returns-in-Some-clause-found : goal.returns-in-Some-clause-found
unfolding gamma
returns-in-Some-clause-found c =
    low_value unary c.args.most c.requires _ _ _ _ _ c.in-Value.ensures.found.0
    (rest_after unary c.args.most _ _ _ c.in-Value.ensures.found c.in-Value.ensures.moves) c.in-Some.ensures.some.0

pub returns-in-Some-clause-moves : goal.returns-in-Some-clause-moves
unfolding gamma
returns-in-Some-clause-moves c =
    low_place unary _ _ _ _ _ c.in-Value.ensures.moves c.in-Some.ensures.some.1 c.in-Some.ensures.some.0.index

pub returns-in-None-clause-moves : goal.returns-in-None-clause-moves
returns-in-None-clause-moves c =
    restored c.args.cursor.now _ _ _ _ _ c.in-Value.ensures.moves c.in-None.ensures.none.1 c.at-start.ensures.offset c.seek_back.ensures
