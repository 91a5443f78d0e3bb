use Rattle.wg_codes.specs.Words.{unary}
use Rattle.wg_codes.proofs.Prefix.{rest_after}
use Rattle.wg_codes.proofs.ZetaWords.{zeta_head_cut, zeta_head_none, zeta_cut, zeta_value, zeta_place}
use Rattle.wg_codes.proofs.zeta.read_in_steps.Goals as goal

pub returns-in-Cut-clause-found : goal.returns-in-Cut-clause-found
returns-in-Cut-clause-found c = zeta_head_cut c.args.k c.requires.0 c.requires.1 _ c.in-Cut.ensures.found

pub returns-in-NoWord-clause-found : goal.returns-in-NoWord-clause-found
returns-in-NoWord-clause-found c = zeta_head_none c.args.k c.requires.0 c.requires.1 _ c.in-NoWord.ensures.found

pub returns-in-None-clause-found : goal.returns-in-None-clause-found
returns-in-None-clause-found c =
    zeta_cut c.args.k c.requires.0 c.requires.1 _ _ _ c.in-Value.ensures.found.0
    (rest_after unary _ _ _ _ c.in-Value.ensures.found c.in-Value.ensures.moves) c.in-None.ensures.none.0

pub returns-in-Some-clause-found : goal.returns-in-Some-clause-found
returns-in-Some-clause-found c =
    zeta_value c.args.k c.requires.0 c.requires.1 _ _ _ _ _ c.in-Value.ensures.found.0
    (rest_after unary _ _ _ _ c.in-Value.ensures.found c.in-Value.ensures.moves) c.in-Some.ensures.some.0

pub returns-in-Some-clause-moves : goal.returns-in-Some-clause-moves
returns-in-Some-clause-moves c =
    zeta_place c.args.k _ _ _ _ _ c.in-Value.ensures.moves c.in-Some.ensures.some.1 c.in-Some.ensures.some.0.index
