use Rattle.wg_params.specs.declared.code.Code.TheVariants.{Gamma}
use Rattle.wg_codes.proofs.Standing.{not_cut, not_none, read_one}
use Rattle.wg_intervals.proofs.interval.value.Goals as goal

pub unreachable-requires : goal.unreachable-requires
unreachable-requires c = not_cut Gamma tt c.requires.0 _ c.requires.1 c.requires.2 c.in-Cut.ensures.found

pub unreachable-requires-in-NoWord : goal.unreachable-requires-in-NoWord
unreachable-requires-in-NoWord c = not_none Gamma c.requires.0 _ c.requires.1 c.requires.2 c.in-NoWord.ensures.found

pub returns : goal.returns
returns c v behind stand = read_one Gamma tt v c.in-Value.value _ behind _ stand c.in-Value.ensures.found.0 c.in-Value.ensures.passed
