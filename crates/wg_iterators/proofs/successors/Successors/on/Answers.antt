use Rattle.std.proofs.Common.{refl}
use Rattle.wg_iterators.specs.Below.{list_below}
use Rattle.wg_iterators.proofs.BelowLemmas.{apart_on, union_on, coming_is}
use Rattle.wg_iterators.proofs.successors.Successors.on.Goals as goal

pub find_fronts-fronts-requires-clause-proper : goal.find_fronts-fronts-requires-clause-proper
find_fronts-fronts-requires-clause-proper c = (list_below c.args.below, c.requires.proper.0, c.requires.proper.1, c.requires.source)

pub invariant_of-result : goal.invariant_of-result
invariant_of-result c =
    let f = c.find_fronts-fronts.ensures.fronts (list_below c.args.below) c.requires.proper.0 c.requires.proper.1 c.requires.source c.requires.ascends in
    apart_on c.args.below c.find_fronts-fronts.result c.requires.proper.0 f

pub returns : goal.returns
returns c list proper =
    let f = c.find_fronts-fronts.ensures.fronts (list_below c.args.below) list proper c.requires.source c.requires.ascends in
    coming_is _ _ f.outdegree refl (union_on c.args.below c.find_fronts-fronts.result list f)
