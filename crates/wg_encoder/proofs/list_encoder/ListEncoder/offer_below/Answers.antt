use Rattle.wg_encoder.proofs.Disjoint.{none_wanted}
use Rattle.wg_encoder.proofs.list_encoder.ListEncoder.offer_below.Goals as goal

pub returns-then-not-may_copy : goal.returns-then-not-may_copy
returns-then-not-may_copy c = none_wanted c.args.self.now.params c.args.self.now.next c.args.list.now c.args.r c.args.most c.limits.ensures.within (c.may_copy.ensures c.if-not-may_copy.true) c.requires.low

pub may_copy-requires-clause-common : goal.may_copy-requires-clause-common
may_copy-requires-clause-common c = c.common-common.ensures c.args.list.now c.requires.marked

pub size_below-requires-clause-common : goal.size_below-requires-clause-common
size_below-requires-clause-common c = c.common-common.ensures c.args.list.now c.requires.marked
