use Rattle.std.proofs.Common.{◌^◌, ◌<◌, ap, sym, subst, refl, arith}
use Rattle.std.specs.Option.{ForSome}
use Rattle.wg_marks.specs.Common.{IsCommon}
use Rattle.wg_graph.proofs.Sets.{below_more}
use Rattle.wg_encoder.specs.Encoding.{Encoded}
use Rattle.wg_greedy.specs.Fields.{record_fields}
use Rattle.wg_encoder.specs.Cost.{cost_of}
use Rattle.wg_encoder.proofs.Choosing.{size_low}
use Rattle.wg_encoder.proofs.list_encoder.ListEncoder.size_below.Goals as goal

pub record_cost-requires-clause-page : goal.record_cost-requires-clause-page
record_cost-requires-clause-page c =
    let page = ap (λ (e : Encoded). e.next.page) c.self.view_is in
    omega (arith, page, c.requires.page, c.limits.ensures.within.nodes)

pub record_cost-requires-clause-low : goal.record_cost-requires-clause-low
record_cost-requires-clause-low c = below_more c.args.self.now.params.nodes (2 ^ 62) c.args.list.now (omega (arith, c.limits.ensures.within.nodes)) c.requires.list.below

pub record_cost-requires-clause-common : goal.record_cost-requires-clause-common
record_cost-requires-clause-common c x is = subst (λ rs. IsCommon c.args.list.now rs x) (sym c.referenced_list.ensures.value) (c.requires.common x is)

pub returns-clause-short : goal.returns-clause-short
returns-clause-short c =
    let self = c.args.self.now in
    subst (λ cost. ForSome cost (λ n. n < 2 ^ 63)) (λ j. cost_of (record_fields self.params self.next.page c.args.r (c.referenced_list.ensures.value j) c.args.list.now))
    (size_low self.params self.next.page c.args.r c.args.list.now c.referenced_list.result.now _ c.limits.ensures.within c.requires.reach c.requires.list c.referenced_list.ensures.ascends c.referenced_list.ensures.below refl)
