use Rattle.std.proofs.Common.{arith, ◌+◌, ◌<◌, nat_lt, count_by, length, get_or, refl, ap, ◌∙◌}
use Rattle.std.proofs.lemmas.List.{get_or_read}
use Rattle.wg_order.proofs.Orders.{above_ranked}
use Rattle.wg_order.proofs.ranking.Ranking.best.Goals as goal

pub returns : goal.returns
returns c =
    let s = c.args.self.now in
    let low = c.deref.ensures.value ∙ ap (λ s. s.low) c.self.view_is in
    let w : c.args.v < length c.self.inside.high.items = omega (arith, ap (λ s. length s.low) c.self.view_is) in
    let x = get_or_read c.self.inside.high.items c.args.v c.index.result.now w c.index.ensures 0 ∙ ap (λ s. get_or s.high c.args.v 0) c.self.view_is in
    ap (λ k. 1 + k)
    (above_ranked s.low s.high c.ranked.result.now c.deref.result.now c.ranked.result.now c.index.result.now c.count_above.result
    (c.ranked.ensures.ranking c.requires.filled) low refl c.count_above.ensures
    ∙ ap (λ y. count_by (λ l. nat_lt y l) s.low) x)
