use Rattle.std.proofs.Common.{arith, ◌≡◌, ◌-◌, ◌<◌, nat_lt, count_by, length, get_or, ap, ◌∙◌}
use Rattle.std.proofs.lemmas.List.{get_or_read}
use Rattle.wg_order.proofs.Orders.{below_risen}
use Rattle.wg_order.proofs.ranking.Ranking.worst.Goals as goal

pub returns : goal.returns
returns c =
    let s = c.args.self.now in
    let w : c.args.v < length c.self.inside.low.items = omega (arith, ap (λ s. length s.low) c.self.view_is) in
    let x = get_or_read c.self.inside.low.items c.args.v c.index.result.now w c.index.ensures 0 ∙ ap (λ s. get_or s.low c.args.v 0) c.self.view_is in
    let l : c.len.result ≡ length s.low = omega (arith, ap (λ s. length s.low) c.self.view_is) in
    ap (λ n. n - c.count_below.result) l
    ∙ ap (λ k. length s.low - k)
    (below_risen s.high c.rising.result.now c.index.result.now c.count_below.result c.rising.ensures.rising c.count_below.ensures
    ∙ ap (λ y. count_by (λ h. nat_lt h y) s.high) x)
