use Rattle.std.proofs.Common.{◌≡◌, ◌∙◌, sym, ap}
use Rattle.wg_params.specs.Parameters.{Parameters}
use Rattle.wg_rank.specs.Intervals.{Intervals}
use Rattle.wg_order.specs.{Order.Positions, Summary.summary_of, declared.summary.RankingSummary.RankingSummary}
use Rattle.wg_outcomes.specs.Bulk.{bulk_positions}
use Rattle.wg_builds.proofs.generated.summed.Goals as goal

pub returns : goal.returns
returns c = λ r g params bits referring is.
    let s : Positions = bulk_positions r g in
    let low = ap (λ (b : Intervals). b.low) (sym is) in
    let high = ap (λ (b : Intervals). b.high) (sym is) in
    let ranking : c.of-ranking.result ≡ summary_of s = c.of-ranking.ensures.is s low high (r.ranking.reads s.low s.high) in
    λ i. record {
      pages = (c.nodes.ensures.value ∙ ap (λ (p : Parameters). p.nodes) params) i;
      arcs = (c.arcs.ensures.value ∙ ap (λ (p : Parameters). p.arcs) params) i;
      bits = bits i;
      referring = referring i;
      first = ap (λ (x : RankingSummary). x.first) ranking i;
      sure = ap (λ (x : RankingSummary). x.sure) ranking i;
    }
