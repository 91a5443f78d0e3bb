use Rattle.std.proofs.Common.{◌∙◌, ℕ, List, length, Option, ap}
use Rattle.std.proofs.lemmas.List.FromFn.{length-map-range_with_len}
use Rattle.wg_rank.specs.Intervals.{Intervals}
use Rattle.wg_rank.specs.Rounds.{bounds_after}
use Rattle.wg_memory.proofs.ranking.rank.Goals as goal

pub returns-clause-bounds : goal.returns-clause-bounds
returns-clause-bounds c =
    let graph = c.in_ok-lists.lists.graph in
    (graph, c.in_ok-lists.ensures.graph, c.in_ok-by_rounds.ensures ∙ ap (λ (given : Option (List ℕ)). bounds_after graph given c.args.damping c.args.rounds) c.in_ok-given.ensures.given)

pub returns-clause-pages : goal.returns-clause-pages
returns-clause-pages c =
    let nodes = c.in_ok-lists.ensures.nodes in
    let is = c.in_ok-by_rounds.ensures in (
      ap (λ (b : Intervals). length b.low) is ∙ length-map-range_with_len _ 0 _ ∙ nodes,
      ap (λ (b : Intervals). length b.high) is ∙ length-map-range_with_len _ 0 _ ∙ nodes,
    )
