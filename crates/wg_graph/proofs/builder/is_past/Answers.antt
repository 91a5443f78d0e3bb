use Rattle.std.proofs.lemmas.Bool.{lt-ltb, ltb-true}
use Rattle.wg_graph.proofs.Growth.{past_last}
use Rattle.wg_graph.proofs.builder.is_past.Goals as goal

pub returns-in-Some : goal.returns-in-Some
returns-in-Some c =
    let last = c.in-Some.ensures.item.3 in
    let p = past_last c.args.list.now c.in-Some.last.now c.args.v c.requires last.0 (last.1 0) in
    (λ t. p.0 (ltb-true _ _ t), λ b. lt-ltb _ _ (p.1 b))
