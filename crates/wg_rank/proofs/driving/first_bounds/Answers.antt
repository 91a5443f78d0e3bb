use Rattle.std.proofs.Common.{◌≡◌, ℕ, List, Option, None, sym, subst}
use Rattle.std.specs.Result.{IfOk}
use Rattle.wg_rank.specs.Intervals.{Intervals}
use Rattle.wg_rank.specs.Weights.{AreWeights, weights_of}
use Rattle.wg_rank.proofs.After.{ready, weighed_by}
use Rattle.wg_rank.proofs.driving.first_bounds.Goals as goal

pub weighted-requires-clause-weights : goal.weighted-requires-clause-weights
weighted-requires-clause-weights g c =
    let n = (g.L.Lists.graph c.args.lists.now).nodes in
    subst (λ (k : ℕ). AreWeights k c.in-Some.weights) (sym c.nodes.ensures.count)
    (subst (λ (o : Option (List ℕ)). AreWeights n (weights_of n o)) c.in-Some.is c.requires.weights)

pub returns-in-Some-clause-ready : goal.returns-in-Some-clause-ready
returns-in-Some-clause-ready g c = ready (g.L.Lists.graph c.args.lists.now) _ c.nodes.ensures.count c.weighted.result c.weighted.ensures.holds c.weighted.ensures.rounds c.weighted.ensures.pages

pub returns-in-Some-clause-weights : goal.returns-in-Some-clause-weights
returns-in-Some-clause-weights g c =
    let n = (g.L.Lists.graph c.args.lists.now).nodes in
    subst (λ (o : Option (List ℕ)). IfOk c.weighted.result (λ (b : Intervals). b.weights ≡ weights_of n o)) (sym c.in-Some.is) c.weighted.ensures.weights

pub returns-in-None-clause-ready : goal.returns-in-None-clause-ready
returns-in-None-clause-ready g c = ready (g.L.Lists.graph c.args.lists.now) _ c.nodes-in-None.ensures.count c.new.result c.new.ensures.holds c.new.ensures.rounds c.new.ensures.pages

pub returns-in-None-clause-weights : goal.returns-in-None-clause-weights
returns-in-None-clause-weights g c =
    let n = (g.L.Lists.graph c.args.lists.now).nodes in
    subst (λ (o : Option (List ℕ)). IfOk c.new.result (λ (b : Intervals). b.weights ≡ weights_of n o)) (sym c.in-None.is)
    (weighed_by (g.L.Lists.graph c.args.lists.now) _ c.nodes-in-None.ensures.count None c.new.result c.new.ensures.weights)
