use Rattle.wg_stream.proofs.standing.Standing.of.Goals as goal

pub invariant_of-result : goal.invariant_of-result
invariant_of-result c =
    let a = c.requires.0 in
    record { graph = (a.graph, ∣ record { limits = c.nodes.ensures.limits; places = a.places; reads = c.requires.1 } ∣₁) }
