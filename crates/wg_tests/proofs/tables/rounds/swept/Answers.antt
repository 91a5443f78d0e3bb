use Rattle.wg_tests.proofs.tables.rounds.swept.Goals as goal

pub new-requires-clause-graph : goal.new-requires-clause-graph
new-requires-clause-graph g c =
    let found = c.in_ok-check.ensures.graph in
    (record { graph = found.0; places = c.in_ok-check.field-0.offsets }, found.1)
