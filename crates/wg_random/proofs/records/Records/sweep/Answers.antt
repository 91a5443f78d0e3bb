use Rattle.std.proofs.Common.{◌≡◌, Ok, subst}
use Rattle.std.specs.Prelude.{IfOk}
use Rattle.wg_grammar.specs.Archive.{Accepted, ReadsGraph}
use Rattle.wg_grammar.specs.Laws.{accepted_graph}
use Rattle.wg_random.specs.Checked.{CheckedRecords, StandsForGraph}
use Rattle.wg_random.proofs.records.Records.sweep.Goals as goal

pub returns-clause-graph : goal.returns-clause-graph
returns-clause-graph c =
    subst (λ (v : CheckedRecords). (a : Accepted) → ReadsGraph v.params v.bits (Ok a) → IfOk c.with_room.result (λ s. s.graph ≡ accepted_graph v.params a)) c.self.view_is c.with_room.ensures.graph

pub returns-clause-stands : goal.returns-clause-stands
returns-clause-stands c = let h = c.self.invariant.1 in subst (λ (v : CheckedRecords). StandsForGraph v) c.self.view_is (h.0, h.1)
