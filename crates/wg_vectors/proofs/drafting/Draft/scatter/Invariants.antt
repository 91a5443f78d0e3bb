use Rattle.std.proofs.Common.{◌≡◌, ◌+◌, ◌-◌, ◌≤◌, length}
use Rattle.wg_graph.specs.Ascending.{Ascends}
use Rattle.wg_vectors.specs.Generated.{scattering, scattered}
use Rattle.wg_vectors.proofs.drafting.Draft.scatter.Given as goal

abbrev pub invariant-loop : goal.invariant-loop
invariant-loop l = record {
  ascends : Ascends 0 l.self.list;
  few : length l.self.list ≤ length l.fn.self.list + l.counter;
  rest : scattering l.pages (l.count - l.counter) l.self ≡ scattered l.pages l.fn.self;
}
