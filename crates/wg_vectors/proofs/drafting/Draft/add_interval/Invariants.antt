use Rattle.std.proofs.Common.{◌≡◌, ◌+◌, ◌-◌, ◌≤◌, length}
use Rattle.wg_graph.specs.Ascending.{Ascends}
use Rattle.wg_vectors.specs.Generated.{with_numbers}
use Rattle.wg_vectors.proofs.drafting.Draft.add_interval.Given as goal

abbrev pub invariant-loop-successor : goal.invariant-loop-successor
invariant-loop-successor l = record {
  ascends : Ascends 0 l.self.list;
  few : length l.self.list + l.left ≤ length l.fn.self.list + l.successor;
  rest : with_numbers l.successor (l.successor-end - l.successor) l.self.list ≡ with_numbers l.left (l.successor-end - l.left) l.fn.self.list;
  state : l.self.state ≡ l.fn.self.state;
}
