use Rattle.std.proofs.Common.{◌≡◌, ◌≤◌, length, drop}
use Rattle.wg_graph.specs.Ascending.{Ascends}
use Rattle.wg_vectors.specs.Generated.{copying}
use Rattle.wg_vectors.proofs.drafting.Draft.copy.Given as goal

abbrev pub invariant-loop-member : goal.invariant-loop-member
invariant-loop-member l = record {
  ascends : Ascends 0 l.self.list;
  few : length l.self.list ≤ 64;
  rest : copying (drop l.member-index l.list) l.self ≡ copying l.list l.fn.self;
}
