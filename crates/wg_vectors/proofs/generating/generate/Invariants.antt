use Rattle.std.proofs.Common.{◌≡◌, ◌-◌, ◌*◌, ◌≤◌, [], length}
use Rattle.wg_graph.specs.Digraph.{arc_count}
use Rattle.wg_vectors.specs.Generated.{lists_on}
use Rattle.wg_vectors.proofs.generating.generate.Given as goal

abbrev pub invariant-loop-page : goal.invariant-loop-page
invariant-loop-page l = record {
  nodes : l.builder.nodes ≡ l.n;
  begun : length l.builder.lists ≡ l.page;
  arcs : arc_count l.builder ≤ 78 * l.page;
  rest : lists_on l.n (l.n - l.page) l.builder.lists l.draft.state ≡ lists_on l.n l.n [] l.seed;
}
