use Rattle.std.proofs.Common.{◌≡◌, List}
use Rattle.wg_grammar.specs.{Record.Whole, Archive.lists_of}
use Rattle.wg_stream.specs.{Prefix.AreBehind, Sweeping.greatest_outdegree}
use Rattle.wg_transpose.specs.SoFar.{AreCounts, predecessors_below}
use Rattle.wg_transforms.proofs.CountingLemmas.{graph_behind}
use Rattle.wg_transforms.proofs.counting.count_on.Given as goal

-- the arcs of the records that were read are counted, and so is their greatest outdegree
abbrev pub invariant-loop-page : goal.invariant-loop-page
invariant-loop-page l = record {
  same_params : l.pages.params ≡ l.fn.pages.params;
  same_page : l.pages.page ≡ l._page;
  same_bits : l.source.bits ≡ l.fn.source.bits;
  read : (behind : List Whole) × AreBehind l.fn.source.bits l.pages l.source.at behind × (l.greatest ≡ greatest_outdegree (lists_of behind))
      × AreCounts l.nodes (predecessors_below (graph_behind l.nodes behind) l._page) l.counts;
}
