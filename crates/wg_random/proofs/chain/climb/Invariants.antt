use Rattle.std.proofs.Common.{◌≡◌, ℕ, suc, ◌≤◌, ◌<◌, List, Bool, length, drop, Ok}
use Rattle.std.specs.Prelude.{get_or}
use Rattle.wg_decoder.specs.Remembered.{known_of}
use Rattle.wg_graph.specs.Ascending.{Ascends, Below}
use Rattle.wg_decoder.specs.Chains.{ChainReads}
use Rattle.wg_random.specs.Spot.{IsWholeChain}
use Rattle.wg_random.proofs.chain.climb.Given as goal

abbrev pub invariant-up : goal.invariant-up
invariant-up g l = record {
  reached : g.S.Seek.reached l.fn.source l.source;
  many : g.S.Located.records l.source ≡ l.params.nodes;
  within : l.left < length l.chain;
  reads : (bits : List Bool) (offsets : List ℕ) → g.S.Source.reads_from l.fn.source bits → g.S.Located.lies_by l.fn.source offsets → (x : ℕ)
      → IsWholeChain l.params bits offsets x l.chain → ChainReads l.params bits offsets (get_or l.chain l.left 0) (drop (suc l.left) l.chain) (Ok (known_of l.known));
  ascends : Ascends 0 l.known.list;
  below : Below l.params.nodes l.known.list;
  deep : l.known.depth ≤ get_or l.chain l.left 0;
}

abbrev pub decreases-up : goal.decreases-up
decreases-up g l = l.left
