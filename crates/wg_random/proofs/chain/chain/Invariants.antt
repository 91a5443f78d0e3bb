use Rattle.std.proofs.Common.{◌≡◌, ◌+◌, ◌-◌, ◌<◌, List, ℕ, Bool, length}
use Rattle.std.specs.Prelude.{get_or}
use Rattle.wg_random.specs.Chain.{ArePages, Fall}
use Rattle.wg_decoder.specs.Chains.{IsChain}
use Rattle.wg_random.proofs.chain.chain.Given as goal

abbrev pub invariant-down : goal.invariant-down
invariant-down g l = record {
  reached : g.S.Seek.reached l.fn.source l.source;
  many : g.S.Located.records l.source ≡ l.params.nodes;
  low : l.page < l.params.nodes;
  some : 0 < length l.chain;
  pages : ArePages l.params.nodes l.chain (length l.chain - 1);
  fall : Fall l.chain;
  here : get_or l.chain (length l.chain - 1) 0 ≡ l.page;
  is : (bits : List Bool) (offsets : List ℕ) → g.S.Source.reads_from l.fn.source bits → g.S.Located.lies_by l.fn.source offsets → IsChain l.params bits offsets l.x l.chain;
  ticks : l.steps + 1 ≡ l.fn.steps + length l.chain;
}

abbrev pub decreases-down : goal.decreases-down
decreases-down g l = l.page
