use Rattle.std.proofs.Common.{◌≡◌, ◌+◌, ◌≤◌, Ok, Err}
use Rattle.wg_bits.specs.Bits.{bits_of}
use Rattle.wg_grammar.specs.declared.fault.ArchiveFault.{ArchiveFault}
use Rattle.wg_grammar.specs.Context.{Known}
use Rattle.wg_decoder.specs.Chains.{SpotReads}
use Rattle.wg_memory.proofs.range.depth_of.Given as goal

-- so many references lead from the page to the one that is reached, and its faults are those of the page
abbrev pub invariant-down : goal.invariant-down
invariant-down l = record {
  near : l.depth + l.here ≤ l.page;
  deep : (k : Known) → SpotReads l.params (bits_of l.graph) l.places l.page (Ok k) → (j : Known) × SpotReads l.params (bits_of l.graph) l.places l.here (Ok j) × (k.depth ≡ l.depth + j.depth);
  up : (f : ArchiveFault) → SpotReads l.params (bits_of l.graph) l.places l.here (Err f) → SpotReads l.params (bits_of l.graph) l.places l.page (Err f);
}

abbrev pub decreases-down : goal.decreases-down
decreases-down l = l.here
