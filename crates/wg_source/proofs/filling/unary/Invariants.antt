use Rattle.std.proofs.Common.{◌≡◌, ◌+◌, ◌-◌, ◌≤◌, ◌++◌, ℕ, List, Some, IsTrue, false, drop}
use Rattle.std.proofs.Math.ListN.{replicate}
use Rattle.std.specs.FinMap as map
use Rattle.wg_bits.specs.Bits.{bits_of}
use Rattle.wg_source.specs.Held.{IsHeldOf}
use Rattle.wg_source.specs.Stepping.{Steps}
use Rattle.wg_codes.specs.declared.unary.TheConstants.{MOST_ZEROS}
use Rattle.wg_source.proofs.filling.unary.Given as goal

abbrev pub invariant-loop-held : goal.invariant-loop-held
invariant-loop-held g l = let d = g.D.Depot in record {
  steps : Steps d.told l.name (d.files l.fn.depot) (d.files l.depot) (d.counts l.fn.depot) (d.counts l.depot) l.fn.held l.held;
  few : l.zeros ≤ MOST_ZEROS;
  place : l.held.at ≡ l.fn.held.at + l.zeros;
  zeros : IsTrue d.told → (file : List ℕ) → map.get (d.files l.fn.depot) l.name ≡ Some file → IsHeldOf file l.fn.held → drop l.fn.held.at (bits_of file) ≡ replicate l.zeros false ++ drop l.held.at (bits_of file);
}

abbrev pub decreases-loop-held : goal.decreases-loop-held
decreases-loop-held g l = MOST_ZEROS - l.zeros
