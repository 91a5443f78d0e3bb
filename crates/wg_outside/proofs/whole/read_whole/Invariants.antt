use Rattle.std.proofs.Common.{length, ◌-◌, ◌+◌, ◌≡◌, ◌≤◌, take, IsTrue, vec_len}
use Rattle.std.specs.Option.{ForSome}
use Rattle.wg_outside.specs.declared.limits.TheConstants.{MOST_BYTES}
use Rattle.std.specs.FinMap as map
use Rattle.wg_outside.specs.Outside.{NonDecreasing}
use Rattle.wg_outside.proofs.whole.read_whole.Given as goal

-- what was read is the front of the file
abbrev pub invariant-loop-bytes : goal.invariant-loop-bytes
invariant-loop-bytes g l = let d = g.D.Depot in record {
  short : vec_len l.bytes ≤ MOST_BYTES;
  same : d.files l.depot ≡ d.files l.fn.depot;
  front : IsTrue d.told → ForSome (map.get (d.files l.fn.depot) l.name) (λ file. (l.bytes.items ≡ take (vec_len l.bytes) file) × (vec_len l.bytes ≤ length file) × (length file ≤ MOST_BYTES));
  later : NonDecreasing (d.counts l.fn.depot) (d.counts l.depot);
}

abbrev pub decreases-loop-bytes : goal.decreases-loop-bytes
decreases-loop-bytes g l = MOST_BYTES + 1 - vec_len l.bytes
