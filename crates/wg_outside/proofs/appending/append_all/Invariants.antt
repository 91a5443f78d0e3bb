use Rattle.std.proofs.Common.{length, ◌-◌, ◌≡◌, ◌≤◌, take, IsTrue}
use Rattle.wg_outside.specs.Outside.{NonDecreasing, appended}
use Rattle.wg_outside.proofs.appending.append_all.Given as goal

-- the prefix of the piece is in the file
abbrev pub invariant-loop-at : goal.invariant-loop-at
invariant-loop-at g l = let d = g.D.Depot in record {
  within : l.at ≤ length l.piece;
  out : IsTrue d.told → d.files l.depot ≡ appended (d.files l.fn.depot) l.name (take l.at l.piece);
  later : NonDecreasing (d.counts l.fn.depot) (d.counts l.depot);
  untouched : l.at ≡ 0 → l.depot ≡ l.fn.depot;
}

abbrev pub decreases-loop-at : goal.decreases-loop-at
decreases-loop-at g l = length l.piece - l.at
