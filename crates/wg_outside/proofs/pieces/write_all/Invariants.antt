use Rattle.std.proofs.Common.{length, ◌-◌, ◌≡◌, ◌≤◌, ◌++◌, take, IsTrue}
use Rattle.wg_outside.proofs.pieces.write_all.Given as goal

-- the prefix of the piece is out
abbrev pub invariant-loop-at : goal.invariant-loop-at
invariant-loop-at g l = let s = g.S.Sink in record {
  within : l.at ≤ length l.piece;
  out : IsTrue s.told → s.taken l.sink ≡ s.taken l.fn.sink ++ take l.at l.piece;
  later : s.later l.fn.sink l.sink;
  untouched : l.at ≡ 0 → l.sink ≡ l.fn.sink;
}

abbrev pub decreases-loop-at : goal.decreases-loop-at
decreases-loop-at g l = length l.piece - l.at
