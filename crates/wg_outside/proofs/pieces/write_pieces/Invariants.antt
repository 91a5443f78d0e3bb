use Rattle.std.proofs.Common.{◌≡◌, ◌++◌, map, take, IsTrue}
use Rattle.wg_outside.specs.Puts.{joined}
use Rattle.wg_outside.proofs.pieces.write_pieces.Given as goal

-- the pieces so far are out
abbrev pub invariant-loop-piece : goal.invariant-loop-piece
invariant-loop-piece g l = let s = g.S.Sink in record {
  out : IsTrue s.told → s.taken l.sink ≡ s.taken l.fn.sink ++ joined (map (λ p. p.now) (take l.piece-index l.pieces));
  later : s.later l.fn.sink l.sink;
}
