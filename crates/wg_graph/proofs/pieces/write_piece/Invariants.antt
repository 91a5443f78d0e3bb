use Rattle.std.proofs.Common.{◌≡◌, ◌+◌, ◌++◌, length, take, drop}
use Rattle.std.specs.List.{range_with_len}
use Rattle.wg_graph.specs.declared.pieces.TheConstants.{PIECE}
use Rattle.wg_graph.proofs.pieces.write_piece.Given as goal

abbrev pub invariant-piece : goal.invariant-piece
invariant-piece l = record {
  length : length l.to ≡ length l.fn.to;
  written : take (l.at + l.index) l.to ≡ take l.at l.fn.to ++ range_with_len l.first l.index;
  kept : drop (l.at + PIECE) l.to ≡ drop (l.at + PIECE) l.fn.to;
}
