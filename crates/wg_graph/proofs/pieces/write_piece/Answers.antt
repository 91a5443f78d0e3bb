use Rattle.std.proofs.Common.{◌∙◌, ◌+◌, arith}
use Rattle.std.proofs.lemmas.List.{length-set, drop-set-lt}
use Rattle.wg_graph.proofs.Written.{number_written}
use Rattle.wg_graph.proofs.pieces.write_piece.Goals as goal

pub piece-preserved : goal.piece-preserved
piece-preserved c = record {
  length = length-set c.piece.to (c.args.at + c.piece.index) (c.args.first + c.piece.index) ∙ c.piece.invariant.length;
  written = number_written c.args.to.now c.piece.to c.args.at c.args.first c.piece.index (omega (arith, c.piece.invariant.length)) c.piece.invariant.written (omega (arith, c.piece.invariant.length));
  kept = drop-set-lt (c.args.at + 8) c.piece.to (c.args.at + c.piece.index) (c.args.first + c.piece.index) (omega arith) ∙ c.piece.invariant.kept;
}
