use Rattle.std.proofs.Common.{◌∙◌, ◌+◌, arith}
use Rattle.wg_graph.proofs.Moved.{kept_further}
use Rattle.wg_graph.proofs.Written.{written_on, written_all}
use Rattle.wg_graph.proofs.pieces.write_run.Goals as goal

pub pieces-preserved : goal.pieces-preserved
pieces-preserved c = record {
  length = c.write_piece.ensures.length ∙ c.pieces.invariant.length;
  written = written_on c.args.to.now c.pieces.to c.write_piece.new.to c.args.at c.args.first c.pieces.done 8 c.pieces.invariant.written c.write_piece.ensures.written;
  kept = kept_further (c.args.at + c.pieces.done + 8) (c.args.at + c.args.count + 8) c.write_piece.new.to c.pieces.to (omega arith) c.write_piece.ensures.kept ∙ c.pieces.invariant.kept;
}

pub returns-clause-written : goal.returns-clause-written
returns-clause-written c = written_all c.args.to.now c.pieces.to c.args.at c.args.first c.pieces.done c.args.count (omega arith) (omega arith) c.pieces.invariant.written
