use Rattle.std.proofs.Common.{rules, ◌+◌, ◌-◌, arith}
use Rattle.std.proofs.lemmas.Slice.{drop-put_mid}
use Rattle.wg_graph.proofs.Moved.{kept_further}
use Rattle.wg_graph.proofs.Written.{copied_all}
use Rattle.wg_graph.proofs.pieces.copy.Goals as goal

pub returns-then-from-ge-PIECE-clause-copied : goal.returns-then-from-ge-PIECE-clause-copied
returns-then-from-ge-PIECE-clause-copied c = copied_all c.args.to.now c.args.from.now c.copy_piece.new.to c.args.at 8 c.args.count (omega arith) (omega arith) c.copy_piece.ensures.copied

pub returns-then-from-ge-PIECE-clause-kept : goal.returns-then-from-ge-PIECE-clause-kept
returns-then-from-ge-PIECE-clause-kept c = kept_further (c.args.at + 8) (c.args.at + c.args.count + 8) c.copy_piece.new.to c.args.to.now (omega arith) c.copy_piece.ensures.kept

pub returns-clause-kept : goal.returns-clause-kept
returns-clause-kept c = drop-put_mid c.args.at (c.args.at + c.args.count - c.args.at) c.args.to.now c.copy_from_slice.new.self (c.args.at + c.args.count + 8) (omega arith) (omega arith) (search rules)
