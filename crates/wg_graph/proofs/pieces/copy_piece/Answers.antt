use Rattle.std.proofs.Common.{rules, ◌+◌, ◌-◌, arith}
use Rattle.std.proofs.lemmas.Slice.{drop-put_mid}
use Rattle.wg_graph.proofs.pieces.copy_piece.Goals as goal

pub returns-clause-kept : goal.returns-clause-kept
returns-clause-kept c = drop-put_mid c.args.at (c.args.at + 8 - c.args.at) c.args.to.now c.copy_from_slice.new.self (c.args.at + 8) (omega arith) (omega arith) (search rules)
