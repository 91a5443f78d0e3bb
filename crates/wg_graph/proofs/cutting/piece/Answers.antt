use Rattle.std.proofs.Common.{sym}
use Rattle.wg_graph.proofs.Ends.{piece_at}
use Rattle.wg_graph.proofs.cutting.piece.Goals as goal

pub returns : goal.returns
returns c = rw (c.span-from.ensures.from, c.span-from.ensures.to) (sym (piece_at 0 c.args.ends.now c.args.all.now c.args.x c.requires.there))
