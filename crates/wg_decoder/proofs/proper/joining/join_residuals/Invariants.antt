use Rattle.std.proofs.Common.{◌≡◌, ◌++◌, length}
use Rattle.wg_graph.specs.Unions.{union_of}
use Rattle.wg_decoder.specs.Proper.Joining.{Joining}
use Rattle.wg_decoder.proofs.proper.joining.join_residuals.Given as goal

abbrev pub invariant-residuals : goal.invariant-residuals
invariant-residuals l = record {
  on : Joining (l.fn.row.list ++ union_of l.fn.row.waiting l.fn.residuals.list) l.row.list l.row.waiting l.coming.list;
  room : l.row.room ≡ l.fn.row.room;
  behind : l.coming.behind ≡ l.fn.residuals.behind;
}

abbrev pub decreases-residuals : goal.decreases-residuals
decreases-residuals l = length l.coming.list
