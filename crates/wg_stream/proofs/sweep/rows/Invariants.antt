use Rattle.std.proofs.Common.{◌≡◌, length}
use Rattle.std.specs.Prelude.{All}
use Rattle.wg_stream.proofs.sweep.rows.Given as goal

abbrev pub invariant-loop-row : goal.invariant-loop-row
invariant-loop-row l = record {
  count : length l.rows.items ≡ l._row;
  rooms : All (λ r. r.room ≡ l.room) l.rows.items;
}
