use Rattle.std.proofs.Common.{◌-◌, ◌≡◌, ◌+◌, ◌++◌, length, take, drop}
use Rattle.std.specs.List.{range_with_len}
use Rattle.wg_graph.specs.declared.pieces.TheConstants.{PIECE}
use Rattle.wg_graph.proofs.pieces.write_run.Given as goal

abbrev pub invariant-pieces : goal.invariant-pieces
invariant-pieces l = record {
  length : length l.to ≡ length l.fn.to;
  written : take (l.at + l.done) l.to ≡ take l.at l.fn.to ++ range_with_len l.first l.done;
  kept : drop (l.at + l.count + PIECE) l.to ≡ drop (l.at + l.count + PIECE) l.fn.to;
}

abbrev pub decreases-pieces : goal.decreases-pieces
decreases-pieces l = l.count - l.done
