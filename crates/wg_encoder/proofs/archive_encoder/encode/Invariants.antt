use Rattle.std.proofs.Common.{◌≡◌, ◌≤◌, ◌-◌, take}
use Rattle.wg_encoder.specs.ArchiveInMemory.{HasEncoded}
use Rattle.wg_encoder.proofs.archive_encoder.encode.Given as goal

abbrev pub invariant-loop-encoder : goal.invariant-loop-encoder
invariant-loop-encoder l = record {
  params : l.encoder.params ≡ l.fn.params;
  few : l.encoder.page ≤ l.graph.nodes;
  encoded : HasEncoded l.encoder (take l.encoder.page l.graph.lists);
}

abbrev pub decreases-loop-encoder : goal.decreases-loop-encoder
decreases-loop-encoder l = l.graph.nodes - l.encoder.page
