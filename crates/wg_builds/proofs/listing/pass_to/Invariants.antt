use Rattle.std.proofs.Common.{◌≡◌, ◌-◌, ◌<◌, ◌≤◌, ◌++◌, ◌∷◌, [], List, ℕ}
use Rattle.wg_graph.specs.Growing.{padded}
use Rattle.wg_encoder.specs.ArchiveInMemory.{HasEncoded}
use Rattle.wg_builds.proofs.listing.pass_to.Given as goal

abbrev pub invariant-loop-encoder : goal.invariant-loop-encoder
invariant-loop-encoder l = record {
  params : l.encoder.params ≡ l.fn.encoder.params;
  page : l.fn.encoder.page < l.encoder.page;
  within : l.encoder.page ≤ l.page;
  arcs : l.encoder.arcs ≤ l.encoder.params.arcs;
  encoded : (done : List (List ℕ)) → HasEncoded l.fn.encoder done → HasEncoded l.encoder (padded l.encoder.page (done ++ l.fn.list ∷ []));
}

abbrev pub decreases-loop-encoder : goal.decreases-loop-encoder
decreases-loop-encoder l = l.page - l.encoder.page
