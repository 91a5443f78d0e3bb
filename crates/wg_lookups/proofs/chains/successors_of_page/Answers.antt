use Rattle.std.proofs.Common.{inl, inr, refl, arith, ◌<◌, ◌≤◌}
use Rattle.wg_outside.proofs.FilesLemmas.{none_falls-refl}
use Rattle.wg_bits.specs.Bits.{bits_of}
use Rattle.wg_lookups.specs.ChainFiles.{HasBits, HasPlaces}
use Rattle.wg_lookups.proofs.SpotJobs.{spots_lent, spotted, unlisted, unspotted}
use Rattle.wg_lookups.proofs.chains.successors_of_page.Goals as goal

pub returns-then-page-nodes : goal.returns-then-page-nodes
returns-then-page-nodes g c = record {
  spots = λ names named stored open_on sampled.
      let p = c.args.params.now in
      let le : p.nodes ≤ c.args.page = omega (arith, c.if-page-nodes.true, c.nodes.ensures.value) in
      unlisted names c.args.graph.now c.args.offsets.now named stored p c.nodes.ensures.limits c.args.page g.D.Depot.told _ _ _ _ refl (none_falls-refl _) open_on sampled le c.of.result c.of.ensures.status;
  opens = λ t file is held places on. inl refl;
}

pub returns-in-Ok : goal.returns-in-Ok
returns-in-Ok g c =
    let a = c.new-source.ensures in
    let r = c.in-Ok.ensures in
    let p = c.args.params.now in
    record {
      spots = λ names named stored open_on sampled.
          let l = rw (a.depot, a.graph, a.offsets) at r.reached in
          let lt : c.args.page < p.nodes = omega (arith, c.if-page-nodes.false, c.nodes.ensures.value) in
          spots_lent g.D.Depot.files g.D.Depot.counts _ _ _ _ _ (assumption) l.0 names _ _ _ _
          (spotted names _ _ named stored p c.nodes.ensures.limits c.args.page g.D.Depot.told _ _ _ _ l.1.graph.same l.1.graph.later open_on sampled lt
          c.in-Ok.list _ _ (λ bits places b q. r.answer bits places (rw (a.depot, a.graph) b) (rw (a.depot, a.offsets) q)));
      opens = λ t file is held places on.
          let b : HasBits g.D.Depot.told (g.D.Depot.files c.args.depot.now) c.args.graph.now (bits_of file) = (t, (file, is, held, refl)) in
          r.answer (bits_of file) places (rw (a.depot, a.graph) b) (rw (a.depot, a.offsets) ((t, on)));
    }

pub returns-in-Err : goal.returns-in-Err
returns-in-Err g c =
    let a = c.new-source.ensures in
    let r = c.in-Err.ensures in
    let p = c.args.params.now in
    record {
      spots = λ names named stored open_on sampled.
          let l = rw (a.depot, a.graph, a.offsets) at r.reached in
          let lt : c.args.page < p.nodes = omega (arith, c.if-page-nodes.false, c.nodes.ensures.value) in
          spots_lent g.D.Depot.files g.D.Depot.counts _ _ _ _ _ (assumption) l.0 names _ _ _ _
          (unspotted names _ _ named stored p c.nodes.ensures.limits c.args.page g.D.Depot.told _ _ _ _ l.1.graph.same l.1.graph.later open_on sampled lt
          c.in-Err.error c.ending_of.result _ _ c.ending_of.ensures (λ bits places b q. r.answer bits places (rw (a.depot, a.graph) b) (rw (a.depot, a.offsets) q)) (rw (a.depot, a.graph, a.offsets) at r.refused));
      opens = λ t file is held places on.
          let b : HasBits g.D.Depot.told (g.D.Depot.files c.args.depot.now) c.args.graph.now (bits_of file) = (t, (file, is, held, refl)) in
          let q : HasPlaces g.D.Depot.told (g.D.Depot.files c.args.depot.now) c.args.offsets.now places = (t, on) in
          inr (c.in-Err.error, r.answer (bits_of file) places (rw (a.depot, a.graph) b) (rw (a.depot, a.offsets) q));
    }
