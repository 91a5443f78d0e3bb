use Rattle.std.proofs.Common.{arith}
use Rattle.wg_random.proofs.ChainLemmas.{link_of, no_link}
use Rattle.wg_random.proofs.archive.Archive.follow.Goals as goal

pub returns-then-back-eq0 : goal.returns-then-back-eq0
returns-then-back-eq0 g c = record {
  leads = λ r. no_link c.args.self.now.params c.args.self.now.bits r.records c.args.page c.reference-back.result c.if-back-eq0.true (c.reference-back.ensures.refers r);
  down = tt;
  ticks = c.tick.ensures;
}

pub returns : goal.returns
returns g c = record {
  leads = λ r. link_of c.args.self.now.params c.args.self.now.bits r.records c.args.page c.reference-back.result (omega arith) (c.reference-back.ensures.refers r);
  down = omega (arith, c.reference-back.ensures.near);
  ticks = c.tick.ensures;
}
