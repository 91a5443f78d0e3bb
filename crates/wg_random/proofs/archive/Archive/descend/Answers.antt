use Rattle.std.proofs.Common.{rules, arith}
use Rattle.wg_random.proofs.ChainLemmas.{ended_of, set_going, full_going, set_pages}
use Rattle.wg_random.proofs.archive.Archive.descend.Goals as goal

pub returns-clause-chain : goal.returns-clause-chain
returns-clause-chain g c r =
    ended_of c.args.self.now.params c.args.self.now.bits r.records c.down.chain c.args.x c.down.page c.down.depth (c.in_default.ensures.leads r) (c.down.invariant.going r)

pub down-preserved-then-depth : goal.down-preserved-then-depth
down-preserved-then-depth g c =
    let h = c.down.invariant in
    let below = c.in-Some.below in
    record {
      low = omega (arith, h.low, c.in-Some.ensures.down);
      few = omega (arith, h.few, c.in-Some.ensures.down);
      long = search rules;
      pages = set_pages c.down.chain c.args.self.now.params.nodes c.down.depth below (omega (arith, h.long)) (omega (arith, h.low, c.in-Some.ensures.down)) h.pages;
      ticks = omega (arith, h.ticks, c.follow.ensures.ticks);
      going = λ r. set_going c.args.self.now.params c.args.self.now.bits r.records c.down.chain c.args.x c.down.page c.down.depth below (c.in-Some.ensures.leads r) (omega (arith, h.long)) (h.going r);
    }

pub down-preserved : goal.down-preserved
down-preserved g c =
    let h = c.down.invariant in
    record {
      low = omega (arith, h.low, c.in-Some.ensures.down);
      few = omega (arith, h.few, c.in-Some.ensures.down);
      long = h.long;
      pages = λ i le near. h.pages i (omega (arith, near)) near;
      ticks = omega (arith, h.ticks, c.follow.ensures.ticks);
      going = λ r. full_going c.args.self.now.params c.args.self.now.bits r.records c.down.chain c.args.x c.down.page c.down.depth c.in-Some.below
          (c.in-Some.ensures.leads r) (omega (arith, h.long)) (omega (arith, h.long)) (h.going r);
    }
