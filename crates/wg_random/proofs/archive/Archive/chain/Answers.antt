use Rattle.std.proofs.Common.{rules, ◌≡◌, ◌++◌, ◌∷◌, [], arith}
use Rattle.wg_random.proofs.ChainLemmas.{ended_of, pushed_length, pushed_pages, pushed_going}
use Rattle.wg_random.proofs.archive.Archive.chain.Goals as goal

pub returns-clause-chain : goal.returns-clause-chain
returns-clause-chain g c r =
    ended_of c.args.self.now.params c.args.self.now.bits r.records c.down.chain c.args.x c.down.page _ (c.in_default.ensures.leads r) (c.down.invariant.going r)

pub down-preserved : goal.down-preserved
down-preserved g c =
    let h = c.down.invariant in
    let below = c.in-Some.below in
    let is : c.push-in-Some.new.self ≡ c.down.chain ++ below ∷ [] = search rules in
    record {
      low = omega (arith, h.low, c.in-Some.ensures.down);
      some = omega (arith, pushed_length _ _ below is);
      pages = pushed_pages c.down.chain c.push-in-Some.new.self c.args.self.now.params.nodes below is h.some (omega (arith, h.low, c.in-Some.ensures.down)) h.pages;
      ticks = omega (arith, h.ticks, c.follow.ensures.ticks, pushed_length _ _ below is);
      going = λ r. pushed_going c.args.self.now.params c.args.self.now.bits r.records c.down.chain c.push-in-Some.new.self c.args.x c.down.page below is h.some (c.in-Some.ensures.leads r) (h.going r);
    }
