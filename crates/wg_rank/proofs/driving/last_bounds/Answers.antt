use Rattle.std.proofs.Common.{◌≡◌, ◌∙◌, rules, refl}
use Rattle.wg_rank.proofs.After.{bounds_are}
use Rattle.wg_rank.proofs.driving.last_bounds.Goals as goal

pub loop-init : goal.loop-init
loop-init g c =
    let ready = c.requires.ready in
    record {
      same = refl;
      pages = ready.bounded;
      after = ready.before;
      damped = refl;
      weighed = refl;
      holds = ready.holds;
    }

pub returns : goal.returns
returns g c = λ given weighed.
    let l = c.loop.invariant in
    let after : c.loop.bounds.rounds ≡ c.args.rounds = search rules in
    bounds_are (g.G.Gather.graph c.args.source.now) given c.args.rounds c.args.bounds.damping c.loop.bounds l.holds after l.damped (l.weighed ∙ weighed)
