use Rattle.wg_transpose.proofs.Begun.{none_begun}
use Rattle.wg_transpose.proofs.filling.fill.Goals as goal

pub place-requires-clause-none : goal.place-requires-clause-none
place-requires-clause-none g c =
    let t = g.T.InArc in
    none_begun t.items t.mark t.none g.met.T.InArc.nothing g.met.T.InArc.unmarked _ c.args.ends.now c.args.reach.now c.set_starts.new.counts c.fill.new.self c.args.all.now
    c.requires c.set_starts.ensures.pages c.set_starts.ensures.starts (c.fill.ensures.after (λ y same. same)) c.fill.ensures.len
