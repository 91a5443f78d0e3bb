use Rattle.std.proofs.Common.{◌≡◌, ◌∙◌, ℕ, ap, arith}
use Rattle.std.specs.Prelude.{get_or}
use Rattle.wg_stream.specs.AllRecords.{known_at}
use Rattle.wg_random.proofs.ChainLemmas.{next_up}
use Rattle.wg_random.proofs.archive.Archive.climb.Goals as goal

pub fill-requires-clause-ready : goal.fill-requires-clause-ready
fill-requires-clause-ready c r = (c.requires.chain r).bottom (omega (arith, c.requires.some))

pub fill-requires-in-up-clause-ready : goal.fill-requires-in-up-clause-ready
fill-requires-in-up-clause-ready c r =
    let h = c.up.invariant in
    next_up c.args.self.now.params c.args.self.now.bits r.records c.args.chain.now c.as_slice.result.now c.args.x _ c.up.left (omega arith) (omega (arith, h.within))
    (omega (arith, c.requires.some)) (c.as_slice.ensures ∙ h.list r) (c.requires.chain r)

pub returns : goal.returns
returns c r =
    let done : c.up.left ≡ 0 = omega (arith, c.up-test.false) in
    let page = ap (λ (i : ℕ). get_or c.args.chain.now i 0) done ∙ (c.requires.chain r).first in
    c.up.invariant.list r ∙ ap (λ (k : ℕ). (known_at r.records k).list) page
