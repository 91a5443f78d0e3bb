use Rattle.std.proofs.Common.{arith, ◌∙◌}
use Rattle.wg_rank.proofs.gathering.AnyGather.flow.Goals as goal

pub low_flow-requires : goal.low_flow-requires
low_flow-requires g c = omega (arith, c.requires.shared.2.low.counted)

pub high_flow-requires : goal.high_flow-requires
high_flow-requires g c = omega (arith, c.requires.shared.2.high.counted)

pub returns-clause-low : goal.returns-clause-low
returns-clause-low g c = λ l h s. c.low_flow.ensures ∙ s.low.each c.args.v c.requires.page

pub returns-clause-high : goal.returns-clause-high
returns-clause-high g c = λ l h s. c.high_flow.ensures ∙ s.high.each c.args.v c.requires.page

pub returns-clause-low_room : goal.returns-clause-low_room
returns-clause-low_room g c =
    let s = c.requires.shared.2 in
    omega (arith, c.low_flow.ensures, s.low_room c.args.v 0 (omega (arith, s.low.counted)))

pub returns-clause-high_room : goal.returns-clause-high_room
returns-clause-high_room g c =
    let s = c.requires.shared.2 in
    omega (arith, c.high_flow.ensures, s.high_room c.args.v 0 (omega (arith, s.high.counted)))
