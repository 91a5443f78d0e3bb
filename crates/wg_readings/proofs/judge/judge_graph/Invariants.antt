use Rattle.wg_readings.proofs.UnderWay.{IsUnderWay}
use Rattle.wg_readings.proofs.judge.judge_graph.Given as goal

abbrev pub invariant-loop-page : goal.invariant-loop-page
invariant-loop-page g l = let d = g.D.Depot in
    IsUnderWay d.told l.fn.base l.fn.params (d.files l.fn.depot) (d.files l.depot) (d.counts l.fn.depot) (d.counts l.depot) l._page l.reader (λ whole. Unit {0})
