use Rattle.std.proofs.Common.{Some, ap, ◌∙◌, arith}
use Rattle.wg_shape.proofs.Unions.{took_first, took_second, took_both, above, above_none}
use Rattle.wg_shape.proofs.merge.MergeComing.next.Goals as goal

pub returns-in-Some-None-clause-gives : goal.returns-in-Some-None-clause-gives
returns-in-Some-None-clause-gives g c =
    took_first c.self.inside.first c.self.inside.second (g.A.Coming.coming c.self.inside.a) (g.B.Coming.coming c.self.inside.b) c.args.self.now c.in-Some-None.x c.self.view_is c.self.invariant.0 c.self.invariant.1 c.next-self-inside-in-Some-None.result (g.A.Coming.coming c.next-self-inside-in-Some-None.new.self) c.in-Some-None.is-0 c.next-self-inside-in-Some-None.ensures.gives (above_none c.self.inside.second (g.B.Coming.coming c.self.inside.b) c.in-Some-None.x c.in-Some-None.is-1)

pub returns-then-x-y-clause-gives : goal.returns-then-x-y-clause-gives
returns-then-x-y-clause-gives g c =
    took_first c.self.inside.first c.self.inside.second (g.A.Coming.coming c.self.inside.a) (g.B.Coming.coming c.self.inside.b) c.args.self.now c.in-Some-Some.x c.self.view_is c.self.invariant.0 c.self.invariant.1 c.next-self-inside-then-x-y.result (g.A.Coming.coming c.next-self-inside-then-x-y.new.self) c.in-Some-Some.is-0 c.next-self-inside-then-x-y.ensures.gives (above c.self.inside.second (g.B.Coming.coming c.self.inside.b) c.in-Some-Some.y c.in-Some-Some.x c.in-Some-Some.is-1 c.if-x-y.true c.self.invariant.1)

pub returns-then-y-x-clause-gives : goal.returns-then-y-x-clause-gives
returns-then-y-x-clause-gives g c =
    took_second c.self.inside.first c.self.inside.second (g.A.Coming.coming c.self.inside.a) (g.B.Coming.coming c.self.inside.b) c.args.self.now c.in-Some-Some.y c.self.view_is c.self.invariant.0 c.self.invariant.1 c.next-self-inside-then-y-x.result (g.B.Coming.coming c.next-self-inside-then-y-x.new.self) c.in-Some-Some.is-1 c.next-self-inside-then-y-x.ensures.gives (above c.self.inside.first (g.A.Coming.coming c.self.inside.a) c.in-Some-Some.x c.in-Some-Some.y c.in-Some-Some.is-0 c.if-y-x.true c.self.invariant.0)

pub returns-else-y-x-clause-gives : goal.returns-else-y-x-clause-gives
returns-else-y-x-clause-gives g c =
    took_both c.self.inside.first c.self.inside.second (g.A.Coming.coming c.self.inside.a) (g.B.Coming.coming c.self.inside.b) c.args.self.now c.in-Some-Some.x c.self.view_is c.self.invariant.0 c.self.invariant.1 c.next-self-inside-else-y-x.result c.next-self-inside-else-y-x-2.result (g.A.Coming.coming c.next-self-inside-else-y-x.new.self) (g.B.Coming.coming c.next-self-inside-else-y-x-2.new.self) c.in-Some-Some.is-0 (c.in-Some-Some.is-1 ∙ ap Some (omega arith)) c.next-self-inside-else-y-x.ensures.gives c.next-self-inside-else-y-x-2.ensures.gives
