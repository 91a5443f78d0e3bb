use Rattle.std.proofs.Common.{arith, sym, ◌∙◌, refl}
use Rattle.wg_bits.specs.Bits.{rest}
use Rattle.wg_intervals.proofs.Walks.{first_of, left_behind, begins_with, turned, none_left}
use Rattle.wg_intervals.proofs.walk.IntervalWalk.next.Goals as goal

pub returns-then-self-eq0 : goal.returns-then-self-eq0
returns-then-self-eq0 c =
    let m = c.loop-self.self-inside in
    let none = none_left m.current m.page m.least m.past m.unread (rest m.cursor) c.loop-self-test.true c.if-self-eq0.true in
    (sym c.loop-self.invariant.3 ∙ none, none)

pub interval_at-self-inside-requires-clause-stands : goal.interval_at-self-inside-requires-clause-stands
interval_at-self-inside-requires-clause-stands c =
    let m = c.loop-self.self-inside in
    first_of m.page m.least m.past m.unread (rest m.cursor) (omega arith) c.loop-self.invariant.2

pub loop-self-preserved : goal.loop-self-preserved
loop-self-preserved c =
    let m = c.loop-self.self-inside in
    let run = c.interval_at-self-inside.result in
    let new = rest c.interval_at-self-inside.new.cursor in
    let exact = c.interval_at-self-inside.ensures.exact in (
      c.loop-self.invariant.0,
      c.interval_at-self-inside.ensures.fits,
      left_behind (rest m.cursor) new m.page m.least m.past run.left run.length m.unread exact (omega arith) c.loop-self.invariant.2,
      sym (turned (rest m.cursor) new m.page m.least m.past run.left run.length m.unread exact (omega arith) c.loop-self.invariant.2)
          ∙ sym (begins_with m.current _ _ c.loop-self-test.true refl) ∙ c.loop-self.invariant.3,
    )
