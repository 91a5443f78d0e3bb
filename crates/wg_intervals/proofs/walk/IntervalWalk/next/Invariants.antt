use Rattle.std.proofs.Common.{◌≡◌, ◌+◌, ◌^◌, ◌≤◌, ◌++◌}
use Rattle.wg_bits.specs.Bits.{rest}
use Rattle.wg_intervals.specs.Canonical.{numbers_of}
use Rattle.wg_intervals.specs.Stored.{IntervalsStandAt, numbers_at}
use Rattle.wg_intervals.proofs.walk.IntervalWalk.next.Given as goal

abbrev pub invariant-loop-self : goal.invariant-loop-self
invariant-loop-self l = let m = l.self-inside in
    (m.page ≤ 2 ^ 62) × (m.current.left + m.current.length ≤ 2 ^ 62 + 1) × IntervalsStandAt m.page m.least m.past m.unread (rest m.cursor)
    × (numbers_of m.current ++ numbers_at m.page m.least m.past m.unread (rest m.cursor) ≡ l.fn.self)

abbrev pub decreases-loop-self : goal.decreases-loop-self
decreases-loop-self l = l.self-inside.unread
