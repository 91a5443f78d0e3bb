use Rattle.std.proofs.Common.{sym, arith, None}
use Rattle.wg_decoder.proofs.ProperLemmas.Counting.{intervals_stand}
use Rattle.wg_iterators.proofs.FrontLemmas.{interval_count_here}
use Rattle.wg_iterators.proofs.fields.find_inside.Goals as goal

pub value_where-count-requires-clause-stands : goal.value_where-count-requires-clause-stands
value_where-count-requires-clause-stands c =
    let (r, extra, on) = c.requires.laid in
    (_, _, interval_count_here r.laid extra c.interval.ensures.value on)

pub new-intervals-requires-clause-stand : goal.new-intervals-requires-clause-stand
new-intervals-requires-clause-stand c =
    let (r, extra, on) = c.requires.laid in
    let e = c.value_where-count.ensures.exact _ _ (interval_count_here r.laid extra c.interval.ensures.value on) in
    (r.laid.lefts, r.laid.lengths, e.0, rw (c.again.ensures, c.interval-2.ensures.value, ← e.1) (intervals_stand _ _ _ _ _ _ _ r.laid.intervals_stand))

pub pass_intervals-covered-requires : goal.pass_intervals-covered-requires
pass_intervals-covered-requires c =
    let (r, extra, on) = c.requires.laid in
    let e = c.value_where-count.ensures.exact _ _ (interval_count_here r.laid extra c.interval.ensures.value on) in (
      c.args.page,
      None,
      r.laid.lefts,
      r.laid.lengths,
      r.laid.after_intervals,
      e.0,
      omega (arith, r.laid.inside_fit, extra, c.requires.short),
      rw (c.interval-3.ensures.value, ← e.1) r.laid.intervals_stand,
    )

pub returns : goal.returns
returns c r extra on =
    let e = c.value_where-count.ensures.exact _ _ (interval_count_here r.laid extra c.interval.ensures.value on) in
    let passed = c.pass_intervals-covered.ensures c.args.page None r.laid.lefts r.laid.lengths r.laid.after_intervals e.0
    (rw (c.interval-3.ensures.value, ← e.1) r.laid.intervals_stand) in (
      c.new-intervals.ensures.coming r.laid.lefts r.laid.lengths e.0
          (rw (c.again.ensures, c.interval-2.ensures.value, ← e.1) (intervals_stand _ _ _ _ _ _ _ r.laid.intervals_stand)),
      sym passed.0,
      passed.1,
    )
