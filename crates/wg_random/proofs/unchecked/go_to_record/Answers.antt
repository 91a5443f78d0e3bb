use Rattle.std.proofs.Common.{refl, arith}
use Rattle.wg_random.proofs.unchecked.go_to_record.Goals as goal

pub returns-in-Ok-true-clause-lies : goal.returns-in-Ok-true-clause-lies
returns-in-Ok-true-clause-lies g c = c.in-Ok.ensures.lies

pub returns-in-Ok-false-clause-past : goal.returns-in-Ok-false-clause-past
returns-in-Ok-false-clause-past g c bits offsets r l =
    let start = (c.in-Ok.ensures.lies offsets l).0 in
    let on = g.met.S.Seek.bits_stay _ _ bits c.in-Ok.ensures.reached r in
    let past = c.in-Ok-false.ensures.past bits on c.in-Ok-false.field-0-test in
    rw start (omega (arith, past, start), refl)
