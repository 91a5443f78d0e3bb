use Rattle.std.proofs.Common.{[], refl, arith, rules, tests}
use Rattle.wg_tests.proofs.tables.records.a_record_over_a_page_that_is_handed_in.Goals as goal
use Rattle.wg_tests.proofs.tables.records.a_record_over_a_page_that_is_handed_in.Goals.{then-told-eq2, else-told-eq2}

pub decode_on-requires-clause-head : goal.decode_on-requires-clause-head
decode_on-requires-clause-head g c =
    let h = c.in-Ok.ensures.stands [] in
    (c.in-Ok.alone.outdegree, c.in-Ok.alone.reference, h.0, rw c.again.ensures at h.1, search (rules, tests))

pub decode_on-requires-2-clause-head : goal.decode_on-requires-2-clause-head
decode_on-requires-2-clause-head g c =
    let h = c.in-Ok-head.ensures.stands [] in (
      c.in-Ok-head.told.outdegree,
      c.in-Ok-head.told.reference,
      h.0,
      rw c.again-2.ensures at h.1,
      (λ e. elim c.if-told-eq2.branch [ then-told-eq2 w ↦ grind (arith, tests) | else-told-eq2 w ↦ search (rules, tests) ], λ far. refl),
    )
