use Rattle.std.proofs.Common.{arith}
use Rattle.std.proofs.lemmas.Result.{on_ok_weaker}
use Rattle.wg_tests.proofs.tables.pages.listed.Goals as goal

pub returns : goal.returns
returns g c =
    let records = c.list.ensures.records in
    record { ticks = on_ok_weaker c.list.result (λ ticks. omega (arith, ticks, c.requires.depth records)) (c.list.ensures.ticks records) }
