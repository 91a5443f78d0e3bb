use Rattle.std.proofs.Common.{Err, subst}
use Rattle.wg_random.specs.Answer.{Opens}
use Rattle.wg_random.specs.declared.error.OpenError.{OpenError}
use Rattle.wg_stream.specs.AllRecords.{known_at}
use Rattle.wg_tests.proofs.tables.pages.too_deep.Goals as goal

pub returns-in-Err-Deep : goal.returns-in-Err-Deep
returns-in-Err-Deep g c = λ r.
    let nodes = c.args.archive.now.params.nodes in
    let known = known_at r.records c.args.page in
    (subst (λ (e : OpenError). Opens nodes c.args.page known (Err e)) c.in-Err-Deep.field-0-is (c.in-Err-Deep.ensures.answer r)).1
