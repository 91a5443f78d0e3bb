use Rattle.wg_readings.proofs.OutsideLemmas.{load_ends, load_whole}
use Rattle.wg_readings.proofs.loading.load_file.Goals as goal

pub returns-in-Ok : goal.returns-in-Ok
returns-in-Ok g c = λ names named.
    let e = c.in-Ok.ensures in
    load_whole _ names _ _ _ _ _ _ named c.in-Ok.bytes e.bytes e.short e.same e.later

pub returns-in-Err : goal.returns-in-Err
returns-in-Err g c = λ names named.
    let e = c.in-Err.ensures in
    load_ends _ names _ _ _ _ _ _ named _ c.in-Err.error c.unread.result c.unread.ensures.status e.bytes e.absent e.failed e.same e.later
