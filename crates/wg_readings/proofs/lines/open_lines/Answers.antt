use Rattle.wg_readings.proofs.OutsideLemmas.{load_ends}
use Rattle.wg_readings.proofs.lines.open_lines.Goals as goal

pub returns-in-Ok : goal.returns-in-Ok
returns-in-Ok g c =
    let e = c.in-Ok.ensures in
    record { all = e.all; none = e.none; first = e.first; readable = e.readable; same = e.same; later = e.later; ends = λ names named. tt }

pub returns-in-Err : goal.returns-in-Err
returns-in-Err g c =
    let e = c.in-Err.ensures in
    record {
      all = tt;
      none = tt;
      first = tt;
      readable = λ t. tt;
      same = e.same;
      later = e.later;
      ends = λ names named.
          load_ends _ names _ _ _ _ _ _ named _ c.in-Err.error c.unread.result c.unread.ensures.status e.refused e.absent e.failed e.same e.later;
    }
