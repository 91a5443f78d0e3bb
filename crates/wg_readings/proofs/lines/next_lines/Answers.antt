use Rattle.wg_readings.proofs.OutsideLemmas.{alike, load_ends, no_answer, none_of}
use Rattle.wg_readings.proofs.lines.next_lines.Goals as goal

pub returns-in-Ok : goal.returns-in-Ok
returns-in-Ok g c =
    let e = c.in-Ok.ensures in
    record {
      lines = e.lines;
      end = λ t file is ok. e.end t file is (alike ok);
      some = λ ok. e.some (alike ok);
      first = e.first;
      same = e.same;
      later = e.later;
      ends = λ names named. tt;
    }

pub returns-in-Err : goal.returns-in-Err
returns-in-Err g c =
    let e = c.in-Err.ensures in
    record {
      lines = e.lines;
      end = λ t file is ok. none_of (no_answer _ _ ok);
      some = λ ok. none_of (no_answer _ _ ok);
      first = e.first;
      same = e.same;
      later = e.later;
      ends = λ names named.
          load_ends _ names _ _ _ _ _ _ named _ c.in-Err.error c.unread.result c.unread.ensures.status e.refused e.absent e.failed e.same e.later;
    }
