use Rattle.std.proofs.Common.{◌∙◌, ap, sym}
use Rattle.std.specs.FinMap as map
use Rattle.wg_outside.specs.Outside.{Files}
use Rattle.wg_readings.proofs.PassLemmas.{advances, stops}
use Rattle.wg_readings.proofs.records.next_record.Goals as goal

pub next_record-requires-clause-more : goal.next_record-requires-clause-more
next_record-requires-clause-more g c = rw (sym c.requires.params) at c.requires.more

pub returns-in-Ok : goal.returns-in-Ok
returns-in-Ok g c =
    let e = c.in-Ok.ensures in
    record {
      advances = advances _ _ _ _ _ _ _ _ c.requires.«open» c.requires.params e.goes;
      «open» = e.going;
      page = e.page;
      arcs = e.arcs;
      in_step = λ t held same file is whole s. e.in_step t file (ap (λ (f : Files). map.get f c.args.reader.now.name) same ∙ is) whole s;
    }

pub returns-in-Err : goal.returns-in-Err
returns-in-Err g c = record {
  advances = stops _ _ _ _ _ _ _ _ c.requires.«open» c.requires.params c.in-Err.error _ c.ending_at.ensures c.in-Err.ensures.goes;
  «open» = tt;
  page = tt;
  arcs = tt;
  in_step = λ t held same file is whole s. tt;
}
