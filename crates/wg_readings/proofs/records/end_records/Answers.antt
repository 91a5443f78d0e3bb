use Rattle.std.proofs.Common.{◌∙◌, Ok, ap, subst}
use Rattle.std.specs.FinMap as map
use Rattle.wg_outside.specs.Outside.{Files}
use Rattle.wg_params.specs.Parameters.{Parameters}
use Rattle.wg_grammar.specs.Archive.{lists_of, places_of}
use Rattle.wg_stream.specs.Reading.{IsJudged}
use Rattle.wg_readings.proofs.PassLemmas.{advances, stops}
use Rattle.wg_readings.proofs.records.end_records.Goals as goal

pub returns-in-Ok : goal.returns-in-Ok
returns-in-Ok g c =
    let e = c.in-Ok.ensures in
    record {
      total = e.total ∙ ap (λ (p : Parameters). p.arcs) c.requires.params;
      advances = advances _ _ _ _ _ _ _ _ c.requires.«open» c.requires.params e.goes;
      judged = λ t held same file is whole s.
          subst (λ (p : Parameters). IsJudged file p (Ok (record { graph = lists_of whole; places = places_of whole }))) (e.goes.params ∙ c.requires.params)
          (e.in_step t file (ap (λ (f : Files). map.get f c.args.reader.now.name) same ∙ is) whole s).1;
    }

pub returns-in-Err : goal.returns-in-Err
returns-in-Err g c = record {
  total = tt;
  advances = stops _ _ _ _ _ _ _ _ c.requires.«open» c.requires.params c.in-Err.error _ c.ending_at.ensures c.in-Err.ensures.goes;
  judged = λ t held same file is whole s. tt;
}
