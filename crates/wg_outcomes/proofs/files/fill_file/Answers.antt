use Rattle.std.proofs.Common.{◌∙◌, List, ℕ, [], take, ap, rules}
use Rattle.std.specs.FinMap as map
use Rattle.wg_outside.specs.Outside.{Files, appended}
use Rattle.wg_greedy.proofs.Appended.{get_more, get_other}
use Rattle.wg_outcomes.proofs.files.fill_file.Goals as goal

pub returns-in-Ok-clause-ok : goal.returns-in-Ok-clause-ok
returns-in-Ok-clause-ok g c = λ t empty.
    let old = g.D.Depot.files c.args.depot.now in
    let bytes = c.args.bytes.now in
    ap (λ (x : Files). map.get x c.args.name.now) (c.in-Ok.ensures.ok t ∙ ap (λ (m : List ℕ). appended old m bytes) c.as_str.ensures)
    ∙ get_more old c.args.name.now [] bytes empty

pub returns-in-Ok-clause-touches : goal.returns-in-Ok-clause-touches
returns-in-Ok-clause-touches g c = record {
  others = λ t q other.
      ap (λ (x : Files). map.get x q) (c.in-Ok.ensures.ok t)
      ∙ get_other (g.D.Depot.files c.args.depot.now) c.as_str.result.now c.args.bytes.now q (λ same. other (same ∙ c.as_str.ensures));
  only = search rules;
  cause = search rules;
  memory = search rules;
  later = search rules;
}

pub returns-in-Err-clause-err : goal.returns-in-Err-clause-err
returns-in-Err-clause-err g c = λ t empty.
    let old = g.D.Depot.files c.args.depot.now in
    let bytes = c.args.bytes.now in
    let e = c.in-Err.ensures.err t in (
      e.0,
      e.1,
      ap (λ (x : Files). map.get x c.args.name.now) (e.2 ∙ ap (λ (m : List ℕ). appended old m (take e.0 bytes)) c.as_str.ensures)
          ∙ get_more old c.args.name.now [] (take e.0 bytes) empty,
    )

pub returns-in-Err-clause-touches : goal.returns-in-Err-clause-touches
returns-in-Err-clause-touches g c = record {
  others = λ t q other.
      let e = c.in-Err.ensures.err t in
      ap (λ (x : Files). map.get x q) e.2
      ∙ get_other (g.D.Depot.files c.args.depot.now) c.as_str.result.now (take e.0 c.args.bytes.now) q (λ same. other (same ∙ c.as_str.ensures));
  only = search rules;
  cause = search rules;
  memory = search rules;
  later = search rules;
}
