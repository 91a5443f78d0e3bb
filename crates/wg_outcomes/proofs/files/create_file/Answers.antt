use Rattle.std.proofs.Common.{◌∙◌, List, ℕ, ap, rules}
use Rattle.std.specs.FinMap as map
use Rattle.wg_outside.specs.Outside.{Files, created}
use Rattle.wg_outcomes.proofs.WritingLemmas.{created_here, created_there}
use Rattle.wg_outcomes.proofs.files.create_file.Goals as goal

pub returns-in-Ok-clause-ok : goal.returns-in-Ok-clause-ok
returns-in-Ok-clause-ok g c = λ t.
    created_here (g.D.Depot.files c.args.depot.now) _ c.args.name.now
    (c.in-Ok.ensures.ok t ∙ ap (λ (m : List ℕ). created (g.D.Depot.files c.args.depot.now) m) c.as_str.ensures)

pub returns-in-Ok-clause-touches : goal.returns-in-Ok-clause-touches
returns-in-Ok-clause-touches g c = record {
  others = λ t q other. created_there _ _ c.as_str.result.now q (c.in-Ok.ensures.ok t) (λ same. other (same ∙ c.as_str.ensures));
  only = search rules;
  cause = search rules;
  memory = search rules;
  later = search rules;
}

pub returns-in-Err-clause-touches : goal.returns-in-Err-clause-touches
returns-in-Err-clause-touches g c = record {
  others = λ t q other. ap (λ (x : Files). map.get x q) c.in-Err.ensures.err;
  only = search rules;
  cause = search rules;
  memory = search rules;
  later = search rules;
}
