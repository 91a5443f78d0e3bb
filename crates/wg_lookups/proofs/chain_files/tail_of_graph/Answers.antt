use Rattle.std.proofs.Common.{◌∙◌, refl}
use Rattle.wg_lookups.proofs.LentLemmas.{cause_lent, steps_lent}
use Rattle.wg_lookups.proofs.chain_files.tail_of_graph.Goals as goal

pub returns-in-Ok : goal.returns-in-Ok
returns-in-Ok g c =
    let a = c.new-source.ensures in
    let l = rw (a.depot, a.held, a.name ∙ c.as_str.ensures) at c.in-Ok.ensures.later in
    record {
      name = refl;
      steps = steps_lent g.D.Depot.files g.D.Depot.counts _ _ _ _ _ (assumption) l.0 g.D.Depot.told _ _ _ l.3;
      cause = λ s. tt;
      tail = λ bits r. rw a.held at (c.in-Ok.ensures.tail bits (rw (a.depot, a.held, a.name ∙ c.as_str.ensures) r));
    }

pub returns-in-Err : goal.returns-in-Err
returns-in-Err g c =
    let a = c.new-source.ensures in
    let l = rw (a.depot, a.held, a.name ∙ c.as_str.ensures) at c.in-Err.ensures.later in
    record {
      name = refl;
      steps = steps_lent g.D.Depot.files g.D.Depot.counts _ _ _ _ _ (assumption) l.0 g.D.Depot.told _ _ _ l.3;
      cause = λ s. cause_lent g.D.Depot.files g.D.Depot.counts _ _ _ _ _ (assumption) l.0 g.D.Depot.told _ _ c.in-Err.error (rw (a.depot, a.held, a.name ∙ c.as_str.ensures) at c.in-Err.ensures.refused);
      tail = λ bits r. tt;
    }
