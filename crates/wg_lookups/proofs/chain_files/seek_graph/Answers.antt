use Rattle.std.proofs.Common.{◌∙◌, refl}
use Rattle.wg_lookups.proofs.LentLemmas.{cause_lent, moves_lent}
use Rattle.wg_lookups.proofs.chain_files.seek_graph.Goals as goal

pub returns-in-Ok : goal.returns-in-Ok
returns-in-Ok g c =
    let a = c.new-source.ensures in
    let l = rw (a.depot, a.held, a.name ∙ c.as_str.ensures) at c.in-Ok.ensures.reached in
    record {
      name = refl;
      moves = moves_lent g.D.Depot.files g.D.Depot.counts _ _ _ _ _ (assumption) l.0 g.D.Depot.told _ _ _ l.3;
      cause = λ s. tt;
      there = c.in-Ok.ensures.there;
      past = λ bits r. c.in-Ok.ensures.past bits (rw (a.depot, a.held, a.name ∙ c.as_str.ensures) r);
    }

pub returns-in-Err : goal.returns-in-Err
returns-in-Err g c =
    let a = c.new-source.ensures in
    let l = rw (a.depot, a.held, a.name ∙ c.as_str.ensures) at c.in-Err.ensures.reached in
    record {
      name = refl;
      moves = moves_lent g.D.Depot.files g.D.Depot.counts _ _ _ _ _ (assumption) l.0 g.D.Depot.told _ _ _ l.3;
      cause = λ s. cause_lent g.D.Depot.files g.D.Depot.counts _ _ _ _ _ (assumption) l.0 g.D.Depot.told _ _ c.in-Err.error (rw (a.depot, a.held, a.name ∙ c.as_str.ensures) at c.in-Err.ensures.refused);
      there = tt;
      past = λ bits r. tt;
    }
