use Rattle.std.proofs.Common.{◌∙◌, refl}
use Rattle.wg_bits.specs.Bits.{bits_of}
use Rattle.wg_lookups.proofs.LentLemmas.{steps_lent, stopped_lent}
use Rattle.wg_lookups.proofs.sampled.samples_of_file.Goals as goal

pub returns-in-Ok : goal.returns-in-Ok
returns-in-Ok g c =
    let a = c.new-source.ensures in
    let l = rw (a.depot, a.held, a.name ∙ c.as_str.ensures) at c.in-Ok.ensures.later in
    record {
      name = refl;
      steps = steps_lent g.D.Depot.files g.D.Depot.counts _ _ _ _ _ (assumption) l.0 g.D.Depot.told _ _ _ l.3;
      limits = c.nodes.ensures.limits;
      pages = c.in-Ok.ensures.pages ∙ c.nodes.ensures.value;
      samples = λ t bytes is at.
          let x = c.in-Ok.ensures.reads (bits_of bytes) (rw (a.depot, a.held, a.name ∙ c.as_str.ensures) (t, (bytes, is, at, refl))) in
          (c.in-Ok.ensures.code ∙ c.offsets.ensures.value, x.0, x.1);
      stopped = λ open_on. tt;
    }

pub returns-in-Err : goal.returns-in-Err
returns-in-Err g c =
    let a = c.new-source.ensures in
    let l = rw (a.depot, a.held, a.name ∙ c.as_str.ensures) at c.in-Err.ensures.later in
    record {
      name = refl;
      steps = steps_lent g.D.Depot.files g.D.Depot.counts _ _ _ _ _ (assumption) l.0 g.D.Depot.told _ _ _ l.3;
      limits = c.nodes.ensures.limits;
      pages = tt;
      samples = λ t bytes is at. tt;
      stopped = stopped_lent g.D.Depot.files g.D.Depot.counts _ _ _ _ _ (assumption) l.0 g.D.Depot.told _ _
          c.args.params.now _ _ c.offsets.ensures.value c.nodes.ensures.value c.in-Err.error _ c.word_ending.ensures
          (rw (a.depot, a.held, a.name ∙ c.as_str.ensures) at c.in-Err.ensures.refused) (λ bits r. c.in-Err.ensures.fault bits (rw (a.depot, a.held, a.name ∙ c.as_str.ensures) r));
    }
