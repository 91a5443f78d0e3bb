use Rattle.std.proofs.Common.{◌∙◌, refl}
use Rattle.wg_bits.specs.Bits.{bits_of}
use Rattle.wg_source.specs.StepLaws.{step_moves, two_moves}
use Rattle.wg_lookups.proofs.LentLemmas.{cause_lent, found_bits, found_moved, moves_lent, words_lent}
use Rattle.wg_lookups.proofs.SamplingLemmas.{not_cut}
use Rattle.wg_lookups.proofs.sampled.extent_of.Goals as goal

pub returns-in-Ok-true : goal.returns-in-Ok-true
returns-in-Ok-true g c =
    let a = c.new-source.ensures in
    let l = rw (a.depot, a.held, a.name ∙ c.as_str.ensures) at c.in-Ok-true.ensures.reached in
    let k = c.extent.ensures.later in
    record {
      name = refl;
      samples = refl;
      moves = moves_lent g.D.Depot.files g.D.Depot.counts _ _ _ _ _ (assumption) (k.0 ∙ l.0) g.D.Depot.told _ _ _ (two_moves _ _ _ _ _ _ _ _ _ _ _ _ l.2 l.3 (step_moves _ _ _ _ _ _ _ _ k.3));
      onward = c.extent.ensures.onward;
      lies = λ t places on. c.extent.ensures.lies (bits_of on.open_on.file) places (found_moved _ _ _ _ _ _ _ _ _ l.2 l.3 t on.open_on) on.is;
      cause =
          words_lent g.D.Depot.files g.D.Depot.counts _ _ _ _ _ (assumption) (k.0 ∙ l.0) g.D.Depot.told _ c.args.sampled.now _ _ l.2 l.3 c.extent.result c.extent.ensures.no_memory c.extent.ensures.refused c.extent.ensures.right;
    }

pub returns-in-Ok-false : goal.returns-in-Ok-false
returns-in-Ok-false g c =
    let a = c.new-source.ensures in
    let l = rw (a.depot, a.held, a.name ∙ c.as_str.ensures) at c.in-Ok-false.ensures.reached in
    record {
      name = refl;
      samples = refl;
      moves = moves_lent g.D.Depot.files g.D.Depot.counts _ _ _ _ _ (assumption) l.0 g.D.Depot.told _ _ _ l.3;
      onward = tt;
      lies = λ t places on. tt;
      cause = λ t places on.
          not_cut c.args.sampled.now.samples on.open_on.file places c.args.page c.bit-bit.result
          (c.in-Ok-false.ensures.past (bits_of on.open_on.file) (rw (a.depot, a.held, a.name ∙ c.as_str.ensures) (found_bits _ _ _ _ t on.open_on)) c.in-Ok-false.field-0-test)
          c.bit-bit.ensures.kept c.bit-bit.ensures.value on.is;
    }

pub returns-in-Err : goal.returns-in-Err
returns-in-Err g c =
    let a = c.new-source.ensures in
    let l = rw (a.depot, a.held, a.name ∙ c.as_str.ensures) at c.in-Err.ensures.reached in
    record {
      name = refl;
      samples = refl;
      moves = moves_lent g.D.Depot.files g.D.Depot.counts _ _ _ _ _ (assumption) l.0 g.D.Depot.told _ _ _ l.3;
      onward = tt;
      lies = λ t places on. tt;
      cause = cause_lent g.D.Depot.files g.D.Depot.counts _ _ _ _ _ (assumption) l.0 g.D.Depot.told _ _ c.in-Err.error (rw (a.depot, a.held, a.name ∙ c.as_str.ensures) at c.in-Err.ensures.refused);
    }
