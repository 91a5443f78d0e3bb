use Rattle.std.proofs.Common.{arith, length-drop}
use Rattle.wg_outside.specs.declared.limits.TheConstants.{MOST_BYTES}
use Rattle.wg_source.proofs.HeldLemmas.{piece_at}
use Rattle.wg_source.proofs.stretch.Stretch.look_now.Goals as goal

pub returns-then-count-gt0-clause-cause : goal.returns-then-count-gt0-clause-cause
returns-then-count-gt0-clause-cause g c = record {
  absent = λ x. absurd (cc x);
  failed = λ x. absurd (cc x);
  memory = λ x. absurd (cc x);
  there = λ t file is x. absurd (cc x);
  long = λ t file is i x.
      let p = piece_at _ file (MOST_BYTES) _ c.in_ok-count.count is (c.in_ok-count.ensures.bytes t) in
      omega (arith, p.within, length-drop (MOST_BYTES) file, c.if-count-gt0.true);
}
