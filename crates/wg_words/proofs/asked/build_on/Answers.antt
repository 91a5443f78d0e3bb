use Rattle.std.proofs.Common.{ap, refl}
use Rattle.clap.specs.Words.{Text}
use Rattle.wg_words.proofs.asked.build_on.Goals as goal

pub returns-in_default : goal.returns-in_default
returns-in_default c = rw (← c.in_default.ensures) refl

pub returns-then-is_file_of : goal.returns-then-is_file_of
returns-then-is_file_of c = rw (← c.in-Some.ensures, ← c.if-is_file_of.ensures) refl

pub returns-in_default-required_at : goal.returns-in_default-required_at
returns-in_default-required_at c = rw (← c.in-Some.ensures, ← c.if-is_file_of.ensures, ← c.in_default-required_at.ensures) refl

pub returns-in_default-layout_at : goal.returns-in_default-layout_at
returns-in_default-layout_at c = rw (← c.in-Some.ensures, ← c.if-is_file_of.ensures, ← c.in-Some-required_at.ensures, ← c.in_default-layout_at.ensures) refl

pub returns : goal.returns
returns c =
    let copied = c.in_ok-arcs.ensures in
    rw (
      ← c.in-Some.ensures,
      ← c.if-is_file_of.ensures,
      ← c.in-Some-required_at.ensures,
      ← c.in-Some-layout_at.ensures,
      ap (λ (p : Text × Text). p.0) copied,
      ap (λ (p : Text × Text). p.1) copied,
    ) refl
