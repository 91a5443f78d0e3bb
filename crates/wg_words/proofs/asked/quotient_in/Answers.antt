use Rattle.std.proofs.Common.{refl}
use Rattle.wg_words.proofs.asked.quotient_in.Goals as goal

pub returns-in_default : goal.returns-in_default
returns-in_default c = rw (← c.in_default.ensures) refl

pub returns-in_default-name_at : goal.returns-in_default-name_at
returns-in_default-name_at c = rw (← c.in-Some.ensures, ← c.in_default-name_at.ensures) refl

pub returns-then-is_file_of : goal.returns-then-is_file_of
returns-then-is_file_of c = rw (← c.in-Some.ensures, ← c.in-Some-name_at.ensures, ← c.if-is_file_of.ensures) refl

pub returns-in_default-required_at : goal.returns-in_default-required_at
returns-in_default-required_at c = rw (← c.in-Some.ensures, ← c.in-Some-name_at.ensures, ← c.if-is_file_of.ensures, ← c.in_default-required_at.ensures) refl

pub returns : goal.returns
returns c =
    rw (← c.in-Some.ensures, ← c.in-Some-name_at.ensures, ← c.if-is_file_of.ensures, ← c.in-Some-required_at.ensures, c.in_ok-conversion.ensures, c.in_ok-map.ensures) refl
