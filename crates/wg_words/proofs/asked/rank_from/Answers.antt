use Rattle.std.proofs.Common.{refl}
use Rattle.wg_words.proofs.asked.rank_from.Goals as goal

pub returns-in_default : goal.returns-in_default
returns-in_default c = rw (← c.in_default.ensures) refl

pub returns-in_default-number_at : goal.returns-in_default-number_at
returns-in_default-number_at c = rw (← c.in-Some.ensures, ← c.in_default-number_at.ensures) refl

pub returns-in_default-number_at-2 : goal.returns-in_default-number_at-2
returns-in_default-number_at-2 c = rw (← c.in-Some.ensures, ← c.in-Some-number_at.ensures, ← c.in_default-number_at-2.ensures) refl

pub returns : goal.returns
returns c =
    rw (← c.in-Some.ensures, ← c.in-Some-number_at.ensures, ← c.in-Some-number_at-2.ensures, c.in_ok-base.ensures, c.in_ok-weights.ensures, c.in_ok-optional.ensures) refl
