-- The numbers that the words give are within their limits.
use Rattle.std.proofs.Common.{◌≡◌, ℕ, ◌≤◌, Bool, false, Option, Some, None, cond, arith}
use Rattle.std.proofs.lemmas.Option.{option_and_then_some}
use Rattle.clap.specs.Words.{Text}
use Rattle.wg_words.specs.Values.{number_up_to, number_or}

pub up_to_within : (most : ℕ) (text : Text) (v : ℕ) → number_up_to most text ≡ Some v → v ≤ most
up_to_within most text v is = grind (arith, option_and_then_some)

pub number_within : (default most : ℕ) (o : Option Text) (v : ℕ) → default ≤ most → number_or default most o ≡ Some v → v ≤ most
number_within default most o v h h2 = grind arith

-- the first of two answers or the other
pub first_or_other : {A : Type 0} (P : A → Type 0) (b : Bool) (x : A) (other : Option A) (y : A) → P x → (other ≡ Some y → P y) → cond b (Some x) other ≡ Some y → P y
first_or_other P b x other y h h2 h3 = grind arith

-- no answer, or one
pub some_unless : {A : Type 0} (P : A → Type 0) (b : Bool) (o : Option A) (y : A) → (b ≡ false → o ≡ Some y → P y) → cond b None o ≡ Some y → P y
some_unless P b o y h h2 = grind arith
