-- What is wanted only if it is below a bound.
use Rattle.std.proofs.Common.{◌≡◌, ℕ, ◌-◌, ◌<◌, ◌≤◌, Bool, true, false, List, refl, sym, ap, ◌∙◌, arith, cond, length}
use Rattle.std.specs.Prelude.{Option, Some, None}
use Rattle.std.specs.Option.{ForSome}
use Rattle.wg_greedy.specs.Fields.{Written, bits_of_fields, all_have_words}
use Rattle.wg_encoder.specs.Cost.{cost_of, room_after, IsFewer}

same_bits : (m n : ℕ) → Some m ≡ Some n → m ≡ n
same_bits m n e = cc

none_some : (n : ℕ) → None ≡ Some n → ⊥
none_some n e = cc

-- no room is left if the fields are not fewer
none_fewer : (most bits : ℕ) (words : Bool) → cond words (most - bits) 0 ≡ 0 → IsFewer most (cond words (Some bits) None) None
none_fewer most bits true none n e = let same = same_bits bits n e in omega arith
none_fewer most bits false none n e = absurd (none_some n e)

some_fewer : (most bits left : ℕ) (words : Bool) → left ≡ cond words (most - bits) 0 → 0 < left → cond words (Some bits) None ≡ Some (most - left)
some_fewer most bits left true is some = ap Some (omega arith)
some_fewer most bits left false is some = absurd (omega arith)

pub none_left_fewer : (most left : ℕ) (fields : List Written) → left ≡ room_after most fields → left ≡ 0 → IsFewer most (cost_of fields) None
none_left_fewer most left fields is none = none_fewer most (length (bits_of_fields fields)) (all_have_words fields) (sym is ∙ none)

pub left_fewer : (most left : ℕ) (fields : List Written) → left ≡ room_after most fields → 0 < left → cost_of fields ≡ Some (most - left)
left_fewer most left fields is some = some_fewer most (length (bits_of_fields fields)) left (all_have_words fields) is some

within : (most bits : ℕ) (words : Bool) → cond words (most - bits) 0 ≤ most
within most bits true = omega arith
within most bits false = omega arith

pub left_within : (most left : ℕ) (fields : List Written) → left ≡ room_after most fields → left ≤ most
left_within most left fields is = omega (arith, is, within most (length (bits_of_fields fields)) (all_have_words fields))

-- none is below so many
pub fewer_all : (most : ℕ) (cost r : Option ℕ) → IsFewer most cost r → ForSome cost (λ n. n < most) → r ≡ cost
fewer_all most None None h low = refl
fewer_all most (Some n) None h low = absurd (let a = h n refl in let b = low n refl in omega arith)
fewer_all most cost (Some n) h low = sym h
