-- A walk over intervals that stand at bits.
use Rattle.std.proofs.Common.{◌≡◌, ℕ, suc, ◌+◌, ◌-◌, ◌<◌, Bool, List, [], ◌∷◌, ◌++◌, length, refl, sym, ap, ◌∙◌, arith}
use Rattle.std.specs.Prelude.{Option, Some, unwrap_or}
use Rattle.std.specs.List.{range_with_len}
use Rattle.wg_params.specs.declared.code.Code.TheVariants.{Gamma}
use Rattle.wg_codes.specs.Standing.{value_at, behind_value}
use Rattle.wg_codes.proofs.Standing.{value_is, behind_is}
use Rattle.wg_intervals.specs.declared.run.Run.{Run}
use Rattle.wg_intervals.specs.Canonical.{numbers_of}
use Rattle.wg_codes.specs.Fold.{number_of_gap}
use Rattle.wg_intervals.specs.Stored.{IsInterval, StandAt, IntervalsStandAt, numbers_inside, numbers_at}

-- what the reader of an interval answers at these bits, and which it leaves
abbrev pub Takes : List Bool → List Bool → ℕ → ℕ → Option ℕ → ℕ → ℕ → Type 0
Takes old new page least past l n = (left len : ℕ) (behind : List Bool) → IsInterval page least past left len old behind → (left ≡ l) × (len ≡ n) × (behind ≡ new)

pub first_of : (page least : ℕ) (past : Option ℕ) (count : ℕ) (bits : List Bool) → 0 < count → IntervalsStandAt page least past count bits
    → (l : ℕ) × (n : ℕ) × (behind : List Bool) × IsInterval page least past l n bits behind
first_of page least past count bits some ([], ns, len, stand) = absurd (omega (arith, some, len))
first_of page least past count bits some (l ∷ ls, [], len, stand) = absurd stand
first_of page least past count bits some (l ∷ ls, n ∷ ns, len, stand) = (l, n, stand.0, stand.1)

same_stand : (page least l n l1 n1 : ℕ) (bits bits1 : List Bool) (ls ns : List ℕ) → l ≡ l1 → n ≡ n1 → bits ≡ bits1 → StandAt page least (Some (l + n)) ls ns bits
    → StandAt page least (Some (l1 + n1)) ls ns bits1
same_stand page least l n l1 n1 bits bits1 ls ns el en eb stand = grind arith

-- behind an interval that was read the others stand
pub left_behind : (old new : List Bool) (page least : ℕ) (past : Option ℕ) (l n count : ℕ) → Takes old new page least past l n → 0 < count
    → IntervalsStandAt page least past count old → IntervalsStandAt page least (Some (l + n)) (count - 1) new
left_behind old new page least past l n count takes some ([], ns, len, stand) = absurd (omega (arith, some, len))
left_behind old new page least past l n count takes some (k ∷ ks, [], len, stand) = absurd stand
left_behind old new page least past l n count takes some (k ∷ ks, m ∷ ms, len, stand) =
    let e = takes k m stand.0 stand.1 in
    (ks, ms, omega (arith, len), same_stand page least k m l n stand.0 new ks ms e.0 e.1 e.2 stand.2)

-- ---- the numbers as a function of the bits

-- those of an interval, and of the others
one_at : (page least : ℕ) (past : Option ℕ) (count l n : ℕ) (bits behind : List Bool) → IsInterval page least past l n bits behind
    → numbers_at page least past (suc count) bits ≡ range_with_len l n ++ numbers_at page least (Some (l + n)) count behind
unfolding numbers_at
one_at page least past count l n bits behind h =
    let between : behind_value Gamma bits ≡ h.between = behind_is Gamma tt h.v bits h.between h.left_word in
    let left : unwrap_or (number_of_gap page past (value_at Gamma bits)) 0 ≡ l =
    ap (λ (k : ℕ). unwrap_or (number_of_gap page past k) 0) (value_is Gamma tt h.v bits h.between h.left_word) ∙ ap (λ (o : Option ℕ). unwrap_or o 0) h.left_is in
    let long : value_at Gamma h.between + least ≡ n = ap (λ (k : ℕ). k + least) (value_is Gamma tt h.w h.between behind h.length_word) ∙ sym h.length_is in
    rw (between, left, long, (behind_is Gamma tt h.w h.between behind h.length_word)) refl

pub numbers_inside_are : (page least : ℕ) (past : Option ℕ) (lefts lengths : List ℕ) (bits : List Bool) → StandAt page least past lefts lengths bits
    → numbers_at page least past (length lefts) bits ≡ numbers_inside lefts lengths
unfolding numbers_at
numbers_inside_are page least past [] [] bits stand = refl
numbers_inside_are page least past [] (n ∷ ns) bits stand = absurd stand
numbers_inside_are page least past (l ∷ ls) [] bits stand = absurd stand
numbers_inside_are page least past (l ∷ ls) (n ∷ ns) bits stand =
    one_at page least past (length ls) l n bits stand.0 stand.1 ∙ ap (λ (xs : List ℕ). range_with_len l n ++ xs) (numbers_inside_are page least (Some (l + n)) ls ns stand.0 stand.2)

count_is : (count less : ℕ) → 0 < count → less ≡ count - 1 → suc less ≡ count
count_is count less some e = omega (arith, some, e)

-- those of an interval that is read, and of those behind it
pub turned : (old new : List Bool) (page least : ℕ) (past : Option ℕ) (l n count : ℕ) → Takes old new page least past l n → 0 < count
    → IntervalsStandAt page least past count old → numbers_at page least past count old ≡ range_with_len l n ++ numbers_at page least (Some (l + n)) (count - 1) new
turned old new page least past l n count takes some stand =
    let first = first_of page least past count old some stand in
    let e = takes first.0 first.1 first.2 first.3 in
    let shape = λ (k m : ℕ) (bits : List Bool). range_with_len k m ++ numbers_at page least (Some (k + m)) (count - 1) bits in
    ap (λ (c : ℕ). numbers_at page least past c old) (sym (count_is count (count - 1) some refl))
    ∙ one_at page least past (count - 1) first.0 first.1 old first.2 first.3
    ∙ ap (λ (k : ℕ). shape k first.1 first.2) e.0
    ∙ ap (λ (m : ℕ). shape l m first.2) e.1
    ∙ ap (λ (bits : List Bool). shape l n bits) e.2

-- an empty run has no numbers
pub begins_with : (run : Run) (xs ys : List ℕ) → run.length ≡ 0 → xs ≡ ys → numbers_of run ++ xs ≡ ys
begins_with run xs ys none e = ap (λ (k : ℕ). range_with_len run.left k ++ xs) none ∙ e

pub none_left : (run : Run) (page least : ℕ) (past : Option ℕ) (count : ℕ) (bits : List Bool) → run.length ≡ 0 → count ≡ 0 → numbers_of run ++ numbers_at page least past count bits ≡ []
unfolding numbers_at
none_left run page least past count bits none last = begins_with run _ [] none (ap (λ (n : ℕ). numbers_at page least past n bits) last)
