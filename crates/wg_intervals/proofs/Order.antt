-- The numbers inside intervals ascend.
use Rattle.std.proofs.Common.{◌≡◌, ℕ, zero, suc, ◌+◌, ◌≤◌, Bool, List, [], ◌∷◌, ◌++◌, ap, subst, arith}
use Rattle.std.specs.Prelude.{Option, Some, None}
use Rattle.std.specs.List.{range_with_len}
use Rattle.wg_graph.specs.Ascending.{Ascends}
use Rattle.wg_intervals.specs.Stored.{StandAt, numbers_inside}

ascends_from : (n m : ℕ) (xs : List ℕ) → n ≤ m → Ascends m xs → Ascends n xs
ascends_from n m [] le a = tt
ascends_from n m (x ∷ xs) le a = let first = a.0 in (omega (arith, le, first), a.1)

pub range_ascends : (n l k : ℕ) (xs : List ℕ) → n ≤ l → Ascends (l + k) xs → Ascends n (range_with_len l k ++ xs)
range_ascends n l zero xs le a = ascends_from n (l + 0) xs (omega (arith, le)) a
range_ascends n l (suc k) xs le a = (le, range_ascends (suc l) (l + 1) k xs (omega arith) (subst (λ (j : ℕ). Ascends j xs) (omega arith) a))

number_in : Option ℕ → ℕ
number_in None = 0
number_in (Some n) = n

past_left : (past v l : ℕ) → Some (past + 1 + v) ≡ Some l → past ≤ l
unfolding number_in
past_left past v l is = let e : past + 1 + v ≡ l = ap number_in is in omega (arith, e)

later_ascend : (page least past : ℕ) (ls ns : List ℕ) (bits : List Bool) → StandAt page least (Some past) ls ns bits → Ascends past (numbers_inside ls ns)
later_ascend page least past [] ns bits stand = tt
later_ascend page least past (l ∷ ls) [] bits stand = absurd stand
later_ascend page least past (l ∷ ls) (n ∷ ns) bits stand =
    range_ascends past l n (numbers_inside ls ns) (past_left past stand.1.v l stand.1.left_is) (later_ascend page least (l + n) ls ns stand.0 stand.2)

pub inside_ascend : (page least : ℕ) (ls ns : List ℕ) (bits : List Bool) → StandAt page least None ls ns bits → Ascends 0 (numbers_inside ls ns)
inside_ascend page least [] ns bits stand = tt
inside_ascend page least (l ∷ ls) [] bits stand = absurd stand
inside_ascend page least (l ∷ ls) (n ∷ ns) bits stand = range_ascends 0 l n (numbers_inside ls ns) (omega arith) (later_ascend page least (l + n) ls ns stand.0 stand.2)
