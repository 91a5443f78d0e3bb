-- What is not copied.
use Rattle.std.proofs.Common.{◌≡◌, ℕ, zero, suc, ◌<◌, ◌≤◌, Bool, true, List, [], ◌∷◌, length, get_or, inl, inr, arith}
use Rattle.std.specs.Prelude.{filter}
use Rattle.std.proofs.lemmas.Bool.{cases_Bool, and_parts, leb-true, ltb-true}
use Rattle.wg_graph.specs.Ascending.{Ascends, Below}
use Rattle.wg_graph.proofs.Sets.{ascends_more}
use Rattle.wg_intervals.specs.declared.run.Run.{Run}
use Rattle.wg_intervals.specs.Canonical.{is_long}

pub long_enough : (least : ℕ) (run : Run) → is_long least run ≡ true → (0 < least) × (least ≤ run.length)
long_enough least run h = let parts = and_parts _ _ h in (ltb-true 0 least parts.0, leb-true least run.length parts.1)

pub ascends-filter : (p : ℕ → Bool) (n : ℕ) (xs : List ℕ) → Ascends n xs → Ascends n (filter p xs)
ascends-filter p n [] up = tt
ascends-filter p n (x ∷ xs) up =
    let rest = ascends-filter p (suc x) xs up.1 in
    elim (cases_Bool (p x)) [ inl h ↦ rw h (up.0, rest) | inr h ↦ rw h (ascends_more n (suc x) (filter p xs) (omega (arith, up.0)) rest) ]

pub below_at : (n : ℕ) (xs : List ℕ) (i : ℕ) → Below n xs → i < length xs → get_or xs i 0 < n
below_at n [] i low lt = absurd (omega arith)
below_at n (x ∷ xs) zero low lt = low.0
below_at n (x ∷ xs) (suc i) low lt = below_at n xs i low.1 (omega arith)
