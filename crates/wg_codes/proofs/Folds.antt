use Rattle.std.proofs.Common.{◌≡◌, ℕ, ◌+◌, ◌-◌, ◌/◌, ◌%◌, ℤ, pos, negsuc, Some, None, ◌<◌, ◌≤◌, ◌-ℤ◌, sym, ap, ◌∙◌, ⊎_elim, arith}
use Rattle.std.proofs.lemmas.Int.{ints}
use Rattle.std.proofs.lemmas.Bool.{cond-true, cond-false, eq-eqb, ne_eqb, cases_eq, cases_lt, le-leb, lt-leb}
use Rattle.wg_codes.specs.Fold.{folded, unfolded, unfolded_from}
use Rattle.wg_codes.specs.Laws.{FoldsBack, UnfoldsFrom}

folds : (e : ℤ) → unfolded (folded e) ≡ e
folds e = grind arith

unfolds : (v : ℕ) → folded (unfolded v) ≡ v
unfolds v = grind arith

pub folds_back : FoldsBack
folds_back = (folds, unfolds)

up_from : (x y : ℕ) → x ≤ y → pos y -ℤ pos x ≡ pos (y - x)
up_from x y l = omega (arith, ints)

down_from : (x y : ℕ) → y < x → pos y -ℤ pos x ≡ negsuc (x - y - 1)
down_from x y l = omega (arith, ints)

from_even : (x v : ℕ) → v % 2 ≡ 0 → unfolded_from x v ≡ Some (x + v / 2)
from_even x v e = cond-true _ _ _ (eq-eqb (v % 2) 0 e)

from_odd : (x v : ℕ) → (v % 2 ≡ 0 → ⊥) → v / 2 + 1 ≤ x → unfolded_from x v ≡ Some (x - (v / 2 + 1))
from_odd x v n l = cond-false _ _ _ (ne_eqb (v % 2) 0 n) ∙ cond-true _ _ _ (le-leb (v / 2 + 1) x l)

from_none : (x v : ℕ) → (v % 2 ≡ 0 → ⊥) → x < v / 2 + 1 → unfolded_from x v ≡ None
from_none x v n l = cond-false _ _ _ (ne_eqb (v % 2) 0 n) ∙ cond-false _ _ _ (lt-leb (v / 2 + 1) x l)

some_same : (a b : ℕ) → Some a ≡ Some b → a ≡ b
some_same a b e = cc

some_none : (a : ℕ) → None ≡ Some a → ⊥
some_none a e = cc

distance_folds : (x v y : ℕ) → unfolded_from x v ≡ Some y → folded (pos y -ℤ pos x) ≡ v
distance_folds x v y e = ⊎_elim
    (λ (even : v % 2 ≡ 0).
    let at : x + v / 2 ≡ y = some_same _ _ (sym (from_even x v even) ∙ e) in
    ap folded (up_from x y (omega arith)) ∙ omega arith)
    (λ odd. ⊎_elim
    (λ (low : x < v / 2 + 1). absurd (some_none y (sym (from_none x v odd low) ∙ e)))
    (λ (high : v / 2 + 1 ≤ x).
    let at : x - (v / 2 + 1) ≡ y = some_same _ _ (sym (from_odd x v odd high) ∙ e) in
    ap folded (down_from x y (omega arith)) ∙ omega arith)
    (cases_lt x (v / 2 + 1)))
    (cases_eq (v % 2) 0)

folds_distance : (x v y : ℕ) → folded (pos y -ℤ pos x) ≡ v → unfolded_from x v ≡ Some y
folds_distance x v y e = grind arith

pub unfolds_from : UnfoldsFrom
unfolds_from x v y = (distance_folds x v y, folds_distance x v y)
