-- Lists whose memory serves for later ones stay within the pages that there are.
use Rattle.std.proofs.Common.{◌≡◌, ℕ, ◌≤◌, List, [], length, ap, subst, sym, arith}
use Rattle.wg_decoder.specs.Spare.{SpareLengths, NoneLonger}

abbrev pub lengths : List ℕ → List ℕ → List ℕ → List ℕ → SpareLengths
lengths copied inside united furthest = record { copied = length copied; inside = length inside; united = length united; furthest = length furthest }

-- the one that left the window is lent
pub none_lent : (most : ℕ) (copied inside united furthest lent : List ℕ) (s : SpareLengths) → lengths copied inside united furthest ≡ s → lent ≡ [] → NoneLonger most s → NoneLonger most (lengths copied inside united lent)
none_lent most copied inside united furthest lent s view none h =
    let old = subst (NoneLonger most) (sym view) h in
    record { copied = old.copied; inside = old.inside; united = old.united; furthest = omega (arith, ap (λ (xs : List ℕ). length xs) none) }

-- each becomes one that is no longer, if it was not
pub all_short : (most : ℕ) (copied inside united furthest copied' inside' united' : List ℕ) (s : SpareLengths) → lengths copied inside united furthest ≡ s →
    (length copied ≤ most → length copied' ≤ most) → (length inside ≤ most → length inside' ≤ most) → (length united ≤ most → length united' ≤ most) → NoneLonger most s → NoneLonger most (lengths copied' inside' united' furthest)
all_short most copied inside united furthest copied' inside' united' s view c i u h =
    let old = subst (NoneLonger most) (sym view) h in
    record { copied = c old.copied; inside = i old.inside; united = u old.united; furthest = old.furthest }
