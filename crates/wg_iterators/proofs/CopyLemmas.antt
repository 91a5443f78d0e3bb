-- The members that a mask copies.
use Rattle.std.proofs.Common.{◌≡◌, ℕ, ◌+◌, Bool, cond, List, [], ◌∷◌, refl, ap, ◌∙◌}
use Rattle.wg_graph.specs.Copied.{is_copied, at_positions}
use Rattle.wg_iterators.specs.Fronts.{copied_of}

shifted : (f g : ℕ → Bool) (k : ℕ) (xs : List ℕ) → ((q : ℕ) → g q ≡ f (q + 1)) → at_positions f (k + 1) xs ≡ at_positions g k xs
shifted f g k [] on = refl
shifted f g k (x ∷ xs) on = rw (on k, shifted f g (k + 1) xs on) refl

-- The next member below, given to the mask. A step of a mask answers whether it copies, and leaves the blocks from the
-- next position on.
pub member_next : (m new : List ℕ) {b : Bool} (x : ℕ) {copied : List ℕ} (old xs : List ℕ) → copied ≡ copied_of m old → old ≡ x ∷ xs
    → b ≡ is_copied m 0 → ((q : ℕ) → is_copied new q ≡ is_copied m (q + 1))
    → copied ≡ cond b (x ∷ copied_of new xs) (copied_of new xs)
member_next m new {b} x {copied} old xs same is here on = same ∙ ap (copied_of m) is ∙ rw (here, ← shifted (is_copied m) (is_copied new) 0 xs on) refl
