use Rattle.std.proofs.Common.{◌≡◌, ℕ, ◌+◌, ◌*◌, ◌/◌, ◌%◌, ap}
use native.Mathlib.Nat.{mod-add-mod}
use Rattle.wg_vectors.specs.Generated.{Drafted, next_state, drawn}
use Rattle.wg_vectors.proofs.drafting.Draft.draw.Goals as goal

stepped : (s : ℕ) → (s * 6364136223846793005 % 18446744073709551616 + 1442695040888963407) % 18446744073709551616 ≡ next_state s
unfolding next_state
stepped s = mod-add-mod (s * 6364136223846793005) 18446744073709551616 1442695040888963407

pub returns-clause-value : goal.returns-clause-value
unfolding drawn
returns-clause-value c = rw (← c.self.view_is) (ap (λ (n : ℕ). n / 8589934592) (stepped c.self.inside.state))

pub returns-clause-after : goal.returns-clause-after
returns-clause-after c =
    let left : ℕ → Drafted = λ n. record { list = c.self.inside.list.items; state = n } in
    rw (← c.self.view_is) (ap left (stepped c.self.inside.state))
