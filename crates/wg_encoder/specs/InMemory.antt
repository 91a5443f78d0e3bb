-- What a record in memory tells.
use Rattle.std.specs.Prelude.{ℕ, ◌+◌, ◌<◌, ◌≤◌, ◌^◌, List, [], ◌∷◌}
use Rattle.wg_encoder.specs.declared.held.HeldField.{HeldField}
use Rattle.wg_greedy.specs.Fields.{Written, written}

-- the field that is held
abbrev pub as_written : HeldField → Written
as_written f = written f.field f.code f.value

-- left ends and lengths, one after the other, of runs that are not empty and have numbers below 2 ^ 62
abbrev pub AreLowRuns : List ℕ → Type 0
AreLowRuns [] = Unit {0}
AreLowRuns (left ∷ []) = Unit {0}
AreLowRuns (left ∷ n ∷ ends) = (0 < n) × (left + n ≤ 2 ^ 62) × AreLowRuns ends
