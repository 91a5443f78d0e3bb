-- What the calls answer.
use Rattle.std.specs.Prelude.{◌≡◌, ◌⊎◌, ℕ, ◌<◌, List, [], ◌∷◌, ◌++◌, length, drop, IsSome}
use Rattle.wg_outside.specs.declared.limits.TheConstants.{MOST_BYTES}
use Rattle.wg_params.specs.Parameters.{first_bad}
use Rattle.wg_c.specs.declared.params.WgParams.{WgParams}
use Rattle.wg_c.specs.Numbers.{params_in}

-- a status is one of these
abbrev pub OneOf : List ℕ → ℕ → Type 0
OneOf [] status = ⊥
OneOf (s ∷ more) status = (status ≡ s) ⊎ OneOf more status

-- These are the parameters of no archive, or the file is longer than a file may be.
abbrev pub IsMisused : WgParams → List ℕ → Type 0
IsMisused params file = IsSome (first_bad (params_in params)) ⊎ (MOST_BYTES < length file)

-- the array begins with this list, and is as before behind it
abbrev pub BeginsWith : List ℕ → List ℕ → List ℕ → Type 0
BeginsWith list old new = new ≡ list ++ drop (length list) old
