-- The head of a record, as it was read.
use Rattle.std.specs.Prelude.{◌≡◌, ℕ, Bool, ◌&&◌, nat_lt, List}
use Rattle.wg_params.specs.Parameters.{Parameters}
use Rattle.wg_bits.specs.Bits.{Position, rest}
use Rattle.wg_codes.specs.Standing.{IsWord}
use Rattle.wg_decoder.specs.declared.proper.head.RecordHead.{RecordHead}
use Rattle.wg_decoder.specs.Proper.Laid.{MaybeWord}

-- the words of an outdegree and a reference, if they stand at these bits, are of these values, with those bits behind
abbrev pub TakesHead : Parameters → List Bool → List Bool → ℕ → ℕ → Type 0
TakesHead p z after outdegree reference =
    (d r : ℕ) (mid behind : List Bool) → IsWord p.outdegrees d z mid
    → MaybeWord (nat_lt 0 d && nat_lt 0 p.window) p.references r mid behind → (d ≡ outdegree) × (r ≡ reference)
    × (behind ≡ after)

-- the head was read at this position
abbrev pub IsReadHead : Parameters → Position → RecordHead → Type 0
IsReadHead p position h = TakesHead p (rest position) (rest h.words) h.outdegree h.reference
