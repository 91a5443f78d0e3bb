-- What holds of all texts that are written.
use Rattle.std.specs.Prelude.{◌≡◌, ℕ, ◌+◌, ◌^◌, ◌<◌, length, take, Ok, IsErr}
use Rattle.wg_params.specs.Parameters.{Parameters, IsWithinLimits}
use Rattle.wg_properties.specs.Judged.{properties_of}
use Rattle.wg_properties.specs.Text.{text_of}

-- The text of parameters, read, gives them again.
abbrev pub ReadsBack : Type 0
ReadsBack = (p : Parameters) → IsWithinLimits p → properties_of (text_of p) ≡ Ok p

-- A prefix of the text that lacks more than its last byte, an LF, is refused.
abbrev pub PrefixesAreRefused : Type 0
PrefixesAreRefused = (p : Parameters) (n : ℕ) → IsWithinLimits p → n + 1 < length (text_of p)
    → IsErr (properties_of (take n (text_of p)))

-- The text has fewer bytes than this.
abbrev pub AreShort : Type 0
AreShort = (p : Parameters) → IsWithinLimits p → length (text_of p) < 2 ^ 9
