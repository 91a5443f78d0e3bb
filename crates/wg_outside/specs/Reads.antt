-- What a read of a told file answers.
use Rattle.std.specs.Prelude.{◌≡◌, ◌≢◌, ℕ, ◌<◌, ◌≤◌, List, length, take, drop, Option, Some, None, Result, Err, MatchResult}
use Rattle.wg_outside.specs.declared.limits.TheConstants.{MOST_BYTES}
use Rattle.wg_outside.specs.declared.depot.ReadError.{ReadError}
use Rattle.wg_outside.specs.declared.depot.ReadError.TheVariants as read
use Rattle.wg_outside.specs.declared.whole.LoadError.{LoadError}
use Rattle.wg_outside.specs.declared.whole.LoadError.TheVariants as load

-- the front of the buffer is the file's bytes from there on, and it is empty only at the end
pub record IsPieceOf (file : List ℕ) (at : ℕ) (buf : List ℕ) (count : ℕ) : Type 0 where
  pub bytes : take count buf ≡ take count (drop at file)
  pub within : count ≤ length (drop at file)
  pub end : count ≡ 0 → length file ≤ at

abbrev pub Reads : Option (List ℕ) → ℕ → List ℕ → Result ℕ ReadError → Type 0
Reads None at buf r = r ≡ Err read.Absent
Reads (Some file) at buf r = MatchResult r (λ count. IsPieceOf file at buf count) (λ e. e ≢ read.Absent)

abbrev pub load_error : ReadError → LoadError
load_error read.Failed = load.Failed
load_error read.Absent = load.Absent
load_error read.Memory = load.Memory

-- a file that is read whole: absent exactly if there is none, too long exactly if it is longer than the limit
abbrev pub Loads : Option (List ℕ) → Result (List ℕ) LoadError → Type 0
Loads None r = r ≡ Err load.Absent
Loads (Some file) r =
    MatchResult r (λ bytes. (bytes ≡ file) × (length file ≤ MOST_BYTES))
    (λ e. (e ≢ load.Absent) × (e ≡ load.TooLong → MOST_BYTES < length file))
