-- How far an offsets file is read.
use Rattle.std.specs.Prelude.{◌≡◌, ℕ, ◌+◌, Bool, List, [], length, drop, sum, None}
use Rattle.wg_params.specs.declared.code.Code.{Code}
use Rattle.wg_codes.specs.declared.outcome.Read.{Read}
use Rattle.wg_codes.specs.declared.outcome.Read.TheVariants.{Value}
use Rattle.wg_codes.specs.Words.{word, top}
use Rattle.wg_codes.specs.Reading.{Reads}
use Rattle.wg_grammar.specs.declared.fault.OffsetWord.{OffsetWord}
use Rattle.wg_offsets.specs.declared.error.OffsetsError.{OffsetsError}
use Rattle.wg_offsets.specs.declared.error.OffsetsError.TheVariants as errors
use Rattle.wg_offsets.specs.Words.{refusal, Words, places_of}

-- what holds of the fault, if the error is one; memory may run out at any time
abbrev pub IfWord : OffsetsError → (OffsetWord → Type 0) → Type 0
IfWord (errors.Word w) P = P w
IfWord errors.Memory P = Unit {0}

-- so many words stand from the first bit to the bit at; they lead to these places, the last of which is this one
pub record WordsStand (c : Code) (bits : List Bool) (count at offset : ℕ) (places : List ℕ) : Type 0 where
  pub read : List ℕ
  pub values : List ℕ
  pub words : Words c bits [] 0 read values at
  pub number : length values ≡ count
  pub total : sum values ≡ offset
  pub lead : places ≡ places_of values

-- the next word stands between the two places, and leads from one offset of a record to the next
abbrev pub LeadsTo : Code → List Bool → ℕ → ℕ → ℕ → ℕ → ℕ → Type 0
LeadsTo c bits number offset at next end =
    (v : ℕ) × Reads (word c) (top c) (drop at bits) (Value v) × (refusal number offset (Value v) ≡ None)
    × (next ≡ offset + v) × (end ≡ at + length (word c v))

-- what was read is a word that leads from one offset of a record to the next, if so many words stand before it
abbrev pub LeadsBy : ℕ → ℕ → Read → ℕ → Type 0
LeadsBy number offset r next = (v : ℕ) × (r ≡ Value v) × (refusal number offset (Value v) ≡ None) × (next ≡ offset + v)

-- the code; the number of records; how many words were read, and the offset that they lead to
pub record WordsRead : Type 0 where
  pub code : Code
  pub pages : ℕ
  pub count : ℕ
  pub offset : ℕ

-- these are the places that the words lead to that were read; the next word begins at the bit at
abbrev pub AreRead : List Bool → WordsRead → ℕ → List ℕ → Type 0
AreRead bits w at places = WordsStand w.code bits w.count at w.offset places
