-- What the properties promise, as an ending names it.
use Rattle.std.specs.Prelude.{◌≡◌, ◌⊎◌, ℕ, List, Option, Some, Result, Ok, Err}
use Rattle.wg_params.specs.Parameters.{Parameters}
use Rattle.wg_properties.specs.Judged.{properties_of}
use Rattle.wg_grammar.specs.declared.fault.ArchiveFault.{ArchiveFault}
use Rattle.wg_grammar.specs.declared.fault.ArchiveFault.TheVariants as archive
use Rattle.wg_outcomes.specs.Names.{IsOfInput, file_of_fault}
use Rattle.wg_outcomes.specs.declared.ending.Ending.{Ending}
use Rattle.wg_outcomes.specs.declared.status.Input.{Input}
use Rattle.wg_outcomes.specs.declared.status.Input.TheVariants as input
use Rattle.wg_outcomes.specs.declared.status.Status.{Status}
use Rattle.wg_outcomes.specs.declared.status.Status.TheVariants.{Memory, BadArchive, BadMap, BadSecond, BadWeights}
use Rattle.wg_outcomes.specs.declared.status.SecondFault.TheVariants as second
use Rattle.wg_outcomes.specs.declared.status.WeightsFault.TheVariants as weights

-- the properties text that is held, if it is in order, promises this number
abbrev pub IsPromised : Option (List ℕ) → (Parameters → ℕ) → ℕ → Type 0
IsPromised held number promised = (text : List ℕ) (p : Parameters) → held ≡ Some text → properties_of text ≡ Ok p
    → promised ≡ number p

-- what the properties promise, if the line of the status names it: arcs beside fewer, or pages beside numbers
abbrev pub ArePromised : (Input → Option (List ℕ)) → Status → ℕ → Type 0
ArePromised held (BadArchive (archive.ArcsShort total)) promised =
    IsPromised (held input.Properties) (λ p. p.arcs) promised
ArePromised held (BadSecond (second.Archive (archive.ArcsShort total))) promised =
    IsPromised (held input.SecondProperties) (λ p. p.arcs) promised
ArePromised held (BadWeights (weights.Numbers f)) promised = IsPromised (held input.Properties) (λ p. p.nodes) promised
ArePromised held (BadMap f) promised = IsPromised (held input.Properties) (λ p. p.nodes) promised
ArePromised held status promised = Unit {0}

-- memory ran out, or this file is at fault, and the ending names what is promised
abbrev pub IsBadFile : Input → ℕ → Ending → Type 0
IsBadFile i promised e =
    (e.status ≡ Memory) ⊎
    ((f : ArchiveFault) × (file_of_fault f ≡ i) × (e.status ≡ BadArchive f) × (e.promised ≡ promised))

-- what an ending names as promised
abbrev pub promised_in : {B : Type 0} → Result B Ending → ℕ
promised_in (Ok b) = 0
promised_in (Err e) = e.promised

-- an input was not read, or is at fault, and then the ending names what is promised
abbrev pub IsStopAt : Input → ℕ → Ending → Type 0
IsStopAt i promised e = IsOfInput i e.status ⊎ IsBadFile i promised e
