-- The exit status of the program.
use Rattle.std.specs.Prelude.{ℕ}
use Rattle.wg_outcomes.specs.declared.status.Status.{Status}
use Rattle.wg_outcomes.specs.declared.status.Status.TheVariants.{Done, Usage, Memory, ReadFault, WriteFault, Missing, BadArcs, BadProperties, BadArchive, BadSecond, TooManyArcs, NoPage, OverLimit, BadWeights, BadText, BadMap, BadCertificate}
use Rattle.wg_outcomes.specs.declared.status.SecondFault.TheVariants as second

abbrev pub code_of : Status → ℕ
code_of Done = 0
code_of Usage = 2
code_of Memory = 3
code_of (ReadFault i) = 4
code_of (WriteFault o) = 5
code_of (Missing i) = 6
code_of (BadArcs line kind) = 7
code_of (BadProperties f) = 8
code_of (BadArchive f) = 9
code_of (BadSecond (second.Properties f)) = 8
code_of (BadSecond (second.Archive f)) = 9
code_of TooManyArcs = 14
code_of (NoPage page) = 10
code_of (OverLimit i) = 11
code_of (BadWeights f) = 12
code_of (BadText line kind) = 13
code_of (BadMap f) = 15
code_of (BadCertificate f) = 16
