-- An archive that a job reads as its second: its files are inputs of their own, and its faults are reported as those of
-- the second.
use Rattle.std.specs.Prelude.{ℕ, List, Option}
use Rattle.wg_outcomes.specs.Judged.{Judged, refused}
use Rattle.wg_outcomes.specs.declared.ending.Ending.{Ending}
use Rattle.wg_outcomes.specs.declared.status.Input.{Input}
use Rattle.wg_outcomes.specs.declared.status.Input.TheVariants as input
use Rattle.wg_outcomes.specs.declared.status.SecondFault.TheVariants as second
use Rattle.wg_outcomes.specs.declared.status.Status.{Status}
use Rattle.wg_outcomes.specs.declared.status.Status.TheVariants.{ReadFault, Missing, BadProperties, BadArchive, BadSecond, OverLimit}

-- the file of the second archive that corresponds to one of the first
abbrev pub second_input : Input → Input
second_input input.Properties = input.SecondProperties
second_input input.Graph = input.SecondGraph
second_input input.Offsets = input.SecondOffsets
second_input i = i

-- an end at a file of an archive, as one at that file of the second archive
abbrev pub as_second : Status → Status
as_second (ReadFault i) = ReadFault (second_input i)
as_second (Missing i) = Missing (second_input i)
as_second (OverLimit i) = OverLimit (second_input i)
as_second (BadProperties f) = BadSecond (second.Properties f)
as_second (BadArchive f) = BadSecond (second.Archive f)
as_second status = status

abbrev pub second_ending : Ending → Ending
second_ending e = record { status = as_second e.status; promised = e.promised }

-- what the files of the second archive hold
abbrev pub second_held : (Input → Option (List ℕ)) → Input → Option (List ℕ)
second_held held i = held (second_input i)

-- what a validation of the second archive comes to in a job
abbrev pub of_second : Judged → Judged
of_second (refused status) = refused (as_second status)
of_second judgement = judgement
