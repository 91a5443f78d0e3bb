-- The files of a job.
use Rattle.wg_outcomes.specs.Names.{name_of_input, name_of_output, record_files, archive_files, second_files, list_file, text_file, weights_file, certificate_file, map_file, archive_outputs, certificate_outputs, held_by, file_of_fault}
use Rattle.std.specs.Prelude.{ℕ, Bool, true, false, nat_lt, ◌==◌, List, [], ◌++◌, length, Option, is_some}
use Rattle.wg_outside.specs.Outside.{Files}
use Rattle.wg_outside.specs.declared.output.Output.{Output}
use Rattle.wg_outside.specs.declared.output.Output.TheVariants as output
use Rattle.wg_graph.specs.Numbers.{is_in}
use Rattle.wg_words.specs.declared.jobs.Job.{Job}
use Rattle.wg_words.specs.declared.jobs.Job.TheVariants.{Check, Arcs, Ascii, Offsets, Show, Spot, Rank, Verify, Write, Bulk}
use Rattle.wg_words.specs.declared.jobs.Origin.{Origin}
use Rattle.wg_words.specs.declared.jobs.Origin.TheVariants.{Build, Import, Quotient, Recode, Union, Transpose}
use Rattle.wg_outcomes.specs.declared.status.Input.{Input}
use Rattle.wg_outcomes.specs.declared.status.Input.TheVariants as input
use Rattle.wg_outcomes.specs.declared.status.Status.{Status}
use Rattle.wg_outcomes.specs.declared.status.Status.TheVariants.{Done, Usage, Memory, ReadFault, WriteFault, Missing, BadArcs, BadProperties, BadArchive, BadSecond, TooManyArcs, NoPage, OverLimit, BadWeights, BadText, BadMap, BadCertificate}
use Rattle.wg_outcomes.specs.declared.status.SecondFault.TheVariants as second
use Rattle.wg_outcomes.specs.Second.{second_input}

-- what an archive is made of that is written
abbrev pub files_of_origin : Origin → List (Input × List ℕ)
files_of_origin (Build arcs nodes) = list_file arcs
files_of_origin (Import text) = text_file text
files_of_origin (Quotient base map classes) = record_files base ++ map_file map
files_of_origin (Recode base) = record_files base
files_of_origin (Union first second) = archive_files first ++ second_files second
files_of_origin (Transpose base) = record_files base

-- what each job reads, in its order, and what it writes
abbrev pub inputs_of : Job → List (Input × List ℕ)
inputs_of (Check base) = archive_files base
inputs_of (Arcs base) = record_files base
inputs_of (Ascii base) = record_files base
inputs_of (Offsets base) = record_files base
inputs_of (Show base pages) = archive_files base
inputs_of (Spot base page) = archive_files base
inputs_of (Rank job) = record_files job.base ++ weights_file job.weights
inputs_of (Verify job) =
    record_files job.base ++ weights_file job.weights ++ certificate_file job.certificate
inputs_of (Write job) = files_of_origin job.origin
inputs_of (Bulk seed pages) = []

abbrev pub outputs_of : Job → List (Output × List ℕ)
outputs_of (Write job) = archive_outputs job.output
outputs_of (Rank job) = certificate_outputs job.certificate
outputs_of _ = []

abbrev pub input_name : Job → Input → Option (List ℕ)
input_name job i = name_of_input (inputs_of job) i

-- the name of a file that a job writes
abbrev pub output_name : Job → Output → Option (List ℕ)
output_name job o = name_of_output (outputs_of job) o

-- what the inputs of a job hold
abbrev pub held_for : Job → Files → Input → Option (List ℕ)
held_for job files = held_by (input_name job) files

-- the inputs that a job reads
abbrev pub has_input : Job → Input → Bool
has_input job i = is_some (input_name job i)

-- whether a job writes files
abbrev pub writes_files : Job → Bool
writes_files job = nat_lt 0 (length (outputs_of job))

-- what a job writes
abbrev pub has_output : Job → Output → Bool
has_output job output.Out = true
has_output job o = is_some (output_name job o)

-- whether a job asks for the successors of this page
abbrev pub asks_for : Job → ℕ → Bool
asks_for (Show base pages) page = is_in page pages
asks_for (Spot base asked) page = page == asked
asks_for _ page = false

-- whether a job prints while it reads a file again
abbrev pub prints_while_reading : Job → Bool
prints_while_reading (Arcs base) = true
prints_while_reading (Ascii base) = true
prints_while_reading (Offsets base) = true
prints_while_reading _ = false

-- whether a job prints before its last step: while it reads a file again, or page by page
abbrev pub prints_in_parts : Job → Bool
prints_in_parts (Show base pages) = true
prints_in_parts job = prints_while_reading job

-- how a job can end at all
abbrev pub can_end : Job → Status → Bool
can_end job Done = true
can_end job Usage = false
can_end job Memory = true
can_end job (ReadFault i) = has_input job i
can_end job (WriteFault o) = has_output job o
can_end job (Missing i) = has_input job i
can_end job (BadArcs line kind) = has_input job input.ArcList
can_end job (BadProperties f) = has_input job input.Properties
can_end job (BadArchive f) = has_input job (file_of_fault f)
can_end job (BadSecond (second.Properties f)) = has_input job input.SecondProperties
can_end job (BadSecond (second.Archive f)) = has_input job (second_input (file_of_fault f))
can_end job TooManyArcs = has_input job input.SecondGraph
can_end job (NoPage page) = asks_for job page
can_end job (OverLimit i) = has_input job i
can_end job (BadWeights f) = has_input job input.Weights
can_end job (BadText line kind) = has_input job input.Text
can_end job (BadMap f) = has_input job input.Map
can_end job (BadCertificate f) = has_input job input.Certificate
