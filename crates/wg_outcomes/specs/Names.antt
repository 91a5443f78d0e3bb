-- The files of a job.
use Rattle.std.specs.Prelude.{◌≡◌, ◌⊎◌, ℕ, if◌then◌else◌, nat_eq, List, [], ◌∷◌, ◌++◌, Option, Some, None, option_map, option_and_then}
use Rattle.std.specs.FinMap as map
use Rattle.wg_outside.specs.Outside.{Files}
use Rattle.wg_outside.specs.declared.output.Output.{Output}
use Rattle.wg_outside.specs.declared.output.Output.TheVariants as output
use Rattle.wg_outside.specs.declared.suffixes.TheConstants.{PROPERTIES, GRAPH, OFFSETS}
use Rattle.wg_grammar.specs.declared.fault.ArchiveFault.{ArchiveFault}
use Rattle.wg_grammar.specs.declared.fault.ArchiveFault.TheVariants as archive
use Rattle.wg_outcomes.specs.declared.status.Input.{Input}
use Rattle.wg_outcomes.specs.declared.status.Input.TheVariants as input
use Rattle.wg_outcomes.specs.declared.status.Status.{Status}
use Rattle.wg_outcomes.specs.declared.status.Status.TheVariants.{Memory, ReadFault, Missing, OverLimit}

-- an archive is the files of these suffixes; the other inputs are none of them
abbrev pub suffix_of : Input → Option (List ℕ)
suffix_of input.Properties = Some PROPERTIES.now
suffix_of input.Graph = Some GRAPH.now
suffix_of input.Offsets = Some OFFSETS.now
suffix_of input.SecondProperties = None
suffix_of input.SecondGraph = None
suffix_of input.SecondOffsets = None
suffix_of input.ArcList = None
suffix_of input.Weights = None
suffix_of input.Certificate = None
suffix_of input.Text = None
suffix_of input.Map = None

-- the name of one of an archive's files
abbrev pub file_of : List ℕ → Input → Option (List ℕ)
file_of base i = option_map (λ suffix. base ++ suffix) (suffix_of i)

-- inputs and outputs by number, so that two of them can be compared
abbrev pub input_code : Input → ℕ
input_code input.Properties = 0
input_code input.Graph = 1
input_code input.Offsets = 2
input_code input.ArcList = 3
input_code input.Weights = 4
input_code input.Certificate = 5
input_code input.Text = 6
input_code input.Map = 7
input_code input.SecondProperties = 8
input_code input.SecondGraph = 9
input_code input.SecondOffsets = 10

abbrev pub output_code : Output → ℕ
output_code output.Properties = 0
output_code output.Graph = 1
output_code output.Offsets = 2
output_code output.Certificate = 3
output_code output.Out = 4

-- the name of an input, or of an output, in a list of them with their names
abbrev pub name_of_input : List (Input × List ℕ) → Input → Option (List ℕ)
name_of_input [] i = None
name_of_input (entry ∷ rest) i = if nat_eq (input_code entry.0) (input_code i) then Some entry.1
    else name_of_input rest i

abbrev pub name_of_output : List (Output × List ℕ) → Output → Option (List ℕ)
name_of_output [] o = None
name_of_output (entry ∷ rest) o = if nat_eq (output_code entry.0) (output_code o) then Some entry.1
    else name_of_output rest o

-- the files of an archive's records, all files of an archive, an arc list, an ASCIIGraph text, weights if they are
-- asked for, a certificate, and classes
abbrev pub record_files : List ℕ → List (Input × List ℕ)
record_files base = (input.Properties, base ++ PROPERTIES.now) ∷ (input.Graph, base ++ GRAPH.now) ∷ []

abbrev pub archive_files : List ℕ → List (Input × List ℕ)
archive_files base = (input.Properties, base ++ PROPERTIES.now) ∷ (input.Graph, base ++ GRAPH.now) ∷
    (input.Offsets, base ++ OFFSETS.now) ∷ []

-- the files of the second archive of a job
abbrev pub second_files : List ℕ → List (Input × List ℕ)
second_files base =
    (input.SecondProperties, base ++ PROPERTIES.now) ∷ (input.SecondGraph, base ++ GRAPH.now) ∷
    (input.SecondOffsets, base ++ OFFSETS.now) ∷ []

abbrev pub list_file : List ℕ → List (Input × List ℕ)
list_file name = (input.ArcList, name) ∷ []

abbrev pub text_file : List ℕ → List (Input × List ℕ)
text_file name = (input.Text, name) ∷ []

abbrev pub weights_file : Option (List ℕ) → List (Input × List ℕ)
weights_file None = []
weights_file (Some name) = (input.Weights, name) ∷ []

abbrev pub certificate_file : List ℕ → List (Input × List ℕ)
certificate_file name = (input.Certificate, name) ∷ []

abbrev pub map_file : List ℕ → List (Input × List ℕ)
map_file name = (input.Map, name) ∷ []

-- the files of an archive that is written
abbrev pub archive_outputs : List ℕ → List (Output × List ℕ)
archive_outputs base =
    (output.Properties, base ++ PROPERTIES.now) ∷ (output.Graph, base ++ GRAPH.now) ∷
    (output.Offsets, base ++ OFFSETS.now) ∷ []

-- a certificate that is written, if it is asked for
abbrev pub certificate_outputs : Option (List ℕ) → List (Output × List ℕ)
certificate_outputs None = []
certificate_outputs (Some name) = (output.Certificate, name) ∷ []

-- the name of a job's input
abbrev pub list_named : List ℕ → Input → Option (List ℕ)
list_named name i = name_of_input (list_file name) i

abbrev pub text_named : List ℕ → Input → Option (List ℕ)
text_named name i = name_of_input (text_file name) i

abbrev pub weights_named : Option (List ℕ) → Input → Option (List ℕ)
weights_named given i = name_of_input (weights_file given) i

abbrev pub certificate_named : List ℕ → Input → Option (List ℕ)
certificate_named name i = name_of_input (certificate_file name) i

abbrev pub map_named : List ℕ → Input → Option (List ℕ)
map_named name i = name_of_input (map_file name) i

-- the outputs of what writes no file
abbrev pub no_outputs : Output → Option (List ℕ)
no_outputs o = None

-- the files of an archive that is written
abbrev pub archive_named : List ℕ → Output → Option (List ℕ)
archive_named base o = name_of_output (archive_outputs base) o

-- the file of a certificate that is written
abbrev pub certificate_to : List ℕ → Output → Option (List ℕ)
certificate_to name o = name_of_output (certificate_outputs (Some name)) o

-- what an input of these names holds
abbrev pub held_by : (Input → Option (List ℕ)) → Files → Input → Option (List ℕ)
held_by names files i = option_and_then (map.get files) (names i)

-- the file in which a fault of an archive lies
abbrev pub file_of_fault : ArchiveFault → Input
file_of_fault (archive.Record f) = input.Graph
file_of_fault (archive.Tail at) = input.Graph
file_of_fault (archive.ArcsShort total) = input.Graph
file_of_fault (archive.Offsets w) = input.Offsets
file_of_fault (archive.Length page found stored) = input.Offsets

-- how the reading of an input can end
abbrev pub IsOfInput : Input → Status → Type 0
IsOfInput i status = (status ≡ Memory) ⊎ (status ≡ ReadFault i) ⊎ (status ≡ Missing i) ⊎ (status ≡ OverLimit i)
