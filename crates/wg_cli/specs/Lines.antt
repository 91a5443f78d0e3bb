-- The line on standard error.
use Rattle.std.specs.Prelude.{◌≡◌, ◌⊎◌, ◌<◌, ℕ, List, [], ◌++◌, length, take, codes, Option, Some, None}
use Rattle.wg_outside.specs.declared.output.Output.{Output}
use Rattle.wg_outside.specs.declared.output.Output.TheVariants as output
use Rattle.wg_words.specs.declared.jobs.Job.{Job}
use Rattle.wg_outcomes.specs.JobFiles.{input_name, output_name}
use Rattle.wg_outcomes.specs.Names.{file_of_fault}
use Rattle.wg_outcomes.specs.declared.status.Input.{Input}
use Rattle.wg_outcomes.specs.declared.status.Input.TheVariants as input
use Rattle.wg_outcomes.specs.declared.status.Status.{Status}
use Rattle.wg_outcomes.specs.declared.status.Status.TheVariants.{Done, Usage, Memory, ReadFault, WriteFault, Missing, BadArcs, BadProperties, BadArchive, BadSecond, TooManyArcs, NoPage, OverLimit, BadWeights, BadText, BadMap, BadCertificate}
use Rattle.wg_outcomes.specs.declared.status.SecondFault.TheVariants as second
use Rattle.wg_outcomes.specs.Second.{second_input}
use Rattle.wg_cli.specs.Texts.{text_of_line, text_of_properties, text_of_archive, text_of_numbers, text_of_weights, text_of_plain, text_of_certificate, no_page_line}

-- a line that names a file; none if the job has no such file
abbrev pub naming : List ℕ → Option (List ℕ) → List ℕ → List ℕ
naming before None after = []
naming before (Some name) after = before ++ name ++ after ++ codes "\n"

abbrev pub name_in : Option Job → Input → Option (List ℕ)
name_in None i = None
name_in (Some job) i = input_name job i

-- a written file is named as it was asked of the depot, and the output as a dash
abbrev pub output_in : Option Job → Output → Option (List ℕ)
output_in job output.Out = Some (codes "-")
output_in None o = None
output_in (Some job) o = output_name job o

-- The line of a status, if the properties promise so many arcs or pages.
abbrev pub line_of : Option Job → ℕ → Status → List ℕ
line_of job promised Done = []
line_of job promised Usage = codes "wg: bad command line\n"
line_of job promised Memory = codes "wg: out of memory\n"
line_of job promised (ReadFault i) = naming (codes "wg: read failed: ") (name_in job i) []
line_of job promised (WriteFault o) = naming (codes "wg: write failed: ") (output_in job o) []
line_of job promised (Missing i) = naming (codes "wg: missing: ") (name_in job i) []
line_of job promised (BadArcs line kind) =
    naming (codes "wg: ") (name_in job input.ArcList) (codes ": " ++ text_of_line line kind)
line_of job promised (BadProperties f) =
    naming (codes "wg: ") (name_in job input.Properties) (codes ": " ++ text_of_properties f)
line_of job promised (BadArchive f) =
    naming (codes "wg: ") (name_in job (file_of_fault f)) (codes ": " ++ text_of_archive promised f)
line_of job promised (BadSecond (second.Properties f)) =
    naming (codes "wg: ") (name_in job input.SecondProperties) (codes ": " ++ text_of_properties f)
line_of job promised (BadSecond (second.Archive f)) =
    naming (codes "wg: ") (name_in job (second_input (file_of_fault f))) (codes ": " ++ text_of_archive promised f)
line_of job promised TooManyArcs = codes "wg: too many arcs\n"
line_of job promised (NoPage page) = no_page_line page
line_of job promised (OverLimit i) = naming (codes "wg: too long: ") (name_in job i) []
line_of job promised (BadWeights f) =
    naming (codes "wg: ") (name_in job input.Weights) (codes ": " ++ text_of_weights promised f)
line_of job promised (BadText line kind) =
    naming (codes "wg: ") (name_in job input.Text) (codes ": " ++ text_of_plain line kind)
line_of job promised (BadMap f) =
    naming (codes "wg: ") (name_in job input.Map) (codes ": " ++ text_of_numbers promised f)
line_of job promised (BadCertificate f) =
    naming (codes "wg: ") (name_in job input.Certificate) (codes ": " ++ text_of_certificate f)

-- the line is there, or a prefix of it, and this only if the sink failed
abbrev pub Reports : List ℕ → List ℕ → List ℕ → Type 0 → Type 0
Reports line old new failed = (new ≡ old ++ line) ⊎ ((k : ℕ) × (k < length line) × (new ≡ old ++ take k line) × failed)
