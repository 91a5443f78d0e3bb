-- The job that the words ask for.
use Rattle.std.specs.Prelude.{◌≤◌, ⊤, List, Option, Some, None, option_and_then, option_map, codes, if◌then◌else◌}
use Rattle.std.specs.Str.{bytes_eq}
use Rattle.clap.specs.Words.{Row, Text}
use Rattle.wg_params.specs.Parameters.{IsWithinLimits, params_of}
use Rattle.wg_params.specs.declared.limits.TheConstants.{MOST_PAGES, MOST_DAMPING, MOST_ROUNDS, MOST_GENERATED}
use Rattle.wg_words.specs.Commands.{parsed}
use Rattle.wg_words.specs.Files.{is_file_of, overwrites, IsNoFileOf, KeepsInputs, ShareNoFile}
use Rattle.wg_words.specs.Layouts.{layout_in}
use Rattle.wg_words.specs.Values.{name_in, number_in, numbers_in, optional_name_in, required_in, unlimited_in}
use Rattle.wg_words.specs.declared.conversion.Conversion.{Conversion}
use Rattle.wg_words.specs.declared.defaults.TheConstants.{DEFAULT_DAMPING, DEFAULT_ROUNDS, DEFAULT_TOP}
use Rattle.wg_words.specs.declared.jobs.Job.{Job}
use Rattle.wg_words.specs.declared.jobs.Job.TheVariants.{Check, Arcs, Ascii, Offsets, Show, Spot, Rank, Verify, Write, Bulk}
use Rattle.wg_words.specs.declared.jobs.Origin.{Origin}
use Rattle.wg_words.specs.declared.jobs.Origin.TheVariants.{Build, Import, Quotient, Recode, Union, Transpose}
use Rattle.wg_params.specs.declared.layout.Layout.{Layout}

-- the successors of the pages of an archive that the words name, in their order
abbrev pub show_on : List Row → Text → Option Job
show_on rows base = option_map (Show base) (numbers_in rows (codes "page"))

-- the successors of the page of an archive that the words name, if the archive is not checked
abbrev pub spot_on : List Row → Text → Option Job
spot_on rows base = option_map (Spot base) (unlimited_in rows (codes "page"))

-- the ranking of an archive, with the numbers that the options give
abbrev pub rank_from : List Row → Text → Option Text → Option Text → Option Job
rank_from rows base weights certificate =
    option_and_then (λ rounds.
    option_and_then (λ damping.
    option_and_then (λ top. Some (Rank (record
    { base = base; rounds = rounds; damping = damping; top = top; weights = weights; certificate = certificate })))
    (number_in rows (codes "top") DEFAULT_TOP MOST_PAGES))
    (number_in rows (codes "damping") DEFAULT_DAMPING MOST_DAMPING))
    (number_in rows (codes "rounds") DEFAULT_ROUNDS MOST_ROUNDS)

-- the ranking of an archive, unless the certificate would be written over a file that is read
abbrev pub rank_with : List Row → Text → Option Text → Option Text → Option Job
rank_with rows base weights certificate = if overwrites base weights certificate then None
    else rank_from rows base weights certificate

-- the ranking of an archive, with the weights and the certificate that the options name, if they do
abbrev pub rank_on : List Row → Text → Option Job
rank_on rows base =
    option_and_then (λ weights. option_and_then (rank_with rows base weights)
    (optional_name_in rows (codes "certificate")))
    (optional_name_in rows (codes "weights"))

-- the job that these names give
abbrev pub verifying : Text → Text → Option Text → Job
verifying base certificate weights = Verify (record { base = base; certificate = certificate; weights = weights })

-- the verification of a certificate against an archive, with weights if the option names them
abbrev pub verify_on : List Row → Text → Option Job
verify_on rows base =
    option_and_then (λ certificate. option_map (verifying base certificate) (optional_name_in rows (codes "weights")))
    (name_in rows (codes "certificate"))

-- the writing of an archive
abbrev pub writing : Text → Layout → Origin → Job
writing output layout origin = Write (record { output = output; layout = layout; origin = origin })

-- the building of an archive from a file, with the pages and the layout that the options give
abbrev pub build_from : List Row → Text → Text → Option Job
build_from rows base arcs =
    option_and_then (λ nodes.
    option_and_then (λ layout. Some (writing base layout (Build arcs nodes)))
    (layout_in rows))
    (required_in rows (codes "nodes") MOST_PAGES)

-- the building of an archive from an arc list that is none of its files
abbrev pub build_on : List Row → Text → Option Job
build_on rows base =
    option_and_then (λ arcs. if is_file_of base arcs then None else build_from rows base arcs)
    (name_in rows (codes "arcs"))

-- the building of an archive from an ASCIIGraph text, with the layout that the options give
abbrev pub import_from : List Row → Text → Text → Option Job
import_from rows base text = option_and_then (λ layout. Some (writing base layout (Import text))) (layout_in rows)

-- the building of an archive from an ASCIIGraph text that is none of its files
abbrev pub import_on : List Row → Text → Option Job
import_on rows base =
    option_and_then (λ text. if is_file_of base text then None else import_from rows base text)
    (name_in rows (codes "text"))

-- the conversion between two archives, with the layout that the options give
abbrev pub conversion_from : List Row → Text → Text → Option Conversion
conversion_from rows input output =
    option_and_then (λ layout. Some (record { input = input; output = output; layout = layout })) (layout_in rows)

-- the conversion of an archive into one of another name
abbrev pub conversion_of : List Row → Text → Option Conversion
conversion_of rows input =
    option_and_then (λ output. if bytes_eq input output then None else conversion_from rows input output)
    (name_in rows (codes "out"))

-- the conversion that the words ask for
abbrev pub conversion_in : List Row → Option Conversion
conversion_in rows = option_and_then (conversion_of rows) (name_in rows (codes "in"))

-- the job that a conversion is
abbrev pub recoding : Conversion → Job
recoding c = writing c.output c.layout (Recode c.input)

-- the union of two archives, of which the first was taken for a conversion and the second has not the name of what is
-- written
abbrev pub union_with : Conversion → Text → Option Job
union_with c second = if bytes_eq second c.output then None
    else Some (writing c.output c.layout (Union c.input second))

abbrev pub union_of : List Row → Conversion → Option Job
union_of rows c = option_and_then (union_with c) (name_in rows (codes "second"))

-- the union that the words ask for
abbrev pub union_in : List Row → Option Job
union_in rows = option_and_then (union_of rows) (conversion_in rows)

abbrev pub transposing : Conversion → Job
transposing c = writing c.output c.layout (Transpose c.input)

-- the quotient of an archive by a map, with as many classes as the option gives
abbrev pub quotient_by : List Row → Conversion → Text → Option Job
quotient_by rows c map =
    option_and_then (λ classes. Some (writing c.output c.layout (Quotient c.input map classes)))
    (required_in rows (codes "classes") MOST_PAGES)

-- the quotient of an archive by a map that is none of the files that are written
abbrev pub quotient_on : List Row → Conversion → Option Job
quotient_on rows c =
    option_and_then (λ map. if is_file_of c.output map then None else quotient_by rows c map)
    (name_in rows (codes "map"))

-- the quotient that the words ask for
abbrev pub quotient_in : List Row → Option Job
quotient_in rows = option_and_then (quotient_on rows) (conversion_in rows)

-- what an archive of a generated graph comes to, with the seed and the pages that the words give
abbrev pub bulk_in : List Row → Option Job
bulk_in rows =
    option_and_then (λ seed.
    option_and_then (λ pages. Some (Bulk seed pages))
    (required_in rows (codes "pages") MOST_GENERATED))
    (unlimited_in rows (codes "seed"))

-- the job of a command on one archive
abbrev pub job_on : Text → List Row → Text → Option Job
job_on command rows base =
    if bytes_eq command (codes "check") then Some (Check base)
    else if bytes_eq command (codes "arcs") then Some (Arcs base)
    else if bytes_eq command (codes "ascii") then Some (Ascii base)
    else if bytes_eq command (codes "offsets") then Some (Offsets base)
    else if bytes_eq command (codes "show") then show_on rows base
    else if bytes_eq command (codes "spot") then spot_on rows base
    else if bytes_eq command (codes "rank") then rank_on rows base
    else if bytes_eq command (codes "verify") then verify_on rows base
    else if bytes_eq command (codes "build") then build_on rows base
    else if bytes_eq command (codes "import") then import_on rows base
    else None

-- the job of a command on the archive that the words name
abbrev pub job_on_base : Text → List Row → Option Job
job_on_base command rows = option_and_then (job_on command rows) (name_in rows (codes "base"))

-- the job of a command by its matches
abbrev pub job_from : Text × List Row → Option Job
job_from found =
    if bytes_eq found.0 (codes "quotient") then quotient_in found.1
    else if bytes_eq found.0 (codes "recode") then option_map recoding (conversion_in found.1)
    else if bytes_eq found.0 (codes "union") then union_in found.1
    else if bytes_eq found.0 (codes "transpose") then option_map transposing (conversion_in found.1)
    else if bytes_eq found.0 (codes "bulk") then bulk_in found.1
    else job_on_base found.0 found.1

-- the job of the words: none if clap refuses them, or if a part of the job is out of its range
abbrev pub job_of : List Text → Option Job
job_of words = option_and_then job_from (parsed words)

-- the numbers of what an archive is made of are within their limits, and none of it is a file of the archive
abbrev pub IsProperOrigin : Text → Origin → Type 0
IsProperOrigin output (Build arcs nodes) = (nodes ≤ MOST_PAGES) × IsNoFileOf output arcs
IsProperOrigin output (Import text) = IsNoFileOf output text
IsProperOrigin output (Quotient input map classes) = (classes ≤ MOST_PAGES) × ShareNoFile input output
    × IsNoFileOf output map
IsProperOrigin output (Recode input) = ShareNoFile input output
IsProperOrigin output (Union first second) = ShareNoFile first output × ShareNoFile second output
IsProperOrigin output (Transpose input) = ShareNoFile input output

-- the numbers and the codes of a job are within their limits, and no job reads a file that it writes
abbrev pub IsWithin : Job → Type 0
IsWithin (Rank job) = (job.rounds ≤ MOST_ROUNDS) × (job.damping ≤ MOST_DAMPING) × (job.top ≤ MOST_PAGES)
    × KeepsInputs job.base job.weights job.certificate
IsWithin (Write job) = IsWithinLimits (params_of job.layout 0 0) × IsProperOrigin job.output job.origin
IsWithin (Bulk seed pages) = pages ≤ MOST_GENERATED
IsWithin _ = ⊤
