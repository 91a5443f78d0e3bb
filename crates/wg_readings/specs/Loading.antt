-- Steps of a job that read files, and print nothing.
use Rattle.std.specs.Prelude.{◌≡◌, ◌⊎◌, ℕ, ◌≤◌, Bool, List, length, Option, Some, None, Result, Ok, Err, IsTrue, IsSome, OnOk, IfOk, IfErr}
use Rattle.wg_outside.specs.Outside.{Files, Counts, NonDecreasing}
use Rattle.wg_outside.specs.declared.depot.Depot as depot
use Rattle.wg_outside.specs.declared.limits.TheConstants.{MOST_BYTES}
use Rattle.wg_params.specs.Parameters.{Parameters, IsWithinLimits}
use Rattle.wg_properties.specs.Judged.{properties_of}
use Rattle.wg_properties.specs.declared.fault.PropFault.{PropFault}
use Rattle.wg_graph.specs.Ascending.{Below}
use Rattle.wg_graph.specs.Digraph.{Digraph}
use Rattle.wg_grammar.specs.Archive.{Accepted}
use Rattle.wg_arcs.specs.declared.fault.ArcsKind.{ArcsKind}
use Rattle.wg_arcs.specs.declared.numbers_fault.NumbersFault.{NumbersFault}
use Rattle.wg_ascii.specs.declared.fault.AsciiKind.{AsciiKind}
use Rattle.wg_rank.specs.Weights.{AreWeights, weights_of}
use Rattle.wg_rank.specs.Claims.{Claim}
use Rattle.wg_rank.specs.declared.fault.CertFault.{CertFault}
use Rattle.wg_outcomes.specs.Answers.{Steps, status_in}
use Rattle.wg_outcomes.specs.Causes.{HasCause}
use Rattle.wg_outcomes.specs.Judged.{Judged, claim_then, map_then, text_then, weights_then, with_arcs, with_digraph, with_file, with_lengths, with_parameters, offsets_then}
use Rattle.wg_outcomes.specs.Names.{IsOfInput, certificate_named, file_of, held_by, list_named, map_named, no_outputs, text_named, weights_named}
use Rattle.wg_readings.specs.Pairing.{files_then}
pub use Rattle.wg_readings.specs.Pairing.{status_at}
use Rattle.wg_readings.specs.Passes.{IsGraphFile, graph_then}
use Rattle.wg_outcomes.specs.Promised.{IsStopAt}
use Rattle.wg_outcomes.specs.Readings.{Readings}
use Rattle.wg_outcomes.specs.declared.ending.Ending.{Ending}
use Rattle.wg_outcomes.specs.declared.status.Input.{Input}
use Rattle.wg_outcomes.specs.declared.status.Input.TheVariants as input
use Rattle.wg_outcomes.specs.declared.status.Status.TheVariants.{BadArcs, BadCertificate, BadMap, BadProperties, BadText, BadWeights}
use Rattle.wg_outcomes.specs.declared.status.WeightsFault.{WeightsFault}

-- A file of this name was read whole, as this input.
pub record Loads (names : Input → Option (List ℕ)) (i : Input) (told : Bool) (files files' : Files)
    (counts counts' : List ℕ → Counts) (result : Result (List ℕ) Ending) : Type 0 where
  -- it goes on with the bytes, or ends at the input
  pub steps : IsTrue told → Steps (with_file i (held_by names files i)) result
  pub held : IsTrue told → IfOk result (λ bytes. held_by names files i ≡ Some bytes)
  -- an absence or a fault is reported only if the outside counted it
  pub causes : HasCause names no_outputs counts counts' 0 0 (status_in result)
  pub mine : IfErr result (λ e. IsOfInput i e.status)
  -- no file has changed, and no count of the depot falls
  pub same : files' ≡ files
  pub later : NonDecreasing counts counts'
  pub short : IfOk result (λ bytes. length bytes ≤ MOST_BYTES)

-- goes on with the parameters that the properties file gives
abbrev pub params_then : Option (List ℕ) → (Parameters → Judged) → Judged
params_then held next = with_file input.Properties held (λ text. with_parameters text next)

-- the properties file is there, and gives these parameters
pub record IsPropertiesFile (held : Option (List ℕ)) (p : Parameters) : Type 0 where
  pub text : List ℕ
  pub is : held ≡ Some text
  pub gives : properties_of text ≡ Ok p

-- The parameters of an archive were read.
pub record LoadsParams (base : List ℕ) (told : Bool) (files files' : Files) (counts counts' : List ℕ → Counts)
    (result : Result Parameters Ending) : Type 0 where
  -- it goes on with the parameters, or ends at the properties file
  pub steps : IsTrue told → Steps (params_then (held_by (file_of base) files input.Properties)) result
  pub given : IsTrue told → IfOk result (IsPropertiesFile (held_by (file_of base) files input.Properties))
  pub only : IfErr result (λ e. IsOfInput input.Properties e.status ⊎ ((f : PropFault) × (e.status ≡ BadProperties f)))
  -- an absence or a fault is reported only if the outside counted it
  pub causes : HasCause (file_of base) no_outputs counts counts' 0 0 (status_in result)
  -- no file has changed, and no count of the depot falls
  pub same : files' ≡ files
  pub later : NonDecreasing counts counts'

-- A step of a validation that looks at one file of an archive ended the job, whatever would have come next. The
-- properties promise so many arcs.
pub record EndsAt {B : Type 0} (base : List ℕ) (i : Input) (promised : ℕ)
    (step : Readings → Option (List ℕ) → (B → Judged) → Judged) (told : Bool) (files : Files)
    (counts counts' : List ℕ → Counts) (e : Ending) : Type 0 where
  -- the file was not read, or is at fault
  pub only : IsStopAt i promised e
  -- an absence or a fault is reported only if the outside counted it
  pub causes : HasCause (file_of base) no_outputs counts counts' 0 0 e.status
  -- the step ends like this, or something came in its place
  pub refused : IsTrue told → (r : Readings) → Steps {B = B} (step r (held_by (file_of base) files i)) (Err e)

-- A step of a validation that looks at one file of an archive was done, or ended the job.
pub record Reads {A B : Type 0} (base : List ℕ) (i : Input) (promised : ℕ)
    (step : Readings → Option (List ℕ) → (B → Judged) → Judged) (told : Bool) (files files' : Files)
    (counts counts' : List ℕ → Counts) (result : Result A Ending) : Type 0 where
  pub ends : IfErr result (EndsAt base i promised step told files counts counts')
  -- no file has changed, and no count of the depot falls
  pub same : files' ≡ files
  pub later : NonDecreasing counts counts'

-- goes on with the pages of what the graph file holds, and their lists
abbrev pub digraph_then : Readings → Parameters → Option (List ℕ) → (Digraph → Judged) → Judged
digraph_then r p held next = with_file input.Graph held (λ bytes. with_digraph r p bytes next)

-- The graph file of an archive was validated: it stands for a graph, or the job ends at it.
pub record JudgesGraph (base : List ℕ) (p : Parameters) (told : Bool) (files files' : Files)
    (counts counts' : List ℕ → Counts) (result : Result (Unit {0}) Ending) : Type 0 where
  pub reads : Reads base input.Graph p.arcs (λ r. graph_then r p) told files files' counts counts' result
  pub limits : OnOk result (IsWithinLimits p)
  pub accepted : IsTrue told → OnOk result ((a : Accepted) × IsGraphFile (held_by (file_of base) files input.Graph) p a)

-- The graph of an archive was read whole, or the job ends at its file.
pub record LoadsGraph (base : List ℕ) (p : Parameters) (told : Bool) (files files' : Files)
    (counts counts' : List ℕ → Counts) (result : Result Digraph Ending) : Type 0 where
  pub reads : Reads base input.Graph p.arcs (λ r. digraph_then r p) told files files' counts counts' result
  pub goes : IsTrue told → (r : Readings) → Steps (digraph_then r p (held_by (file_of base) files input.Graph)) result
  pub nodes : IfOk result (λ g. g.nodes ≡ p.nodes)

-- goes on if the offsets file stores the lengths of the records with these places
abbrev pub lengths_then : Readings → Parameters → List ℕ → Option (List ℕ) → (Unit {0} → Judged) → Judged
lengths_then r p places held next = offsets_then r p held (λ stored. with_lengths places stored next)

-- The offsets file of an archive was validated: it stores the lengths of the records with these places, or the job ends
-- at this file.
pub record JudgesOffsets (base : List ℕ) (p : Parameters) (places : List ℕ) (told : Bool) (files files' : Files)
    (counts counts' : List ℕ → Counts) (result : Result (Unit {0}) Ending) : Type 0 where
  pub reads : Reads base input.Offsets p.arcs (λ r. lengths_then r p places) told files files' counts counts' result
  pub goes : IsTrue told → (r : Readings)
      → Steps (lengths_then r p places (held_by (file_of base) files input.Offsets)) result

-- The graph of so many pages that an arc list holds was read, or the job ends at the list.
pub record LoadsList (name : List ℕ) (n : ℕ) (told : Bool) (files files' : Files) (counts counts' : List ℕ → Counts)
    (result : Result Digraph Ending) : Type 0 where
  pub steps : IsTrue told → (r : Readings) → Steps (with_arcs r n (held_by (list_named name) files)) result
  pub only : IfErr result
      (λ e. IsOfInput input.ArcList e.status ⊎ ((line : ℕ) × (kind : ArcsKind) × (e.status ≡ BadArcs line kind)))
  pub nodes : IfOk result (λ g. g.nodes ≡ n)
  -- an absence or a fault is reported only if the outside counted it
  pub causes : HasCause (list_named name) no_outputs counts counts' 0 0 (status_in result)
  -- no file has changed, and no count of the depot falls
  pub same : files' ≡ files
  pub later : NonDecreasing counts counts'

abbrev pub IsBadText : Ending → Type 0
IsBadText e = (line : ℕ) × (kind : AsciiKind) × (e.status ≡ BadText line kind)

-- The graph that an ASCIIGraph text holds was read whole, or the job ends at the text.
pub record LoadsText (name : List ℕ) (told : Bool) (files files' : Files) (counts counts' : List ℕ → Counts)
    (result : Result Digraph Ending) : Type 0 where
  pub steps : IsTrue told → (r : Readings) → Steps (text_then r (held_by (text_named name) files input.Text)) result
  pub only : IfErr result (λ e. IsOfInput input.Text e.status ⊎ IsBadText e)
  -- an absence or a fault is reported only if the outside counted it
  pub causes : HasCause (text_named name) no_outputs counts counts' 0 0 (status_in result)
  -- no file has changed, and no count of the depot falls
  pub same : files' ≡ files
  pub later : NonDecreasing counts counts'

-- A file that is no archive's was read whole and validated, as this input, or the job ends at it, at last with a fault
-- of what it holds.
pub record ReadsNamed {B : Type 0} (i : Input) (names : Input → Option (List ℕ)) (IsFault : Ending → Type 0)
    (step : Option (List ℕ) → (B → Judged) → Judged) (told : Bool) (files files' : Files)
    (counts counts' : List ℕ → Counts) (result : Result B Ending) : Type 0 where
  pub steps : IsTrue told → Steps (step (held_by names files i)) result
  pub only : IfErr result (λ e. IsOfInput i e.status ⊎ IsFault e)
  -- an absence or a fault is reported only if the outside counted it
  pub causes : HasCause names no_outputs counts counts' 0 0 (status_in result)
  -- no file has changed, and no count of the depot falls
  pub same : files' ≡ files
  pub later : NonDecreasing counts counts'

-- the weights of so many pages are at fault, and the ending names the pages
abbrev pub IsBadWeights : ℕ → Ending → Type 0
IsBadWeights n e = (f : WeightsFault) × (e.status ≡ BadWeights f) × (e.promised ≡ n)

abbrev pub IsBadCertificate : Ending → Type 0
IsBadCertificate e = (f : CertFault) × (e.status ≡ BadCertificate f)

-- The weights of so many pages were read, if a file of them is named; or the job ends at this file.
pub record LoadsWeights (given : Option (List ℕ)) (n : ℕ) (told : Bool) (files files' : Files)
    (counts counts' : List ℕ → Counts) (result : Result (Option (List ℕ)) Ending) : Type 0 where
  pub reads : ReadsNamed input.Weights (weights_named given) (IsBadWeights n) (weights_then given n)
      told files files' counts counts' result
  pub some : IfErr result (λ e. IsSome given)
  -- by the weights, or by 1 for each page, teleport can be shared out
  pub weights : IfOk result (λ ws. AreWeights n (weights_of n ws))
  -- without a file of weights there are none
  pub alike : given ≡ None → IfOk result (λ ws. ws ≡ None)

-- What a certificate claims of so many pages was read, or the job ends at its file.
pub record LoadsCertificate (name : List ℕ) (n : ℕ) (told : Bool) (files files' : Files)
    (counts counts' : List ℕ → Counts) (result : Result Claim Ending) : Type 0 where
  pub reads : ReadsNamed input.Certificate (certificate_named name) IsBadCertificate (claim_then n)
      told files files' counts counts' result
  pub pages : IfOk result (λ c. length c.low ≡ n)

-- the classes of so many pages are at fault, and the ending names the pages
abbrev pub IsBadMap : ℕ → Ending → Type 0
IsBadMap n e = (f : NumbersFault) × (e.status ≡ BadMap f) × (e.promised ≡ n)

-- The classes of so many pages, each below the limit, were read, or the job ends at their file.
pub record LoadsMap (name : List ℕ) (n limit : ℕ) (told : Bool) (files files' : Files)
    (counts counts' : List ℕ → Counts) (result : Result (List ℕ) Ending) : Type 0 where
  pub reads : ReadsNamed input.Map (map_named name) (IsBadMap n) (map_then n limit)
      told files files' counts counts' result
  pub each : IfOk result (λ classes. length classes ≡ n)
  pub below : IfOk result (λ classes. Below limit classes)

-- The graph file and the offsets file of an archive were validated beside each other, or the job ends at one of them:
-- at the offsets file only if the graph is in order.
pub record JudgesFiles (base : List ℕ) (p : Parameters) (told : Bool) (files files' : Files)
    (counts counts' : List ℕ → Counts) (result : Result ℕ Ending) : Type 0 where
  pub steps : IsTrue told → (r : Readings) → Steps (files_then r p (held_by (file_of base) files)) result
  pub limits : OnOk result (IsWithinLimits p)
  pub only : IfErr result (λ e. IsStopAt input.Graph p.arcs e ⊎ (IsStopAt input.Offsets p.arcs e × IsWithinLimits p
      × (IsTrue told → (a : Accepted) × IsGraphFile (held_by (file_of base) files input.Graph) p a)))
  -- an absence or a fault is reported only if the outside counted it
  pub causes : HasCause (file_of base) no_outputs counts counts' 0 0 (status_in result)
  -- no file has changed, and no count of the depot falls
  pub same : files' ≡ files
  pub later : NonDecreasing counts counts'

-- The relations above, of a depot that a function changes.
abbrev pub LoadsBy : {D : Type 0} → depot.Ghosts D → (Input → Option (List ℕ)) → Input → D → D
    → Result (List ℕ) Ending → Type 0
LoadsBy d names i before after result =
    Loads names i d.told (d.files before) (d.files after) (d.counts before) (d.counts after) result

abbrev pub LoadsParamsBy : {D : Type 0} → depot.Ghosts D → List ℕ → D → D → Result Parameters Ending → Type 0
LoadsParamsBy d base before after result =
    LoadsParams base d.told (d.files before) (d.files after) (d.counts before) (d.counts after) result

abbrev pub LoadsGraphBy : {D : Type 0} → depot.Ghosts D → List ℕ → Parameters → D → D → Result Digraph Ending → Type 0
LoadsGraphBy d base p before after result =
    LoadsGraph base p d.told (d.files before) (d.files after) (d.counts before) (d.counts after) result

abbrev pub JudgesOffsetsBy : {D : Type 0} → depot.Ghosts D → List ℕ → Parameters → List ℕ → D → D
    → Result (Unit {0}) Ending → Type 0
JudgesOffsetsBy d base p places before after result =
    JudgesOffsets base p places d.told (d.files before) (d.files after) (d.counts before) (d.counts after) result

abbrev pub LoadsTextBy : {D : Type 0} → depot.Ghosts D → List ℕ → D → D → Result Digraph Ending → Type 0
LoadsTextBy d name before after result =
    LoadsText name d.told (d.files before) (d.files after) (d.counts before) (d.counts after) result

abbrev pub LoadsWeightsBy : {D : Type 0} → depot.Ghosts D → Option (List ℕ) → ℕ → D → D
    → Result (Option (List ℕ)) Ending → Type 0
LoadsWeightsBy d given n before after result =
    LoadsWeights given n d.told (d.files before) (d.files after) (d.counts before) (d.counts after) result

abbrev pub LoadsCertificateBy : {D : Type 0} → depot.Ghosts D → List ℕ → ℕ → D → D → Result Claim Ending → Type 0
LoadsCertificateBy d name n before after result =
    LoadsCertificate name n d.told (d.files before) (d.files after) (d.counts before) (d.counts after) result

abbrev pub LoadsMapBy : {D : Type 0} → depot.Ghosts D → List ℕ → ℕ → ℕ → D → D → Result (List ℕ) Ending → Type 0
LoadsMapBy d name n limit before after result =
    LoadsMap name n limit d.told (d.files before) (d.files after) (d.counts before) (d.counts after) result

abbrev pub JudgesGraphBy : {D : Type 0} → depot.Ghosts D → List ℕ → Parameters → D → D → Result (Unit {0}) Ending
    → Type 0
JudgesGraphBy d base p before after result =
    JudgesGraph base p d.told (d.files before) (d.files after) (d.counts before) (d.counts after) result

abbrev pub JudgesFilesBy : {D : Type 0} → depot.Ghosts D → List ℕ → Parameters → D → D → Result ℕ Ending → Type 0
JudgesFilesBy d base p before after result =
    JudgesFiles base p d.told (d.files before) (d.files after) (d.counts before) (d.counts after) result
