-- What stands when a job has ended.
use Rattle.std.specs.Prelude.{◌≡◌, ◌⊎◌, ℕ, Bool, false, List, Option, Some, Result, IsTrue, IfErr}
use Rattle.wg_outside.specs.Outside.{Files, Counts, NonDecreasing}
use Rattle.wg_outside.specs.declared.depot.Depot as depot
use Rattle.wg_outside.specs.declared.sink.Sink as sink
use Rattle.wg_outside.specs.declared.output.Output.{Output}
use Rattle.wg_graph.specs.Digraph.{Digraph}
use Rattle.wg_rank.specs.Intervals.{Intervals}
use Rattle.wg_words.specs.declared.jobs.Job.{Job}
use Rattle.wg_words.specs.declared.jobs.RankJob.{RankJob}
use Rattle.wg_params.specs.declared.layout.Layout.{Layout}
use Rattle.wg_outcomes.specs.Reached.{Reaches}
use Rattle.wg_outcomes.specs.Answers.{Answers, HasOutput, IsPutLast, IsUnprinted, status_in}
use Rattle.wg_outcomes.specs.Causes.{HasCause}
use Rattle.wg_outcomes.specs.Commands.{greedy_line, judged, written_by}
use Rattle.wg_outcomes.specs.Judged.{Judged, Written, an_archive, a_certificate, output_of, status_of}
use Rattle.wg_outcomes.specs.Promised.{ArePromised, promised_in}
use Rattle.wg_outcomes.specs.JobFiles.{can_end, input_name, output_name, prints_in_parts, prints_while_reading, writes_files}
use Rattle.wg_outcomes.specs.Names.{archive_named, certificate_to, held_by}
use Rattle.wg_outcomes.specs.Ranked.{certificate_text, text_for}
use Rattle.wg_outcomes.specs.Readings.{Readings}
use Rattle.wg_outcomes.specs.Written.{AreAllWhole, HasFiles, IsStopped, greedy_archive, params_for}
use Rattle.wg_outcomes.specs.declared.ending.Ending.{Ending}
use Rattle.wg_outcomes.specs.declared.status.Input.{Input}
use Rattle.wg_outcomes.specs.declared.status.Status.{Status}
use Rattle.wg_outcomes.specs.declared.status.Status.TheVariants.{Done, Memory, ReadFault, WriteFault}

-- how often an output failed, and how often it was out of memory
pub record OutCounts : Type 0 where
  pub faults : ℕ
  pub wants : ℕ

abbrev pub out_counts : {O : Type 0} → sink.Ghosts O → O → OutCounts
out_counts o out = record { faults = o.faults out; wants = o.wants out }

-- the outside of a job at one moment: the files of the depot and its counts, what the output has taken, and its counts
pub record Outside : Type 0 where
  pub files : Files
  pub counts : List ℕ → Counts
  pub taken : List ℕ
  pub out : OutCounts

abbrev pub outside : Files → (List ℕ → Counts) → List ℕ → OutCounts → Outside
outside files counts taken out = record { files = files; counts = counts; taken = taken; out = out }

-- what a job comes to on these files
abbrev pub judged_on : Readings → Job → Files → Judged
judged_on r job files = judged r job (held_by (input_name job) files)

-- The job was done or has ended with this status and this promised number. What the files or the output hold is stated
-- only of a depot and an output whose ghosts are told.
pub record Performs (job : Job) (told_files told_out : Bool) (before after : Outside) (status : Status) (number : ℕ)
    : Type 0 where
  -- the status is the one that the job and its inputs lead to, or a fault of the outside or out of memory came in its
  -- place
  pub answers : IsTrue told_files → (r : Readings) → Answers (judged_on r job before.files) status
  -- it is one of those that this job can have at all
  pub possible : IsTrue (can_end job status)
  -- a fault or an absence is reported only if the outside counted it
  pub causes : HasCause (input_name job) (output_name job) before.counts after.counts before.out.faults after.out.faults status
  -- a fault of an input is reported only if the job had come so far
  pub reached : IsTrue told_files → (r : Readings) (i : Input) → status ≡ ReadFault i
      → Reaches r job (held_by (input_name job) before.files) i
  -- a fault of an output is reported only if nothing was to be refused
  pub needed : IsTrue told_files → (r : Readings) (o : Output) → status ≡ WriteFault o
      → status_of (judged_on r job before.files) ≡ Done
  -- what stands on the output
  pub output : IsTrue told_files → IsTrue told_out → (r : Readings)
      → HasOutput (output_of (judged_on r job before.files)) before.taken after.taken status
  -- what is printed comes last, told or not, but for a job that prints while it reads
  pub silent : prints_while_reading job ≡ false → IsPutLast status before.taken after.taken
  -- nothing is printed if memory ran out, told or not, unless the output counted it, but for a job that prints in parts
  pub unprinted : prints_in_parts job ≡ false → IsUnprinted status before.taken after.taken before.out.wants after.out.wants
  -- and nothing is printed if it ran out before the files were whole
  pub printed_last : IsTrue told_files → (r : Readings) → status ≡ Memory
      → (after.taken ≡ before.taken) ⊎ AreAllWhole (output_name job)
      (written_by r job (held_by (input_name job) before.files)) after.files
  -- what stands in the files
  pub files : IsTrue told_files → (r : Readings)
      → HasFiles (output_name job) (written_by r job (held_by (input_name job) before.files))
      before.files after.files status
  -- a job that writes no file leaves them all, told or not
  pub same : writes_files job ≡ false → after.files ≡ before.files
  -- no count of the depot falls
  pub later : NonDecreasing before.counts after.counts
  -- the number is promised, if the line of the status names it
  pub promised : IsTrue told_files → ArePromised (held_by (input_name job) before.files) status number

-- a job is performed by a function that changes a depot and an output
abbrev pub Does : {D O : Type 0} → depot.Ghosts D → sink.Ghosts O → Job → D → D → O → O → Status → ℕ → Type 0
Does d o job before after out out' status number =
    Performs job d.told o.told (outside (d.files before) (d.counts before) (o.taken out) (out_counts o out))
    (outside (d.files after) (d.counts after) (o.taken out') (out_counts o out')) status number

-- a job is performed by a command, which was done or has ended
pub record DoesOrEnds {D O : Type 0} (d : depot.Ghosts D) (o : sink.Ghosts O) (job : Job) (before after : D)
    (out out' : O) (result : Result (Unit {0}) Ending) : Type 0 where
  pub does : Does d o job before after out out' (status_in result) (promised_in result)
  -- the output comes of the one before by writing on
  pub later : o.later out out'

-- a job is performed by a command without files: it makes no call of a depot, whatever the depot holds
abbrev pub DoesAlone : {O : Type 0} → sink.Ghosts O → Job → O → O → Result (Unit {0}) Ending → Type 0
DoesAlone o job out out' result =
    (told : Bool) (files : Files) (counts : List ℕ → Counts)
    → Performs job told o.told (outside files counts (o.taken out) (out_counts o out))
    (outside files counts (o.taken out') (out_counts o out')) (status_in result) (promised_in result)

-- What a job writes was written to files of these names, and its text printed; or what was left where this stopped.
pub record Produces (names : Output → Option (List ℕ)) (what : Written) (text : Readings → List ℕ)
    (told_files told_out : Bool) (before after : Outside) (result : Result (Unit {0}) Ending) : Type 0 where
  -- a file, the output or memory alone can stop it
  pub only : IfErr result (λ e. IsStopped e.status)
  -- a fault is reported only if the outside counted it
  pub causes : (inputs : Input → Option (List ℕ))
      → HasCause inputs names before.counts after.counts before.out.faults after.out.faults (status_in result)
  -- what stands on the output
  pub output : IsTrue told_out → (r : Readings) → HasOutput (text r) before.taken after.taken (status_in result)
  -- what is printed comes last, told or not
  pub silent : IsPutLast (status_in result) before.taken after.taken
  -- nothing is printed if memory ran out, told or not, unless the output counted it
  pub unprinted : IsUnprinted (status_in result) before.taken after.taken before.out.wants after.out.wants
  -- and nothing is printed if it ran out before the files were whole
  pub printed_last : IsTrue told_files → status_in result ≡ Memory
      → (after.taken ≡ before.taken) ⊎ AreAllWhole names (Some what) after.files
  -- what stands in the files
  pub files : IsTrue told_files → HasFiles names (Some what) before.files after.files (status_in result)
  -- no count of the depot falls
  pub later : NonDecreasing before.counts after.counts

-- The greedy archive of a graph, in a layout, and its line.
abbrev pub BuildsArchive : Layout → Digraph → List ℕ → Bool → Bool → Outside → Outside → Result (Unit {0}) Ending
    → Type 0
BuildsArchive l g base told_files told_out before after result =
    Produces (archive_named base) (an_archive (greedy_archive (params_for l g) g))
    (λ r. greedy_line (params_for l g) g) told_files told_out before after result

-- The certificate of bounds, and the first lines of the ranking by them.
abbrev pub CertifiesRanking : Intervals → List ℕ → RankJob → Bool → Bool → Outside → Outside
    → Result (Unit {0}) Ending → Type 0
CertifiesRanking b name job told_files told_out before after result =
    Produces (certificate_to name) (a_certificate (certificate_text b)) (λ r. text_for r job b)
    told_files told_out before after result

-- the greedy archive of a graph, and its line, by a function that changes a depot and an output
abbrev pub Builds : {D O : Type 0} → depot.Ghosts D → sink.Ghosts O → Layout → Digraph → List ℕ → D → D → O → O
    → Result (Unit {0}) Ending → Type 0
Builds d o l g base before after out out' result =
    BuildsArchive l g base d.told o.told (outside (d.files before) (d.counts before) (o.taken out) (out_counts o out))
    (outside (d.files after) (d.counts after) (o.taken out') (out_counts o out')) result

abbrev pub Certifies : {D O : Type 0} → depot.Ghosts D → sink.Ghosts O → Intervals → List ℕ → RankJob → D → D → O → O
    → Result (Unit {0}) Ending → Type 0
Certifies d o b name job before after out out' result =
    CertifiesRanking b name job d.told o.told
    (outside (d.files before) (d.counts before) (o.taken out) (out_counts o out))
    (outside (d.files after) (d.counts after) (o.taken out') (out_counts o out')) result
