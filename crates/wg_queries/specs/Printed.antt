-- A text of each record of a graph file, as it is printed.
use Rattle.std.specs.Prelude.{◌⊎◌, ℕ, ◌<◌, ◌++◌, Bool, ◌≡◌, List, [], length, map, take, Result, Ok, Err, IsTrue, IfErr}
use Rattle.wg_outside.specs.Outside.{NonDecreasing}
use Rattle.wg_outside.specs.declared.depot.Depot as depot
use Rattle.wg_outside.specs.declared.sink.Sink as sink
use Rattle.wg_params.specs.Parameters.{Parameters}
use Rattle.wg_grammar.specs.Archive.{Accepted}
use Rattle.wg_arcs.specs.Text.{lines_from, page_lines}
use Rattle.wg_ascii.specs.Text.{list_line, nodes_line}
use Rattle.wg_outside.specs.Puts.{joined}
use Rattle.wg_outside.specs.declared.output.Output.TheVariants.{Out}
use Rattle.wg_words.specs.declared.jobs.Job.{Job}
use Rattle.wg_words.specs.declared.jobs.Job.TheVariants as job
use Rattle.wg_outcomes.specs.Answers.{IsHindrance, IsUnput, status_in}
use Rattle.wg_outcomes.specs.Causes.{HasCause}
use Rattle.wg_outcomes.specs.Commands.{number_line, number_lines}
use Rattle.wg_outcomes.specs.Names.{file_of, held_by, no_outputs}
use Rattle.wg_readings.specs.Passes.{IsGraphFile}
use Rattle.wg_outcomes.specs.Promised.{IsStopAt}
use Rattle.wg_outcomes.specs.Performs.{Outside, out_counts, outside}
use Rattle.wg_outcomes.specs.declared.ending.Ending.{Ending}
use Rattle.wg_queries.specs.declared.printing.Listing.{Listing}
use Rattle.wg_queries.specs.declared.printing.Listing.TheVariants.{Arcs, Ascii, Offsets}
use Rattle.wg_outcomes.specs.declared.status.Input.TheVariants as input
use Rattle.wg_outcomes.specs.declared.status.Status.TheVariants.{WriteFault}

-- the job that prints it
abbrev pub job_of : Listing → List ℕ → Job
job_of Arcs base = job.Arcs base
job_of Ascii base = job.Ascii base
job_of Offsets base = job.Offsets base

-- what comes before the first record of so many
abbrev pub head_of : Listing → ℕ → List ℕ
head_of Arcs n = []
head_of Ascii n = nodes_line n
head_of Offsets n = number_line 0

-- what is printed of the record of a page, by its list and the offset after it
abbrev pub piece_of : Listing → ℕ → List ℕ → ℕ → List ℕ
piece_of Arcs page list end = page_lines page list
piece_of Ascii page list end = list_line list
piece_of Offsets page list end = number_line end

-- what is printed of a graph of so many pages
abbrev pub listed : Listing → ℕ → Accepted → List ℕ
listed Arcs n a = lines_from 0 a.graph
listed Ascii n a = nodes_line n ++ joined (map list_line a.graph)
listed Offsets n a = number_lines a.places

-- all of the text at Ok, and else a prefix of it, that lacks something if the output itself failed
abbrev pub PutsUpTo : List ℕ → List ℕ → List ℕ → Result (Unit {0}) Ending → Type 0
PutsUpTo due old new (Ok done) = new ≡ old ++ due
PutsUpTo due old new (Err e) = (k : ℕ) × (e.status ≡ WriteFault Out → k < length due) × (new ≡ old ++ take k due)

-- A pass over a graph file that prints a text of its graph. If the file stands for a graph, all of the text is put out,
-- or a prefix of it and then something hindered the pass.
pub record PrintsGraph (base : List ℕ) (p : Parameters) (text : Accepted → List ℕ) (told_files told_out : Bool)
    (before after : Outside) (result : Result (Unit {0}) Ending) : Type 0 where
  pub same : after.files ≡ before.files
  pub later : NonDecreasing before.counts after.counts
  pub only : IfErr result (λ e. IsStopAt input.Graph p.arcs e ⊎ IsUnput e.status)
  pub causes : HasCause (file_of base) no_outputs before.counts after.counts before.out.faults after.out.faults
      (status_in result)
  pub hindered : IsTrue told_files → (a : Accepted)
      → IsGraphFile (held_by (file_of base) before.files input.Graph) p a → IfErr result (λ e. IsHindrance e.status)
  pub puts : IsTrue told_files → IsTrue told_out → (a : Accepted)
      → IsGraphFile (held_by (file_of base) before.files input.Graph) p a
      → PutsUpTo (text a) before.taken after.taken result

-- a pass that prints a text of its graph, by a function that changes a depot and an output
abbrev pub PrintsAgain : {D O : Type 0} → depot.Ghosts D → sink.Ghosts O → List ℕ → Parameters → (Accepted → List ℕ)
    → D → D → O → O → Result (Unit {0}) Ending → Type 0
PrintsAgain d o base p text before after out out' result =
    PrintsGraph base p text d.told o.told (outside (d.files before) (d.counts before) (o.taken out) (out_counts o out))
    (outside (d.files after) (d.counts after) (o.taken out') (out_counts o out')) result
