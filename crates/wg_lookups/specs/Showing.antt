-- The line of a page, as it is printed, and the records of its chain of references.
use Rattle.std.specs.Prelude.{◌≡◌, ℕ, ◌+◌, ◌≤◌, Bool, List, Option, Some, Result, Ok, IsTrue, IfErr, OnOk, sum_by}
use Rattle.wg_outside.specs.Outside.{Increased}
use Rattle.wg_lines.specs.Printing.{Prints}
use Rattle.wg_outside.specs.declared.output.Output.TheVariants.{Out}
use Rattle.wg_outside.specs.declared.sink.Sink as sink
use Rattle.wg_outside.specs.declared.depot.Depot as depot
use Rattle.wg_bits.specs.Bits.{bits_of}
use Rattle.wg_params.specs.Parameters.{Parameters}
use Rattle.wg_grammar.specs.Archive.{Accepted, ReadsGraph}
use Rattle.wg_grammar.specs.Record.{Whole}
use Rattle.wg_stream.specs.AllRecords.{AllRecords, known_at}
use Rattle.wg_random.specs.Checked.{CheckedRecords}
use Rattle.wg_outcomes.specs.Answers.{IsUnput, status_in}
use Rattle.wg_outcomes.specs.Commands.{line_in}
use Rattle.wg_outcomes.specs.Names.{file_of, held_by}
use Rattle.wg_readings.specs.Loading.{IsPropertiesFile}
use Rattle.wg_outcomes.specs.declared.ending.Ending.{Ending}
use Rattle.wg_outcomes.specs.declared.status.Input.{Input}
use Rattle.wg_outcomes.specs.declared.status.Input.TheVariants as input
use Rattle.wg_outcomes.specs.declared.status.Status.TheVariants.{WriteFault}

-- the line of a page of the archive is printed, or a prefix of it and then memory ran out or the output failed
pub record PrintsLine {S : Type 0} (s : sink.Ghosts S) (archive : CheckedRecords) (page : ℕ) (before after : S)
    (waited waits : List ℕ) (result : Result (Unit {0}) Ending) : Type 0 where
  pub prints : IsTrue s.told → (a : Accepted) → ReadsGraph archive.params archive.bits (Ok a)
      → Prints (line_in a.graph page) (s.taken before) (s.taken after) waited waits result
  pub later : s.later before after
  pub only : IfErr result (λ e. IsUnput e.status)
  pub failed : status_in result ≡ WriteFault Out → Increased (s.faults before) (s.faults after)

-- how many records the chain of references of a page has
abbrev pub chain_records : List Whole → ℕ → ℕ
chain_records records page = (known_at records page).depth + 1

-- The records of the chain of each of these pages are opened, each once and no other; or only some of them, if not all
-- of the pages are printed. So the count rises.
pub record OpensChains (p : Parameters) (bits : List Bool) (pages : List ℕ) (from to : ℕ)
    (result : Result (Unit {0}) Ending) : Type 0 where
  pub each : (r : AllRecords p bits) → OnOk result (to ≡ from + sum_by (chain_records r.records) pages)
  pub most : (r : AllRecords p bits) → to ≤ from + sum_by (chain_records r.records) pages

-- the properties file of an archive gives these parameters, and these are the bytes of its graph file
pub record HoldsGraphFile (held : Input → Option (List ℕ)) (p : Parameters) (bytes : List ℕ) : Type 0 where
  pub properties : IsPropertiesFile (held input.Properties) p
  pub graph : held input.Graph ≡ Some bytes

-- the records of the chains of these pages are opened, of an archive in a depot
abbrev pub OpensChainsBy : {D : Type 0} → depot.Ghosts D → List ℕ → List ℕ → D → ℕ → ℕ → Result (Unit {0}) Ending
    → Type 0
OpensChainsBy d base pages before from to result =
    IsTrue d.told → (p : Parameters) (bytes : List ℕ) → HoldsGraphFile (held_by (file_of base) (d.files before)) p bytes
    → OpensChains p (bits_of bytes) pages from to result
