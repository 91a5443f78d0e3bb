-- A job that imports an ASCIIGraph text, and what its archive is read as.
use Rattle.std.proofs.Common.{◌≡◌, ℕ, ◌≤◌, List, length, Option, Some, Result, refl, sym, ap, subst, ◌∙◌, arith}
use Rattle.std.proofs.lemmas.Option.{same_Some}
use Rattle.wg_outside.specs.declared.limits.TheConstants.{MOST_BYTES}
use Rattle.wg_num.specs.Lines.{lines_of}
use Rattle.wg_params.specs.{Parameters.IsWithinLimits, Parameters.params_of, declared.layout.Layout.Layout}
use Rattle.wg_graph.specs.Digraph.{Digraph}
use Rattle.wg_ascii.specs.{Laws.HaveSameWords, Reading.IsDecided, Reading.StandsFor, declared.fault.AsciiKind.AsciiKind}
use Rattle.wg_ascii.specs.Text as plain
use Rattle.wg_ascii.proofs.ReadBack as texts
use Rattle.wg_words.specs.{Jobs.writing, declared.jobs.Job.TheVariants.Ascii}
use Rattle.wg_words.specs.declared.jobs.Origin.TheVariants.{Import, Recode}
use Rattle.wg_outcomes.specs.Judged.{Judged, accepted, built, output_of, status_of, unless_bad_text, with_text}
use Rattle.wg_greedy.specs.Archive.{Archive}
use Rattle.wg_outcomes.specs.{Readings.Readings, declared.status.Input.Input, declared.status.Input.TheVariants.Text}
use Rattle.wg_readings.proofs.ReadingsLemmas.{text_goes_on}
use Rattle.wg_laws.specs.Built.{ImportsAreAccepted, IsAcceptedImport}
use Rattle.wg_outcomes.specs.Commands.{builds, judged}
use Rattle.wg_laws.proofs.{BuiltLemmas.file_behind, ConversionLemmas.read_again, HeldLemmas.graph_behind}
use Rattle.wg_outcomes.proofs.FileLemmas.{held_goes}

-- from what was imported back to its text

module _ (a : Archive) (out : List ℕ) where
  stood_for : (bytes : List ℕ) (w : Result Digraph (ℕ × AsciiKind)) (next : Digraph → Judged) → IsDecided bytes w → unless_bad_text w next ≡ built a out
      → (g : Digraph) × StandsFor (lines_of bytes) g × (next g ≡ built a out)
  stood_for bytes w next h h2 = grind arith

import_accepted : (r : Readings) (name base : List ℕ) (layout : Layout) (held : Input → Option (List ℕ)) (a : Archive) (out : List ℕ)
    → IsWithinLimits (params_of layout 0 0) → judged r (writing base layout (Import name)) held ≡ built a out → IsAcceptedImport r held base a out
import_accepted r name base layout held a out within is =
    let next : Digraph → Judged = builds layout in
    let file = file_behind a out Text (held Text) (λ bytes. with_text r bytes next) is in
    let found = stood_for a out file.0 (r.plain_text.value file.0) next (r.plain_text.reads file.0) file.2 in
    let g : Digraph = found.0 in
    let are : StandsFor (lines_of file.0) g = found.1 in
    let again = read_again r layout g a out within are.proper are.few_pages are.few_arcs found.2 in
    let text : List ℕ = plain.text_of_graph g in
    record {
      check = again.check base;
      ascii = λ bytes there.
          let one : file.0 ≡ bytes = same_Some file.0 bytes (sym file.1 ∙ there) in
          let stands : StandsFor (lines_of text) g = texts.read_back g are.proper are.few_pages are.few_arcs in
          let words = texts.spellings_agree.alone file.0 text g g are stands refl in
          (text, again.goes_on (λ h. accepted (plain.text_of_graph h)), subst (λ (b : List ℕ). HaveSameWords (lines_of b) (lines_of text)) one words);
    }

imported_back : (r : Readings) (base output name text : List ℕ) (layout : Layout) (held after : Input → Option (List ℕ))
    → judged r (Ascii base) held ≡ accepted text → length text ≤ MOST_BYTES → after Text ≡ Some text
    → judged r (writing output layout (Import name)) after ≡ judged r (writing output layout (Recode base)) held
imported_back r base output name text layout held after printed short there =
    let shown : Digraph → Judged = λ g. accepted (plain.text_of_graph g) in
    let next : Digraph → Judged = builds layout in
    let behind = graph_behind r held shown (ap status_of printed) in
    let g : Digraph = behind.graph in
    let same : plain.text_of_graph g ≡ text = ap output_of (sym (behind.goes_on shown) ∙ printed) in
    let stands : StandsFor (lines_of text) g = subst (λ (b : List ℕ). StandsFor (lines_of b) g) same (texts.read_back g behind.proper behind.few_pages behind.few_arcs) in
    held_goes Text _ text there short (λ bytes. with_text r bytes next) ∙ text_goes_on r text g stands next
    ∙ sym (behind.goes_on next)

pub imports_accepted : (r : Readings) → ImportsAreAccepted r
imports_accepted r = record { import = import_accepted r; back = imported_back r }
