-- Files that were read, in a validation.
use Rattle.std.proofs.Common.{◌≡◌, ◌∙◌, ◌<◌, ◌≤◌, ℕ, zero, suc, Bool, if◌then◌else◌, refl, List, [], ◌∷◌, length, get_or, eqb, inl, inr, arith, ap, Some, None, Ok, Err, Result}
use Rattle.std.proofs.lemmas.Bool.{cases_Bool, le-leb, lt-leb}
use Rattle.std.specs.Bool.{IsTrue}
use Rattle.wg_bits.specs.Bits.{bits_of}
use Rattle.wg_params.specs.{Parameters.Parameters, Parameters.IsWithinLimits, declared.code.Code.Code}
use Rattle.wg_grammar.specs.{declared.fault.ArchiveFault.ArchiveFault, declared.fault.OffsetWord.OffsetWord}
use Rattle.wg_grammar.specs.declared.fault.ArchiveFault.TheVariants as archive
use Rattle.wg_grammar.specs.{Archive.Accepted, Archive.ReadsGraph, Context.Known}
use Rattle.wg_grammar.proofs.OneGraph.{graph_one}
use Rattle.wg_offsets.specs.{Places.AgreeInLengths, Places.IsFirstMismatch, Words.ReadsOffsets}
use Rattle.wg_offsets.proofs.{OneFile.offsets_one, Differences.none_differ, Differences.first_differs}
use Rattle.wg_decoder.specs.Chains.{SpotReads}
use Rattle.wg_stream.proofs.SpotOne.{chain_one}
use Rattle.wg_num.specs.Lines.{lines_of}
use Rattle.wg_graph.specs.{Digraph.Digraph, Numbers.is_in}
use Rattle.wg_graph.proofs.Sets.{in_head}
use Rattle.wg_arcs.specs.{declared.fault.ArcsKind.ArcsKind, Reading.AreArcs, Reading.IsFirstFault, Reading.IsListed}
use Rattle.wg_arcs.proofs.Unique.{listed_one}
use Rattle.wg_ascii.specs.declared.fault.AsciiKind.{AsciiKind}
use Rattle.wg_ascii.specs.Reading as ascii
use Rattle.wg_ascii.proofs.Unique.{texts_are_one}
use Rattle.wg_outcomes.specs.{Answers.Steps, declared.ending.Ending.Ending, Readings.Readings}
use Rattle.wg_outcomes.specs.Judged.{Judged, refused, with_graph, with_offsets, with_lengths, with_list, with_pages, with_successors, with_text, unless_bad_chain, unless_bad_graph, unless_bad_offsets, unless_bad_list, unless_bad_text, unless_no_page, unless_some_differ}
use Rattle.wg_outcomes.specs.declared.status.Status.TheVariants.{BadArcs, BadArchive, BadText, NoPage}
use Rattle.wg_readings.proofs.LimitsLemmas.{coded}

-- a step that goes on as another does, or ends as that does
pub steps_alike : {B : Type 0} (f g : (B → Judged) → Judged) → ((next : B → Judged) → f next ≡ g next) → (r : Result B Ending) → Steps g r → Steps f r
steps_alike f g h r h2 = grind arith

module _ (r : Readings) (p : Parameters) (limits : IsWithinLimits p) (bytes : List ℕ) where
  -- the bits stand for one thing alone
  reads_as : (w : Result Accepted ArchiveFault) → ReadsGraph p (bits_of bytes) w → r.graph.value p bytes ≡ w
  reads_as w reads = graph_one p limits (bits_of bytes) (r.graph.value p bytes) w (r.graph.reads p limits bytes) reads

  pub goes_on : (graph : List (List ℕ)) (places : List ℕ) → ReadsGraph p (bits_of bytes) (Ok (record { graph = graph; places = places })) → (next : Accepted → Judged)
      → with_graph r p bytes next ≡ next (record { graph = graph; places = places })
  goes_on graph places read next = ap (λ (w : Result Accepted ArchiveFault). unless_bad_graph w next) (reads_as (Ok (record { graph = graph; places = places })) read)

  pub is_refused : (f : ArchiveFault) → ReadsGraph p (bits_of bytes) (Err f) → (next : Accepted → Judged) → with_graph r p bytes next ≡ refused (BadArchive f)
  is_refused f read next = ap (λ (w : Result Accepted ArchiveFault). unless_bad_graph w next) (reads_as (Err f) read)

  stores : (w : Result (List ℕ) OffsetWord) → ReadsOffsets p.offsets p.nodes (bits_of bytes) w → r.offsets.value p bytes ≡ w
  stores w reads = offsets_one p.offsets (coded p limits) p.nodes (bits_of bytes) (r.offsets.value p bytes) w (r.offsets.reads p limits bytes) reads

  pub goes_on_from : (places : List ℕ) → ReadsOffsets p.offsets p.nodes (bits_of bytes) (Ok places) → (next : List ℕ → Judged) → with_offsets r p bytes next ≡ next places
  goes_on_from places read next = ap (λ (w : Result (List ℕ) OffsetWord). unless_bad_offsets w next) (stores (Ok places) read)

  pub offsets_refused : (f : OffsetWord) → ReadsOffsets p.offsets p.nodes (bits_of bytes) (Err f) → (next : List ℕ → Judged) → with_offsets r p bytes next ≡ refused (BadArchive (archive.Offsets f))
  offsets_refused f read next = ap (λ (w : Result (List ℕ) OffsetWord). unless_bad_offsets w next) (stores (Err f) read)

-- an offsets file that was read by what the parameters say
pub by_params : (p : Parameters) (bits : List Bool) (code : Code) (n : ℕ) (w : Result (List ℕ) OffsetWord) → code ≡ p.offsets → n ≡ p.nodes
    → ReadsOffsets code n bits w → ReadsOffsets p.offsets p.nodes bits w
by_params p bits code n w same count h = grind arith

-- a page is one thing alone
pub pages_one : (p : Parameters) → IsWithinLimits p → (bits : List Bool) (places : List ℕ) (page : ℕ) (v w : Result Known ArchiveFault)
    → SpotReads p bits places page v → SpotReads p bits places page w → v ≡ w
pages_one p limits bits places page v w h k = chain_one p limits bits places page h.0 k.0 v w h.1 k.1

-- a page that is there, or is not
pub page_there : (n page : ℕ) → page < n → (next : Unit {0} → Judged) → with_pages n (page ∷ []) next ≡ next tt
page_there n page lt next = ap (λ (b : Bool). unless_no_page (if b then Some page else None) next) (lt-leb n page lt)

pub page_absent : (n page : ℕ) → n ≤ page → (next : Unit {0} → Judged) → with_pages n (page ∷ []) next ≡ refused (NoPage page)
page_absent n page le next = ap (λ (b : Bool). unless_no_page (if b then Some page else None) next) (le-leb n page le)

-- a page that was read by its chain
module _ (r : Readings) (p : Parameters) (limits : IsWithinLimits p) (bytes places : List ℕ) (page : ℕ) where
  page_as : (w : Result Known ArchiveFault) → SpotReads p (bits_of bytes) places page w → r.page.value p bytes places page ≡ w
  page_as w reads = pages_one p limits (bits_of bytes) places page (r.page.value p bytes places page) w (r.page.reads p limits bytes places page) reads

  there : page < p.nodes → (next : List ℕ → Judged) → with_successors r p bytes places page next ≡ unless_bad_chain (r.page.value p bytes places page) next
  there lt next = page_there p.nodes page lt (λ t. unless_bad_chain (r.page.value p bytes places page) next)

  pub successors_go_on : page < p.nodes → (k : Known) → SpotReads p (bits_of bytes) places page (Ok k) → (next : List ℕ → Judged) → with_successors r p bytes places page next ≡ next k.list
  successors_go_on lt k reads next = there lt next ∙ ap (λ (w : Result Known ArchiveFault). unless_bad_chain w next) (page_as (Ok k) reads)

  pub chain_refused : page < p.nodes → (f : ArchiveFault) → SpotReads p (bits_of bytes) places page (Err f) → (next : List ℕ → Judged) → with_successors r p bytes places page next ≡ refused (BadArchive f)
  chain_refused lt f reads next = there lt next ∙ ap (λ (w : Result Known ArchiveFault). unless_bad_chain w next) (page_as (Err f) reads)

  pub page_refused : p.nodes ≤ page → (next : List ℕ → Judged) → with_successors r p bytes places page next ≡ refused (NoPage page)
  page_refused le next = page_absent p.nodes page le (λ t. unless_bad_chain (r.page.value p bytes places page) next)

-- an arc list that was read
module _ (r : Readings) (n : ℕ) (bytes : List ℕ) where
  lists_as : (w : Result Digraph (ℕ × ArcsKind)) → IsListed n bytes w → r.arc_list.value n bytes ≡ w
  lists_as w reads = listed_one n bytes (r.arc_list.value n bytes) w (r.arc_list.reads n bytes) reads

  pub list_goes_on : (g : Digraph) → AreArcs n (lines_of bytes) g → (next : Digraph → Judged) → with_list r n bytes next ≡ next g
  list_goes_on g reads next = ap (λ (w : Result Digraph (ℕ × ArcsKind)). unless_bad_list w next) (lists_as (Ok g) reads)

  pub list_refused : (line : ℕ) (kind : ArcsKind) → IsFirstFault n (lines_of bytes) line kind → (next : Digraph → Judged) → with_list r n bytes next ≡ refused (BadArcs line kind)
  list_refused line kind reads next = ap (λ (w : Result Digraph (ℕ × ArcsKind)). unless_bad_list w next) (lists_as (Err (line, kind)) reads)

-- an ASCIIGraph text stands for one thing alone
pub decided_one : (bytes : List ℕ) (w v : Result Digraph (ℕ × AsciiKind)) → ascii.IsDecided bytes w → ascii.IsDecided bytes v → w ≡ v
decided_one bytes w v h h2 = grind (arith, texts_are_one)

-- an ASCIIGraph text that was read
module _ (r : Readings) (bytes : List ℕ) where
  text_as : (w : Result Digraph (ℕ × AsciiKind)) → ascii.IsDecided bytes w → r.plain_text.value bytes ≡ w
  text_as w reads = decided_one bytes (r.plain_text.value bytes) w (r.plain_text.reads bytes) reads

  pub text_goes_on : (g : Digraph) → ascii.StandsFor (lines_of bytes) g → (next : Digraph → Judged) → with_text r bytes next ≡ next g
  text_goes_on g reads next = ap (λ (w : Result Digraph (ℕ × AsciiKind)). unless_bad_text w next) (text_as (Ok g) reads)

  pub text_refused : (line : ℕ) (kind : AsciiKind) → ascii.IsFirstFault (lines_of bytes) line kind → (next : Digraph → Judged) → with_text r bytes next ≡ refused (BadText line kind)
  text_refused line kind reads next = ap (λ (w : Result Digraph (ℕ × AsciiKind)). unless_bad_text w next) (text_as (Err (line, kind)) reads)

-- records that were held against what is stored
pub all_agree : (found stored : List ℕ) → AgreeInLengths found stored → (next : Unit {0} → Judged) → with_lengths found stored next ≡ next tt
all_agree found stored agree next = ap (λ (l : List ℕ). unless_some_differ l found stored next) (none_differ found stored agree)

pub one_differs : (found stored : List ℕ) (page here there : ℕ) → IsFirstMismatch found stored page here there → (next : Unit {0} → Judged)
    → with_lengths found stored next ≡ refused (BadArchive (archive.Length page here there))
one_differs found stored page here there h next =
    let first = first_differs found stored page here there h in
    rw (h.here_is, h.there_is) (ap (λ (l : List ℕ). unless_some_differ l found stored next) first.1)

-- a number of a list stands in it
pub in_at : (xs : List ℕ) (k d : ℕ) → k < length xs → IsTrue (is_in (get_or xs k d) xs)
in_at [] k d lt = elim lt [ ]
in_at (x ∷ xs) zero d lt = in_head x xs
in_at (x ∷ xs) (suc k) d lt =
    elim (cases_Bool (eqb (get_or xs k d) x)) [ inl h ↦ rw h refl | inr h ↦ rw (h, (in_at xs k d (omega arith))) refl ]
