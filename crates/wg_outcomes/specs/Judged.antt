-- What a job comes to, by what its inputs hold.
use Rattle.std.specs.Prelude.{ℕ, ◌+◌, List, [], ◌∷◌, length, find, nat_eq, nat_le, nat_lt, ◌&&◌, if◌then◌else◌, Option, Some, None, Result, Ok, Err}
use Rattle.wg_outside.specs.declared.limits.TheConstants.{MOST_BYTES}
use Rattle.wg_params.specs.Parameters.{Parameters}
use Rattle.wg_properties.specs.Judged.{properties_of}
use Rattle.wg_properties.specs.declared.fault.PropFault.{PropFault}
use Rattle.wg_grammar.specs.declared.fault.ArchiveFault.{ArchiveFault}
use Rattle.wg_grammar.specs.declared.fault.ArchiveFault.TheVariants as archive
use Rattle.wg_grammar.specs.declared.fault.OffsetWord.{OffsetWord}
use Rattle.wg_grammar.specs.Archive.{Accepted}
use Rattle.wg_grammar.specs.Context.{Known}
use Rattle.wg_graph.specs.Digraph.{Digraph}
use Rattle.wg_greedy.specs.Archive.{Archive}
use Rattle.wg_arcs.specs.declared.fault.ArcsKind.{ArcsKind}
use Rattle.wg_arcs.specs.declared.numbers_fault.NumbersFault.{NumbersFault}
use Rattle.wg_arcs.specs.Numbers.{numbers_of}
use Rattle.wg_ascii.specs.declared.fault.AsciiKind.{AsciiKind}
use Rattle.wg_offsets.specs.Places.{record_length, pages_that_differ}
use Rattle.wg_rank.specs.Sum.{sum_below}
use Rattle.wg_rank.specs.Intervals.{by_page}
use Rattle.wg_rank.specs.Claims.{Claim}
use Rattle.wg_rank.specs.CertificateText.{claim_of}
use Rattle.wg_rank.specs.declared.fault.CertFault.{CertFault}
use Rattle.wg_rank.specs.declared.limits.TheConstants.{MOST_WEIGHT}
use Rattle.wg_outcomes.specs.Readings.{Readings}
use Rattle.wg_outcomes.specs.declared.status.Input.{Input}
use Rattle.wg_outcomes.specs.declared.status.Input.TheVariants as input
use Rattle.wg_outcomes.specs.declared.status.Status.{Status}
use Rattle.wg_outcomes.specs.declared.status.Status.TheVariants.{Done, Missing, BadArcs, BadProperties, BadArchive, NoPage, OverLimit, BadWeights, BadText, BadMap, BadCertificate}
use Rattle.wg_outcomes.specs.declared.status.WeightsFault.{WeightsFault}
use Rattle.wg_outcomes.specs.declared.status.WeightsFault.TheVariants as weights

-- what a job writes: the files of an archive, or a certificate
pub data Written : Type 0 where
  an_archive : Archive → Written
  a_certificate : List ℕ → Written

-- a job is refused with a status; or it is done, with this on the output; or it is done with an archive or a
-- certificate besides
pub data Judged : Type 0 where
  refused : Status → Judged
  accepted : List ℕ → Judged
  built : Archive → List ℕ → Judged
  certified : List ℕ → List ℕ → Judged

abbrev pub status_of : Judged → Status
status_of (refused status) = status
status_of (accepted out) = Done
status_of (built files out) = Done
status_of (certified text out) = Done

abbrev pub output_of : Judged → List ℕ
output_of (refused status) = []
output_of (accepted out) = out
output_of (built files out) = out
output_of (certified text out) = out

abbrev pub files_of : Judged → Option Written
files_of (refused status) = None
files_of (accepted out) = None
files_of (built files out) = Some (an_archive files)
files_of (certified text out) = Some (a_certificate text)

-- goes on with the bytes of an input, if it is held and not too long
abbrev pub with_file : Input → Option (List ℕ) → (List ℕ → Judged) → Judged
with_file i None next = refused (Missing i)
with_file i (Some bytes) next = if nat_lt MOST_BYTES (length bytes) then refused (OverLimit i) else next bytes

abbrev pub unless_bad_properties : Result Parameters PropFault → (Parameters → Judged) → Judged
unless_bad_properties (Ok p) next = next p
unless_bad_properties (Err f) next = refused (BadProperties f)

-- goes on with the parameters that the properties text gives
abbrev pub with_parameters : List ℕ → (Parameters → Judged) → Judged
with_parameters text next = unless_bad_properties (properties_of text) next

abbrev pub unless_bad_graph : Result Accepted ArchiveFault → (Accepted → Judged) → Judged
unless_bad_graph (Ok a) next = next a
unless_bad_graph (Err f) next = refused (BadArchive f)

-- goes on with the graph that the bytes stand for
abbrev pub with_graph : Readings → Parameters → List ℕ → (Accepted → Judged) → Judged
with_graph r p bytes next = unless_bad_graph (r.graph.value p bytes) next

-- goes on with its pages and their lists
abbrev pub with_digraph : Readings → Parameters → List ℕ → (Digraph → Judged) → Judged
with_digraph r p bytes next = with_graph r p bytes (λ a. next (record { nodes = p.nodes; lists = a.graph }))

-- goes on with the places of its records
abbrev pub with_places : Readings → Parameters → List ℕ → (List ℕ → Judged) → Judged
with_places r p bytes next = with_graph r p bytes (λ a. next a.places)

abbrev pub unless_bad_offsets : Result (List ℕ) OffsetWord → (List ℕ → Judged) → Judged
unless_bad_offsets (Ok places) next = next places
unless_bad_offsets (Err w) next = refused (BadArchive (archive.Offsets w))

-- goes on with the places that the offsets file stores
abbrev pub with_offsets : Readings → Parameters → List ℕ → (List ℕ → Judged) → Judged
with_offsets r p bytes next = unless_bad_offsets (r.offsets.value p bytes) next

abbrev pub unless_some_differ : List ℕ → List ℕ → List ℕ → (Unit {0} → Judged) → Judged
unless_some_differ [] found stored next = next tt
unless_some_differ (x ∷ rest) found stored next =
    refused (BadArchive (archive.Length x (record_length found x) (record_length stored x)))

-- goes on if each record has the length that is stored
abbrev pub with_lengths : List ℕ → List ℕ → (Unit {0} → Judged) → Judged
with_lengths found stored next = unless_some_differ (pages_that_differ found stored) found stored next

abbrev pub unless_no_page : Option ℕ → (Unit {0} → Judged) → Judged
unless_no_page None next = next tt
unless_no_page (Some page) next = refused (NoPage page)

-- goes on if a graph of so many pages has all of these; else the first that it does not have is refused
abbrev pub with_pages : ℕ → List ℕ → (Unit {0} → Judged) → Judged
with_pages n pages next = unless_no_page (find (λ page. nat_le n page) pages) next

abbrev pub unless_bad_chain : Result Known ArchiveFault → (List ℕ → Judged) → Judged
unless_bad_chain (Ok k) next = next k.list
unless_bad_chain (Err f) next = refused (BadArchive f)

-- goes on with the successors of a page, by these offsets and its chain of references alone
abbrev pub with_successors : Readings → Parameters → List ℕ → List ℕ → ℕ → (List ℕ → Judged) → Judged
with_successors r p bytes places page next =
    with_pages p.nodes (page ∷ []) (λ there. unless_bad_chain (r.page.value p bytes places page) next)

abbrev pub unless_bad_list : Result Digraph (ℕ × ArcsKind) → (Digraph → Judged) → Judged
unless_bad_list (Ok g) next = next g
unless_bad_list (Err fault) next = refused (BadArcs fault.0 fault.1)

-- goes on with the graph of so many pages that the arc list stands for
abbrev pub with_list : Readings → ℕ → List ℕ → (Digraph → Judged) → Judged
with_list r n bytes next = unless_bad_list (r.arc_list.value n bytes) next

-- goes on with the graph of so many pages that the arc list holds
abbrev pub with_arcs : Readings → ℕ → (Input → Option (List ℕ)) → (Digraph → Judged) → Judged
with_arcs r n held next = with_file input.ArcList (held input.ArcList) (λ bytes. with_list r n bytes next)

abbrev pub unless_bad_text : Result Digraph (ℕ × AsciiKind) → (Digraph → Judged) → Judged
unless_bad_text (Ok g) next = next g
unless_bad_text (Err fault) next = refused (BadText fault.0 fault.1)

-- goes on with the graph that the ASCIIGraph text stands for
abbrev pub with_text : Readings → List ℕ → (Digraph → Judged) → Judged
with_text r bytes next = unless_bad_text (r.plain_text.value bytes) next

-- goes on with the graph that an ASCIIGraph text holds
abbrev pub text_then : Readings → Option (List ℕ) → (Digraph → Judged) → Judged
text_then r held next = with_file input.Text held (λ bytes. with_text r bytes next)

-- goes on with the parameters, and the bytes of the graph file
abbrev pub with_records : (Input → Option (List ℕ)) → (Parameters → List ℕ → Judged) → Judged
with_records held next =
    with_file input.Properties (held input.Properties) (λ text. with_parameters text (λ p.
    with_file input.Graph (held input.Graph) (λ bytes. next p bytes)))

-- goes on with the graph of an archive, and the places of its records, if its offsets file stores the same lengths
abbrev pub with_archive : Readings → (Input → Option (List ℕ)) → (Parameters → Accepted → Judged) → Judged
with_archive r held next =
    with_records held (λ p bytes. with_graph r p bytes (λ a.
    with_file input.Offsets (held input.Offsets) (λ more. with_offsets r p more (λ stored.
    with_lengths a.places stored (λ same. next p a)))))

-- weights of n pages, which may not add up to 0 if there are pages
abbrev pub unless_zero : ℕ → Result (List ℕ) NumbersFault → Result (List ℕ) WeightsFault
unless_zero n (Ok ws) = if nat_lt 0 n && nat_eq (sum_below n (by_page ws)) 0 then Err weights.Zero else Ok ws
unless_zero n (Err f) = Err (weights.Numbers f)

-- the weights of n pages that a text gives, or what is wrong with them
abbrev pub weights_in : ℕ → List ℕ → Result (List ℕ) WeightsFault
weights_in n bytes = unless_zero n (numbers_of n (MOST_WEIGHT + 1) bytes)

abbrev pub unless_bad_weights : Result (List ℕ) WeightsFault → (List ℕ → Judged) → Judged
unless_bad_weights (Ok ws) next = next ws
unless_bad_weights (Err f) next = refused (BadWeights f)

-- goes on with the weights of so many pages that a text gives
abbrev pub with_weights : ℕ → List ℕ → (List ℕ → Judged) → Judged
with_weights n bytes next = unless_bad_weights (weights_in n bytes) next

-- goes on with the weights of so many pages, if a file of them is named, and else without weights
abbrev pub weights_then : Option (List ℕ) → ℕ → Option (List ℕ) → (Option (List ℕ) → Judged) → Judged
weights_then None n held next = next None
weights_then (Some name) n held next =
    with_file input.Weights held (λ bytes. with_weights n bytes (λ ws. next (Some ws)))

abbrev pub unless_bad_claim : Result Claim CertFault → (Claim → Judged) → Judged
unless_bad_claim (Ok c) next = next c
unless_bad_claim (Err f) next = refused (BadCertificate f)

-- goes on with what a certificate's text claims of so many pages
abbrev pub with_claim : ℕ → List ℕ → (Claim → Judged) → Judged
with_claim n bytes next = unless_bad_claim (claim_of n bytes) next

-- goes on with what a certificate claims of so many pages
abbrev pub claim_then : ℕ → Option (List ℕ) → (Claim → Judged) → Judged
claim_then n held next = with_file input.Certificate held (λ bytes. with_claim n bytes next)

abbrev pub unless_bad_map : Result (List ℕ) NumbersFault → (List ℕ → Judged) → Judged
unless_bad_map (Ok classes) next = next classes
unless_bad_map (Err f) next = refused (BadMap f)

-- goes on with the classes of n pages that a text gives, each below the limit
abbrev pub with_map : ℕ → ℕ → List ℕ → (List ℕ → Judged) → Judged
with_map n limit bytes next = unless_bad_map (numbers_of n limit bytes) next

-- goes on with the classes of n pages that a file gives
abbrev pub map_then : ℕ → ℕ → Option (List ℕ) → (List ℕ → Judged) → Judged
map_then n limit held next = with_file input.Map held (λ bytes. with_map n limit bytes next)

-- goes on with the offsets that the offsets file stores
abbrev pub offsets_then : Readings → Parameters → Option (List ℕ) → (List ℕ → Judged) → Judged
offsets_then r p held next = with_file input.Offsets held (λ more. with_offsets r p more next)
