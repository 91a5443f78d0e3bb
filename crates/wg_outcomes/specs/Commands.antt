-- What each job comes to, by what its inputs hold, and the texts that are printed.
use Rattle.wg_outcomes.specs.Judged.{Judged, Written, accepted, built, certified, claim_then, files_of, refused, map_then, text_then, weights_then, with_archive, with_arcs, with_digraph, with_pages, with_places, with_records, with_successors, offsets_then}
use Rattle.std.specs.Prelude.{ℕ, List, [], ◌++◌, length, map, get_or, nat_lt, if◌then◌else◌, codes, decimal, Option, Some, None}
use Rattle.wg_outside.specs.Puts.{joined}
use Rattle.wg_params.specs.Parameters.{Parameters}
use Rattle.wg_params.specs.declared.limits.TheConstants.{MOST_ARCS}
use Rattle.wg_graph.specs.Digraph.{Digraph, arc_count}
use Rattle.wg_grammar.specs.Laws.{accepted_graph}
use Rattle.wg_shape.specs.Graphs.{union_graph}
use Rattle.wg_rank.specs.Intervals.{Intervals}
use Rattle.wg_greedy.specs.Archive.{graph_bits}
use Rattle.wg_shape.specs.Quotient.{quotient_of}
use Rattle.wg_transpose.specs.Transposed.{transposed}
use Rattle.wg_arcs.specs.Text.{text_of_graph}
use Rattle.wg_ascii.specs.Text as plain
use Rattle.wg_offsets.specs.Places.{last_place}
use Rattle.wg_words.specs.declared.jobs.Job.{Job}
use Rattle.wg_words.specs.declared.jobs.Job.TheVariants.{Check, Arcs, Ascii, Offsets, Show, Spot, Rank, Verify, Write, Bulk}
use Rattle.wg_words.specs.declared.jobs.Origin.{Origin}
use Rattle.wg_words.specs.declared.jobs.Origin.TheVariants.{Build, Import, Quotient, Recode, Union, Transpose}
use Rattle.wg_words.specs.declared.jobs.RankJob.{RankJob}
use Rattle.wg_params.specs.declared.layout.Layout.{Layout}
use Rattle.wg_vectors.specs.Generated.{generated}
use Rattle.wg_outcomes.specs.Bulk.{outcome_of, outcome_text}
use Rattle.wg_outcomes.specs.JobFiles.{writes_files}
use Rattle.wg_outcomes.specs.Readings.{Readings}
use Rattle.wg_outcomes.specs.Second.{of_second, second_held}
use Rattle.wg_outcomes.specs.declared.status.Status.TheVariants.{TooManyArcs}
use Rattle.wg_outcomes.specs.Ranked.{bounds_for, certificate_text, text_for}
use Rattle.wg_outcomes.specs.Verified.{verified_line, with_gap}
use Rattle.wg_outcomes.specs.Written.{greedy_archive, params_for}
use Rattle.wg_outcomes.specs.declared.status.Input.{Input}
use Rattle.wg_outcomes.specs.declared.status.Input.TheVariants as input

-- the line of a page: its number, and then its successors
abbrev pub spaced : ℕ → List ℕ
spaced v = codes " " ++ decimal v

abbrev pub successors_line : ℕ → List ℕ → List ℕ
successors_line page list = decimal page ++ joined (map spaced list) ++ codes "\n"

-- the lines of some pages of a graph, in their order
abbrev pub line_in : List (List ℕ) → ℕ → List ℕ
line_in graph page = successors_line page (get_or graph page [])

abbrev pub successors_lines : List (List ℕ) → List ℕ → List ℕ
successors_lines graph pages = joined (map (line_in graph) pages)

-- the line of an accepted archive: its pages, its arcs, and the bits of its records
abbrev pub ok_line : Parameters → ℕ → List ℕ
ok_line p bits = codes "ok nodes=" ++ decimal p.nodes ++ codes " arcs=" ++ decimal p.arcs ++ codes " bits=" ++ decimal bits ++ codes "\n"

-- places as a text: a line for each
abbrev pub number_line : ℕ → List ℕ
number_line n = decimal n ++ codes "\n"

abbrev pub number_lines : List ℕ → List ℕ
number_lines places = joined (map number_line places)

-- the line of the greedy archive of a graph
abbrev pub greedy_line : Parameters → Digraph → List ℕ
greedy_line p g = ok_line p (length (graph_bits p g.lists))

-- the greedy archive of a graph is written in this layout, and then its line
abbrev pub builds : Layout → Digraph → Judged
builds l g = built (greedy_archive (params_for l g) g) (greedy_line (params_for l g) g)

-- goes on with the union of two graphs, if it has no more arcs than a graph may have
abbrev pub with_union : Digraph → Digraph → (Digraph → Judged) → Judged
with_union g h next = if nat_lt MOST_ARCS (arc_count (union_graph g h)) then refused TooManyArcs
    else next (union_graph g h)

-- the text is printed; before it, if a certificate is named, the certificate is written
abbrev pub with_certificate : Option (List ℕ) → List ℕ → List ℕ → Judged
with_certificate None certificate text = accepted text
with_certificate (Some name) certificate text = certified certificate text

-- the ranking by these bounds
abbrev pub ranks : Readings → RankJob → Intervals → Judged
ranks r job b = with_certificate job.certificate (certificate_text b) (text_for r job b)

-- goes on with the graph of an archive that is written
abbrev pub with_origin : Readings → Origin → (Input → Option (List ℕ)) → (Digraph → Judged) → Judged
with_origin r (Build arcs nodes) held next = with_arcs r nodes held next
with_origin r (Import text) held next = text_then r (held input.Text) next
with_origin r (Quotient base map classes) held next =
    with_records held (λ p bytes. with_digraph r p bytes (λ g.
    map_then g.nodes classes (held input.Map) (λ list. next (quotient_of g list classes))))
with_origin r (Recode base) held next = with_records held (λ p bytes. with_digraph r p bytes next)
with_origin r (Union first second) held next =
    with_archive r held (λ p a.
    of_second (with_archive r (second_held held) (λ q b.
    with_union (accepted_graph p a) (accepted_graph q b) next)))
with_origin r (Transpose base) held next =
    with_records held (λ p bytes. with_digraph r p bytes (λ g. next (transposed g)))

-- Each command: its inputs in their order, and its output.
abbrev pub judged : Readings → Job → (Input → Option (List ℕ)) → Judged
judged r (Check base) held =
    with_archive r held (λ p a. accepted (ok_line p (last_place a.places)))
judged r (Arcs base) held =
    with_records held (λ p bytes. with_digraph r p bytes (λ g. accepted (text_of_graph g)))
judged r (Ascii base) held =
    with_records held (λ p bytes. with_digraph r p bytes (λ g. accepted (plain.text_of_graph g)))
judged r (Offsets base) held =
    with_records held (λ p bytes. with_places r p bytes (λ places. accepted (number_lines places)))
judged r (Show base pages) held =
    with_archive r held (λ p a. with_pages p.nodes pages (λ all. accepted (successors_lines a.graph pages)))
judged r (Spot base page) held =
    with_records held (λ p bytes. offsets_then r p (held input.Offsets) (λ places.
    with_successors r p bytes places page (λ list. accepted (successors_line page list))))
judged r (Rank job) held =
    with_records held (λ p bytes. with_digraph r p bytes (λ g.
    weights_then job.weights g.nodes (held input.Weights) (λ given.
    ranks r job (bounds_for job g given))))
judged r (Verify job) held =
    with_records held (λ p bytes. with_digraph r p bytes (λ g.
    weights_then job.weights g.nodes (held input.Weights) (λ given.
    claim_then g.nodes (held input.Certificate) (λ c.
    with_gap g c given (λ left. accepted (verified_line c left))))))
judged r (Write job) held = with_origin r job.origin held (λ g. builds job.layout g)
judged r (Bulk seed pages) held =
    accepted (outcome_text (outcome_of r (generated seed pages)))

-- what a job writes, if it does
abbrev pub written_by : Readings → Job → (Input → Option (List ℕ)) → Option Written
written_by r job held = if writes_files job then files_of (judged r job held) else None
