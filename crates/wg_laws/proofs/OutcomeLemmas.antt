-- Readings that agree lead each job to the same.
use Rattle.std.proofs.Common.{◌≡◌, ℕ, List, length, true, Option, Some, None, refl, ap, arith}
use Rattle.std.specs.Prelude.{slice_get}
use Rattle.wg_params.specs.Parameters.{Parameters, IsWithinLimits}
use Rattle.wg_graph.specs.Digraph.{Digraph, arc_count}
use Rattle.wg_grammar.specs.Archive.{Accepted}
use Rattle.wg_arcs.specs.Text.{text_of_graph}
use Rattle.wg_ascii.specs.Text as plain
use Rattle.wg_shape.specs.Quotient.{quotient_of}
use Rattle.wg_transpose.specs.Transposed.{transposed}
use Rattle.wg_greedy.specs.Archive.{graph_bits, referring_pages}
use Rattle.wg_offsets.specs.Places.{pages_that_differ}
use Rattle.wg_order.specs.{Order.Positions, Summary.sure_pages}
use Rattle.wg_rank.specs.Intervals.{Intervals}
use Rattle.wg_vectors.specs.Generated.{generated}
use Rattle.wg_words.specs.{declared.jobs.Job.Job, declared.jobs.Origin.Origin, declared.jobs.RankJob.RankJob}
use Rattle.wg_words.specs.declared.jobs.Job.TheVariants.{Check, Arcs, Ascii, Offsets, Show, Spot, Rank, Verify, Write, Bulk}
use Rattle.wg_words.specs.declared.jobs.Origin.TheVariants.{Build, Import, Quotient, Recode, Union, Transpose}
use Rattle.wg_outcomes.specs.{Bulk.bulk_bounds, Bulk.bulk_params, Bulk.outcome_of, Bulk.outcome_text, Ranked.bounds_for}
use Rattle.wg_outcomes.specs.Commands.{builds, judged, ranks, with_origin}
use Rattle.wg_outcomes.specs.Judged.{Judged, accepted, claim_then, map_then, offsets_then, unless_bad_list, unless_some_differ, weights_then, with_archive, with_digraph, with_file, with_graph, with_records, with_successors}
use Rattle.wg_outcomes.specs.{Readings.Readings, Readings.ReadingsAgree, Second.of_second, Second.second_held}
use Rattle.wg_outcomes.specs.{Verified.verified_line, Verified.with_gap, declared.outcome.Outcome.Outcome}
use Rattle.wg_outcomes.specs.declared.status.Input.{Input}
use Rattle.wg_outcomes.specs.declared.status.Input.TheVariants as input
use Rattle.wg_laws.proofs.HeldLemmas.{read_within}

-- ---- what goes on alike is alike

file_same : (i : Input) (o : Option (List ℕ)) (f g : List ℕ → Judged) → ((bytes : List ℕ) → f bytes ≡ g bytes) → with_file i o f ≡ with_file i o g
file_same i o f g h = grind arith

records_same : (held : Input → Option (List ℕ)) (f g : Parameters → List ℕ → Judged) → ((p : Parameters) → IsWithinLimits p → (bytes : List ℕ) → f p bytes ≡ g p bytes) → with_records held f ≡ with_records held g
records_same held f g same = grind (arith, read_within, file_same)

lengths_same : (differing found stored : List ℕ) (f g : Unit {0} → Judged) → ((same : Unit {0}) → f same ≡ g same) → unless_some_differ differing found stored f ≡ unless_some_differ differing found stored g
lengths_same differing found stored f g h = grind arith

given_same : (name : Option (List ℕ)) (n : ℕ) (held : Option (List ℕ)) (f g : Option (List ℕ) → Judged) → ((given : Option (List ℕ)) → f given ≡ g given) → weights_then name n held f ≡ weights_then name n held g
given_same None n held f g same = same None
given_same (Some name) n held f g same = grind (arith, file_same)

-- ---- what two readings that agree give is alike

read_same : (r q : Readings) → ReadingsAgree r q → (p : Parameters) → IsWithinLimits p → (bytes : List ℕ) (f g : Accepted → Judged) → ((a : Accepted) → f a ≡ g a) → with_graph r p bytes f ≡ with_graph q p bytes g
read_same r q agree p within bytes f g same = grind arith

digraph_same : (r q : Readings) → ReadingsAgree r q → (held : Input → Option (List ℕ)) (f g : Digraph → Judged) → ((graph : Digraph) → f graph ≡ g graph) → with_records held (λ p bytes. with_digraph r p bytes f) ≡ with_records held (λ p bytes. with_digraph q p bytes g)
digraph_same r q agree held f g same = grind (arith, records_same, read_same)

done_same : (r q : Readings) → ReadingsAgree r q → (held : Input → Option (List ℕ)) (next : Digraph → Judged) → with_records held (λ p bytes. with_digraph r p bytes next) ≡ with_records held (λ p bytes. with_digraph q p bytes next)
done_same r q agree held next = digraph_same r q agree held next next (λ graph. refl)

stored_same : (r q : Readings) → ReadingsAgree r q → (p : Parameters) → IsWithinLimits p → (held : Option (List ℕ)) (f g : List ℕ → Judged) → ((places : List ℕ) → f places ≡ g places) → offsets_then r p held f ≡ offsets_then q p held g
stored_same r q agree p within held f g same = grind (arith, file_same)

archive_same : (r q : Readings) → ReadingsAgree r q → (held : Input → Option (List ℕ)) (f g : Parameters → Accepted → Judged) → ((p : Parameters) (a : Accepted) → f p a ≡ g p a) → with_archive r held f ≡ with_archive q held g
archive_same r q agree held f g same =
    records_same held _ _ (λ p within bytes.
    read_same r q agree p within bytes _ _ (λ a.
    stored_same r q agree p within (held input.Offsets) _ _ (λ stored.
    lengths_same (pages_that_differ a.places stored) a.places stored _ _ (λ there. same p a))))

successors_same : (r q : Readings) → ReadingsAgree r q → (p : Parameters) → IsWithinLimits p → (bytes places : List ℕ) (page : ℕ) (next : List ℕ → Judged) → with_successors r p bytes places page next ≡ with_successors q p bytes places page next
successors_same r q agree p within bytes places page next = grind arith

abbrev positions_as : Intervals → List ℕ → Positions
positions_as b pages = record { filled = true; low = b.low; high = b.high; pages = pages }

ranks_same : (r q : Readings) → ReadingsAgree r q → (job : RankJob) (b : Intervals) → ranks r job b ≡ ranks q job b
ranks_same r q h job b = grind arith

abbrev outcome_as : Digraph → List ℕ → Outcome
outcome_as g pages = record {
  pages = g.nodes;
  arcs = arc_count g;
  bits = length (graph_bits (bulk_params g) g.lists);
  referring = referring_pages (bulk_params g) g.lists;
  first = slice_get pages 0;
  sure = sure_pages (positions_as (bulk_bounds g) pages);
}

bulk_same : (r q : Readings) → ReadingsAgree r q → (g : Digraph) → accepted (outcome_text (outcome_of r g)) ≡ accepted (outcome_text (outcome_of q g))
bulk_same r q agree g =
    ap (λ pages. accepted (outcome_text (outcome_as g pages))) (agree.ranking (bulk_bounds g).low (bulk_bounds g).high)

-- ---- what an archive is made of that is written
origin_same : (r q : Readings) → ReadingsAgree r q → (origin : Origin) (held : Input → Option (List ℕ)) (next : Digraph → Judged) → with_origin r origin held next ≡ with_origin q origin held next
origin_same r q agree (Build arcs nodes) held next =
    file_same input.ArcList (held input.ArcList) _ _ (λ bytes.
    ap (λ w. unless_bad_list w next) (agree.arc_list nodes bytes))
origin_same r q agree (Import text) held next = grind arith
origin_same r q agree (Quotient base map classes) held next =
    done_same r q agree held (λ g. map_then g.nodes classes (held input.Map) (λ list. next (quotient_of g list classes)))
origin_same r q agree (Recode base) held next = done_same r q agree held next
origin_same r q agree (Union first second) held next =
    archive_same r q agree held _ _ (λ p a.
    ap of_second (archive_same r q agree (second_held held) _ _ (λ s b. refl)))
origin_same r q agree (Transpose base) held next = done_same r q agree held (λ g. next (transposed g))

-- ---- each job

pub outcome_same : (r q : Readings) → ReadingsAgree r q → (job : Job) (held : Input → Option (List ℕ)) → judged r job held ≡ judged q job held
outcome_same r q agree (Check base) held = archive_same r q agree held _ _ (λ p a. refl)
outcome_same r q agree (Arcs base) held = done_same r q agree held (λ g. accepted (text_of_graph g))
outcome_same r q agree (Ascii base) held = done_same r q agree held (λ g. accepted (plain.text_of_graph g))
outcome_same r q agree (Offsets base) held =
    records_same held _ _ (λ p within bytes. read_same r q agree p within bytes _ _ (λ a. refl))
outcome_same r q agree (Show base pages) held = archive_same r q agree held _ _ (λ p a. refl)
outcome_same r q agree (Spot base page) held =
    records_same held _ _ (λ p within bytes.
    stored_same r q agree p within (held input.Offsets) _ _ (λ places.
    successors_same r q agree p within bytes places page _))
outcome_same r q agree (Rank job) held =
    digraph_same r q agree held _ _ (λ g.
    given_same job.weights g.nodes (held input.Weights) _ _ (λ given.
    ranks_same r q agree job (bounds_for job g given)))
outcome_same r q agree (Verify job) held =
    done_same r q agree held (λ g.
    weights_then job.weights g.nodes (held input.Weights) (λ given.
    claim_then g.nodes (held input.Certificate) (λ c.
    with_gap g c given (λ left. accepted (verified_line c left)))))
outcome_same r q agree (Write job) held = origin_same r q agree job.origin held (λ g. builds job.layout g)
outcome_same r q agree (Bulk seed pages) held = bulk_same r q agree (generated seed pages)
