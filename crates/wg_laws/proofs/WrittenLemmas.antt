-- The certificate that a ranking writes is accepted.
use Rattle.std.proofs.Common.{◌≡◌, ◌∙◌, ◌<◌, ◌≤◌, ◌+◌, ◌*◌, ◌^◌, ℕ, List, [], ◌∷◌, ◌++◌, length, codes, decimal, Option, Some, None, Result, refl, sym, ap, subst, arith}
use Rattle.std.proofs.{lemmas.Fmt.length-decimal-le, lemmas.List.length-append}
use Rattle.wg_outside.specs.declared.limits.TheConstants.{MOST_BYTES}
use Rattle.wg_num.specs.Units.{text_of_units}
use Rattle.wg_num.proofs.UnitsRead.{text_length}
use Rattle.wg_params.specs.declared.limits.TheConstants.{MOST_DAMPING, MOST_PAGES, MOST_ROUNDS}
use Rattle.wg_params.specs.Parameters.{Parameters}
use Rattle.wg_graph.specs.Digraph.{Digraph}
use Rattle.wg_rank.specs.{Rank.gap, Sum.sum_below, Claims.Claim, Claims.IsClaim, Claims.Rises, Claims.claim_of_bounds}
use Rattle.wg_rank.specs.Intervals.{AreBounds, AreBoundsOf, Intervals, by_page}
use Rattle.wg_rank.specs.{Weights.weights_of, declared.fault.CertFault.CertFault, declared.limits.TheConstants.UNITS}
use Rattle.wg_rank.specs.CertificateText.{bound_line, bound_lines, claim_of, named_line, text_of_claim}
use Rattle.wg_rank.proofs.{Certificates.complete, WrittenBack.written_back, After.are_bounds, After.bounds_hold}
use Rattle.wg_words.specs.declared.jobs.Job.TheVariants.{Rank, Verify}
use Rattle.wg_outcomes.specs.Judged.{Judged, accepted, certified, claim_then, status_of, unless_bad_claim, weights_then, with_claim, with_digraph, with_records}
use Rattle.wg_outcomes.specs.{Readings.Readings, declared.status.Input.Input, Commands.judged, Commands.ranks}
use Rattle.wg_outcomes.specs.declared.status.Input.TheVariants as input
use Rattle.wg_laws.specs.Certificates.{AreStill}
use Rattle.wg_words.specs.{declared.jobs.RankJob.RankJob, declared.jobs.VerifyJob.VerifyJob}
use Rattle.wg_outcomes.specs.Ranked.{bounds_for, certificate_text}
use Rattle.wg_outcomes.specs.Verified.{first_fall, unless_falls, verified_line, with_gap}
use Rattle.wg_laws.proofs.{ClaimLemmas.right, HeldLemmas.graph_behind, WeightsLemmas.weights_behind}
use Rattle.wg_outcomes.proofs.{VerifyLemmas.none_falls, FileLemmas.file_goes}

-- ---- the text of a claim is no longer than a file may be
lines_length : (low : List ℕ) → length (bound_lines low) ≡ 27 * length low
lines_length [] = refl
lines_length (x ∷ low) =
    let all = length-append (bound_line x) (bound_lines low) in
    omega (arith, (text_length x), (length-append (text_of_units x) (codes "\n")), all, lines_length low)

short_line : (word : List ℕ) (number : ℕ) → number < 10 ^ 11 → length (named_line word number) ≤ length word + 12
short_line word number small =
    let digits = length-decimal-le 11 number (omega arith) small (omega (arith, small)) in
    omega (arith, digits, (length-append (word ++ decimal number) (codes "\n")), (length-append word (decimal number)))

three_parts : (a b c : List ℕ) → length (a ++ b ++ c) ≡ length a + length b + length c
three_parts a b c = length-append (a ++ b) c ∙ ap (λ (n : ℕ). n + length c) (length-append a b)

in_all : (all first second lines pages : ℕ) → all ≡ first + second + lines → first ≤ 20 → second ≤ 18 → lines ≡ 27 * pages → pages ≤ MOST_PAGES → all ≤ MOST_BYTES
in_all all first second lines pages is a b c few = omega (arith, is, a, b, c, few)

short_text : (c : Claim) → IsClaim c → length (text_of_claim c) ≤ MOST_BYTES
short_text c is =
    in_all _ _ _ _ (length c.low) (three_parts (named_line (codes "damping ") c.damping) (named_line (codes "pages ") (length c.low)) (bound_lines c.low))
    (short_line (codes "damping ") c.damping (omega (arith, is.damped))) (short_line (codes "pages ") (length c.low) (omega (arith, is.few))) (lines_length c.low) is.few

certified_text : (r : Readings) (job : RankJob) (b : Intervals) (text out : List ℕ) → ranks r job b ≡ certified text out → text ≡ certificate_text b
certified_text r job b text out h = grind arith

module _ (r : Readings) (held after : Input → Option (List ℕ)) (still : AreStill held after) where
  same_records : (next : Parameters → List ℕ → Judged) → with_records after next ≡ with_records held next
  same_records next = grind arith

  module _ (job : RankJob) (next : VerifyJob) (text out : List ℕ) (few : job.rounds ≤ MOST_ROUNDS) (damped : job.damping ≤ MOST_DAMPING) (alike : job.weights ≡ next.weights)
      (is : judged r (Rank job) held ≡ certified text out) (there : after input.Certificate ≡ Some text) where
    pub written_accepted : (line : List ℕ) × (judged r (Verify next) after ≡ accepted line)
    written_accepted =
        let then_ranks : Digraph → Option (List ℕ) → Judged = λ g given. ranks r job (bounds_for job g given) in
        let last : Digraph → Judged = λ g. weights_then job.weights g.nodes (held input.Weights) (then_ranks g) in
        let behind = graph_behind r held last (ap status_of is) in
        let g = behind.graph in
        let heavy = weights_behind job.weights held g.nodes (then_ranks g) (ap status_of (sym (behind.goes_on last) ∙ is)) in
        let given = heavy.given in
        let b : Intervals = bounds_for job g given in
        let claim : Claim = claim_of_bounds b in
        let same : text ≡ certificate_text b = certified_text r job b text out (sym (heavy.goes_on (then_ranks g)) ∙ sym (behind.goes_on last) ∙ is) in
        let bounds : AreBounds b = are_bounds g given job.rounds job.damping few damped behind.few_pages heavy.proper in
        let holds : AreBoundsOf b g = bounds_hold g given job.rounds job.damping in
        let rises = complete b g behind.proper bounds holds in
        let count : length b.low ≡ g.nodes = holds.low_is.counted in
        let proper : IsClaim claim =
        record { few = bounds.few; damped = bounds.damped; within = subst (λ (n : ℕ). sum_below n (by_page b.low) ≤ UNITS) (sym count) rises.1 } in
        let read : claim_of g.nodes text ≡ right claim =
        ap (λ (t : List ℕ). claim_of g.nodes t) same ∙ subst (λ (n : ℕ). claim_of n (text_of_claim claim) ≡ right claim) count (written_back claim proper) in
        let none : first_fall g claim given ≡ None =
        none_falls g claim given (subst (λ (n : ℕ). Rises g job.damping (by_page (weights_of n given)) (by_page b.low)) (sym count) rises.0) in
        let short : length text ≤ MOST_BYTES = subst (λ (t : List ℕ). length t ≤ MOST_BYTES) (sym same) (short_text claim proper) in
        let on_gap : Claim → ℕ → Judged = λ c left. accepted (verified_line c left) in
        let on_claim : Claim → Judged = λ c. with_gap g c given (on_gap c) in
        let on_given : Digraph → Option (List ℕ) → Judged = λ h ws. claim_then h.nodes (after input.Certificate) (λ c. with_gap h c ws (on_gap c)) in
        let on_graph : Digraph → Judged = λ h. weights_then job.weights h.nodes (after input.Weights) (on_given h) in (
          verified_line claim (gap g (by_page b.low)),
          ap (λ (o : Option (List ℕ)). with_records after (λ p bytes. with_digraph r p bytes (λ h. weights_then o h.nodes (after input.Weights) (on_given h)))) (sym alike)
              ∙ same_records (λ p bytes. with_digraph r p bytes on_graph)
              ∙ behind.goes_on on_graph
              ∙ ap (λ (o : Option (List ℕ)). weights_then job.weights g.nodes o (on_given g)) still.weights
              ∙ heavy.goes_on (on_given g)
              ∙ ap (λ (o : Option (List ℕ)). claim_then g.nodes o on_claim) there
              ∙ file_goes input.Certificate text short (λ bytes. with_claim g.nodes bytes on_claim)
              ∙ ap (λ (w : Result Claim CertFault). unless_bad_claim w on_claim) read
              ∙ ap (λ (o : Option ℕ). unless_falls o (gap g (by_page b.low)) (on_gap claim)) none,
        )
