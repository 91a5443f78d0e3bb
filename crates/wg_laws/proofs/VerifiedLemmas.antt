-- What `verify` has printed holds of the graph that the files stand for.
use Rattle.std.proofs.Common.{◌≡◌, ◌∙◌, ◌<◌, ℕ, List, ◌++◌, Option, None, Result, refl, sym, ap, subst, arith}
use Rattle.wg_graph.specs.Digraph.{Digraph}
use Rattle.wg_rank.specs.{Rank.gap, Sum.sum_below, Intervals.by_page, Claims.Claim, Claims.weights_for}
use Rattle.wg_rank.specs.{Weights.weights_of, CertificateText.claim_of, declared.fault.CertFault.CertFault}
use Rattle.wg_rank.proofs.Certificates.{enclosing}
use Rattle.wg_words.specs.{declared.jobs.Job.TheVariants.Verify, declared.jobs.VerifyJob.VerifyJob}
use Rattle.wg_outcomes.specs.Judged.{Judged, accepted, claim_then, output_of, status_of, unless_bad_claim, weights_then, with_claim}
use Rattle.wg_outcomes.specs.{Readings.Readings, declared.status.Input.Input, declared.status.Status.TheVariants.Done}
use Rattle.wg_outcomes.specs.declared.status.Input.TheVariants as input
use Rattle.wg_outcomes.specs.Commands.{judged}
use Rattle.wg_outcomes.specs.Verified.{PrintsProvenGap, first_fall, unless_falls, verified_line, with_gap}
use Rattle.wg_laws.proofs.{ClaimLemmas.claim_within, ClaimLemmas.right, HeldLemmas.file_read, HeldLemmas.graph_behind}
use Rattle.wg_outcomes.proofs.VerifyLemmas.{rises_all}
use Rattle.wg_laws.proofs.WeightsLemmas.{weights_behind}

claim_read : (w : Result Claim CertFault) (next : Claim → Judged) → status_of (unless_bad_claim w next) ≡ Done → (c : Claim) × (w ≡ right c) × ((n : Claim → Judged) → unless_bad_claim w n ≡ n c)
claim_read w next h = grind arith

gap_read : (o : Option ℕ) (left : ℕ) (next : ℕ → Judged) → status_of (unless_falls o left next) ≡ Done → (o ≡ None) × (unless_falls o left next ≡ next left)
gap_read o left next h = grind arith

pub proven_gap : (r : Readings) (held : Input → Option (List ℕ)) (job : VerifyJob) (old new : List ℕ)
    → Done ≡ status_of (judged r (Verify job) held) → new ≡ old ++ output_of (judged r (Verify job) held)
    → PrintsProvenGap r held job.weights old new
proven_gap r held job old new done put =
    let on_gap : Claim → ℕ → Judged = λ c left. accepted (verified_line c left) in
    let on_claim : Digraph → Option (List ℕ) → Claim → Judged = λ g given c. with_gap g c given (on_gap c) in
    let on_weights : Digraph → Option (List ℕ) → Judged = λ g given. claim_then g.nodes (held input.Certificate) (on_claim g given) in
    let on_graph : Digraph → Judged = λ g. weights_then job.weights g.nodes (held input.Weights) (on_weights g) in
    let behind = graph_behind r held on_graph (sym done) in
    let g = behind.graph in
    let to_graph = behind.goes_on on_graph in
    let heavy = weights_behind job.weights held g.nodes (on_weights g) (ap status_of (sym to_graph) ∙ sym done) in
    let to_weights = to_graph ∙ heavy.goes_on (on_weights g) in
    let given = heavy.given in
    let file = file_read input.Certificate (held input.Certificate) (λ b. with_claim g.nodes b (on_claim g given)) (ap status_of (sym to_weights) ∙ sym done) in
    let to_file = to_weights ∙ file.2 (λ b. with_claim g.nodes b (on_claim g given)) in
    let found = claim_read (claim_of g.nodes file.0) (on_claim g given) (ap status_of (sym to_file) ∙ sym done) in
    let to_claim = to_file ∙ found.2 (on_claim g given) in
    let c = found.0 in
    let last = gap_read (first_fall g c given) (gap g (by_page c.low)) (on_gap c) (ap status_of (sym to_claim) ∙ sym done) in
    let within = claim_within g.nodes file.0 c found.1 in
    let some : 0 < g.nodes → 0 < sum_below g.nodes (by_page (weights_for c given)) =
    subst (λ (n : ℕ). 0 < g.nodes → 0 < sum_below g.nodes (by_page (weights_of n given))) (sym within.1) heavy.proper.some in
    record {
      graph = g;
      given = given;
      text = file.0;
      claim = c;
      stored = behind.stored;
      weighed = heavy.stored;
      text_is = file.1;
      claim_is = found.1;
      verified = record {
        proper = behind.proper;
        weights = heavy.proper;
        pages = within.1;
        left = gap g (by_page c.low);
        printed = put ∙ ap (λ (j : Judged). old ++ output_of j) (to_claim ∙ last.1);
        leaves = (refl, enclosing g c.damping (by_page (weights_for c given)) (by_page c.low) behind.proper within.0 some (rises_all g c given last.0));
      };
    }

pub accepted_proven : (r : Readings) (held : Input → Option (List ℕ)) (job : VerifyJob) (out old : List ℕ)
    → judged r (Verify job) held ≡ accepted out → PrintsProvenGap r held job.weights old (old ++ out)
accepted_proven r held job out old is =
    proven_gap r held job old (old ++ out) (sym (ap status_of is)) (ap (λ (j : Judged). old ++ output_of j) (sym is))
