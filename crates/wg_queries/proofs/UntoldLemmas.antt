-- What `rank` and `verify` promise of every depot.
use Rattle.std.proofs.Common.{◌≡◌, ◌≢◌, ◌⊎◌, ◌≤◌, ◌∙◌, inl, inr, ℕ, Bool, List, ◌++◌, length, Option, Some, None, Result, Err, sym, ap, arith}
use Rattle.std.specs.Result.{IfErr, IsErrAnd}
use Rattle.wg_outside.specs.{Outside.Counts, Outside.Files, Outside.NonDecreasing, Puts.Puts}
use Rattle.wg_outside.specs.declared.depot.Depot as depot
use Rattle.wg_outside.specs.declared.sink.Sink as sink
use Rattle.wg_outside.proofs.PutsLemmas.{is_that_err}
use Rattle.wg_params.specs.declared.limits.TheConstants.{MOST_DAMPING, MOST_PAGES, MOST_ROUNDS}
use Rattle.wg_graph.specs.Digraph.{Digraph, IsGraph}
use Rattle.wg_rank.specs.{Claims.Claim, Intervals.Intervals, Weights.AreWeights, Weights.weights_of}
use Rattle.wg_outcomes.specs.{Answers.IsUnput, Answers.status_in, Causes.IncreasedAt, Names.IsOfInput}
use Rattle.wg_outcomes.specs.{Promised.IsBadFile, Ranked.bounds_for, Ranked.text_for, Readings.Readings}
use Rattle.wg_words.specs.declared.jobs.RankJob.{RankJob}
use Rattle.wg_outcomes.specs.Untold.{PrintsSomeGap, PrintsSomeRanking, RanksAnywhere}
use Rattle.wg_outcomes.specs.{Verified.Leaves, Verified.verified_line, declared.ending.Ending.Ending}
use Rattle.wg_outcomes.specs.declared.status.Input.{Input}
use Rattle.wg_outcomes.specs.declared.status.Input.TheVariants.{Certificate, Graph, Weights}
use Rattle.wg_outcomes.specs.declared.status.Status.TheVariants.{Done, Memory}
use Rattle.wg_outcomes.proofs.{RankLemmas.proven, Statuses.never_done}
use Rattle.wg_readings.specs.Loading.{IsBadCertificate, IsBadWeights, LoadsParams}

-- ---- what ended early was not done
abbrev Undone : Ending → Type 0
Undone e = e.status ≢ Done

pub undone_reading : (i : Input) (e : Ending) → IsOfInput i e.status → Undone e
undone_reading i e only = never_done i 0 e (inl only)

pub undone_params : (base : List ℕ) (told : Bool) (files files' : Files) (counts counts' : List ℕ → Counts) (e : Ending) → LoadsParams base told files files' counts counts' (Err e) → Undone e
undone_params base told files files' counts counts' e h = grind (arith, undone_reading)

pub undone_graph : (n : ℕ) (e : Ending) → IsBadFile Graph n e → Undone e
undone_graph n e bad = never_done Graph n e (inr bad)

pub undone_weights : (n : ℕ) (e : Ending) → IsOfInput Weights e.status ⊎ IsBadWeights n e → Undone e
undone_weights n e h = grind arith

pub undone_claim : (e : Ending) → IsOfInput Certificate e.status ⊎ IsBadCertificate e → Undone e
undone_claim e h = grind arith

pub undone_room : (e : Ending) → e.status ≡ Memory → Undone e
undone_room e want is = let no : Memory ≡ Done = sym want ∙ is in cc

pub undone_gap : (e : Ending) → (e.status ≡ Memory) ⊎ IsBadCertificate e → Undone e
undone_gap e h = grind arith

-- the exit of a `?`
pub undone : (r : Result (Unit {0}) Ending) (e : Ending) → IsErrAnd r (λ x. x ≡ e) → Undone e → status_in r ≢ Done
undone r e is none done = none (ap status_in (sym (is_that_err r e is)) ∙ done)

-- ---- what was done has put out its text
pub all_put : (text old new : List ℕ) (r : Result (Unit {0}) Ending) → IfErr r (λ e. IsUnput e.status) → Puts text old new r → status_in r ≡ Done → new ≡ old ++ text
all_put text old new r h h2 h3 = grind arith

-- ---- `rank`
module _ {D O : Type 0} (d : depot.Ghosts D) (o : sink.Ghosts O) (job : RankJob) (before after : D) (out : O) where
  -- it ended before anything was written
  pub ranks_none : (r : Result (Unit {0}) Ending) (e : Ending) → IsErrAnd r (λ x. x ≡ e) → d.files after ≡ d.files before → Undone e
      → RanksAnywhere d o job before after out out (status_in r)
  ranks_none r e is same none = grind arith

-- the counts of before have not fallen when the certificate is begun
pub wants_since : {A : Type 0} (name : List ℕ) (certificate : Option (List ℕ)) → certificate ≡ Some name → (a b c : List ℕ → Counts) → NonDecreasing a b
    → A ⊎ IncreasedAt (λ k. k.wants) (Some name) b c → A ⊎ IncreasedAt (λ k. k.wants) certificate a c
wants_since name certificate h a b c h2 h3 = grind arith

-- a ranking by the bounds of a proper graph
pub some_ranking : (graph : Digraph) (job : RankJob) (given : Option (List ℕ)) → (job.weights ≡ None → given ≡ None) → (b : Intervals) (old new : List ℕ) (r : Readings) → job.rounds ≤ MOST_ROUNDS → job.damping ≤ MOST_DAMPING → IsGraph graph
    → graph.nodes ≤ MOST_PAGES → AreWeights graph.nodes (weights_of graph.nodes given) → b ≡ bounds_for job graph given → new ≡ old ++ text_for r job b
    → PrintsSomeRanking r job old new
some_ranking graph job given alike b old new r few damped proper small heavy is put = (
  graph,
  given,
  alike,
  record {
    proper = proper;
    weights = heavy;
    printed = put ∙ ap (λ (x : Intervals). old ++ text_for r job x) is;
    proven = proven r job.rounds job.damping few damped graph proper small given heavy;
  },
)

-- ---- `verify`
pub some_gap : (graph : Digraph) (weights given : Option (List ℕ)) → (weights ≡ None → given ≡ None) → (claim : Claim) (left : ℕ) (old new : List ℕ) → IsGraph graph → AreWeights graph.nodes (weights_of graph.nodes given) → length claim.low ≡ graph.nodes
    → Leaves graph claim given left → new ≡ old ++ verified_line claim left → PrintsSomeGap weights old new
some_gap graph weights given alike claim left old new proper heavy pages leaves put =
    (graph, given, alike, claim, record { proper = proper; weights = heavy; pages = pages; left = left; printed = put; leaves = leaves })
