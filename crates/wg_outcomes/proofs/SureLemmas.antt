-- Pages to which their bounds leave one position alone.
use Rattle.std.proofs.Common.{◌≡◌, ℕ, zero, suc, ◌+◌, ◌-◌, ◌<◌, ◌≤◌, cond, nat_lt, List, ◌++◌, None, inl, inr, refl, subst, arith}
use Rattle.std.proofs.{lemmas.Bool.cases_lt, lemmas.Bool.eqb-true, lemmas.Bool.Decides.nat_tests}
use Rattle.wg_params.specs.declared.limits.TheConstants.{MOST_GENERATED}
use Rattle.wg_graph.specs.Digraph.{Digraph}
use Rattle.wg_vectors.specs.Generated.{generated}
use Rattle.wg_vectors.proofs.Whole.{generated_is_proper}
use Rattle.wg_rank.specs.Sum.{sum_below}
use Rattle.wg_rank.proofs.Weighing.{ones}
use Rattle.wg_order.specs.Order.{Positions, best, worst}
use Rattle.wg_order.specs.Surely.{AreOrdered, count_greater, count_smaller}
use Rattle.wg_words.specs.declared.defaults.TheConstants.{DEFAULT_DAMPING}
use Rattle.wg_outcomes.specs.Bulk.{HavePositions, PrintsProvenOutcome, bulk_bounds, bulk_positions, outcome_of, outcome_text}
use Rattle.wg_outcomes.specs.{Ranked.IsProvenRanking, Readings.Readings, declared.outcome.TheConstants.BULK_ROUNDS}
use Rattle.wg_outcomes.proofs.RankLemmas.{proven}

-- ---- of two numbers at most one is less than the other
abbrev counted : ℕ → ℕ → ℕ
counted a b = cond (nat_lt a b) 1 0

counted_once : (a b : ℕ) → counted a b + counted b a ≤ 1
counted_once a b = grind (arith, nat_tests)

-- ---- of the pages at most all have a greater or a smaller share than one, and it has neither
module _ (f : ℕ → ℕ) (v : ℕ) where
  abbrev greater : ℕ → ℕ
  greater u = counted (f v) (f u)

  abbrev smaller : ℕ → ℕ
  smaller u = counted (f u) (f v)

  all_counted : (n : ℕ) → sum_below n greater + sum_below n smaller ≤ n
  all_counted zero = omega arith
  all_counted (suc n) = omega (arith, all_counted n, counted_once (f v) (f n))

  pub others_counted : (n : ℕ) → v < n → sum_below n greater + sum_below n smaller + 1 ≤ n
  others_counted zero there = absurd (omega (arith, there))
  others_counted (suc n) there =
      elim (cases_lt v n) [
        | inl before ↦ omega (arith, others_counted n before, counted_once (f v) (f n))
        | inr here ↦
            let same : v ≡ n = omega (arith, there, here) in
            let none : counted (f v) (f v) ≡ 0 = grind (arith, nat_tests) in
            omega (arith, all_counted n, subst (λ (x : ℕ). counted (f v) (f x) ≡ 0) same none, subst (λ (x : ℕ). counted (f x) (f v) ≡ 0) same none)
      ]

-- ---- the position of a page
placed : (first last above below n : ℕ) → first ≤ 1 + above → n - below ≤ last → first ≡ last → above + below + 1 ≤ n → (above + 1 ≡ first) × (first + below ≡ n)
placed first last above below n best_is worst_is one apart = (omega (arith, best_is, worst_is, one, apart), omega (arith, best_is, worst_is, one, apart))

pub one_position : (s : Positions) (g : Digraph) (p : ℕ → ℕ) → AreOrdered s g p → HavePositions g s p
one_position s g p ordered v there sure =
    let at = placed (best s v) (worst s v) (count_greater g p v) (count_smaller g p v) g.nodes (ordered.best_is v there) (ordered.worst_is v there)
    (eqb-true (best s v) (worst s v) sure) (others_counted p v g.nodes there) in
    record { greater = at.0; smaller = at.1 }

-- ---- what `bulk` prints
generated_nodes : (seed n : ℕ) → (generated seed n).nodes ≡ n
unfolding generated
generated_nodes seed n = refl

pub proven_outcome : (r : Readings) (seed pages : ℕ) (old new : List ℕ) → pages ≤ MOST_GENERATED → new ≡ old ++ outcome_text (outcome_of r (generated seed pages)) → PrintsProvenOutcome r seed pages old new
proven_outcome r seed pages old new few put =
    let g = generated seed pages in
    let proper = generated_is_proper seed pages in
    let is_proven : IsProvenRanking r (bulk_bounds g) g = proven r BULK_ROUNDS DEFAULT_DAMPING (omega arith) (omega arith) g proper (omega (arith, few, generated_nodes seed pages)) None (ones g.nodes) in
    record {
      graph = g;
      graph_is = refl;
      proper = proper;
      printed = put;
      proven = is_proven;
      sure = λ j late. one_position (bulk_positions r g) g _ (is_proven.surely.iterates j late);
      settled = λ p d pos sum still. one_position (bulk_positions r g) g p (is_proven.surely.stationary p d pos sum still);
    }
