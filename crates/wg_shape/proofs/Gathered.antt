-- All lists of a quotient.
use Rattle.std.proofs.Common.{◌≡◌, ◌∙◌, ℕ, ◌+◌, ◌-◌, ◌<◌, ◌≤◌, List, length, take, sym, ap, subst, arith, inl, inr, append-nil, ◌++◌, replicate, [], ◌∷◌}
use Rattle.std.proofs.lemmas.Bool.{cases_lt}
use Rattle.wg_params.specs.declared.limits.TheConstants.{MOST_ARCS}
use Rattle.wg_graph.specs.Digraph.{Digraph, successors, arc_count}
use Rattle.wg_graph.specs.Growing.{padded}
use Rattle.wg_transpose.specs.SoFar.{onward, start}
use Rattle.wg_transpose.proofs.InOrder.{all_lists, one_list_more}
use Rattle.wg_transpose.proofs.Totals.{start_le}
use Rattle.wg_transpose.proofs.Whole.{from_none}
use Rattle.wg_shape.specs.Quotient.{IsQuotient}
use Rattle.wg_shape.specs.Classes.{Classes, AreClasses, arcs_from, reached_by, whole}
use Rattle.wg_shape.proofs.Quotients.{is_proper, is_quotient}
use Rattle.wg_shape.proofs.Fewer.{fewer, few_by_class}

-- a range that could have all arcs and more has all classes
pub one_range : (p : Classes) → AreClasses p → (from to : ℕ) → from ≡ 0 → to ≤ p.count → (to < p.count → MOST_ARCS + 1 ≤ arcs_from p from to) → to ≡ p.count
one_range p ok from to first within full =
    elim (cases_lt to p.count) [
      | inl before ↦
          let many : MOST_ARCS + 1 ≤ start (onward 0 (reached_by p.graph p.classes)) (to - 0) = subst (λ (f : ℕ). MOST_ARCS + 1 ≤ arcs_from p f to) first (full before) in
          let some : start (onward 0 (reached_by p.graph p.classes)) (to - 0) ≡ start (reached_by p.graph p.classes) to = ap (λ (f : ℕ → List ℕ). start f (to - 0)) (from_none (reached_by p.graph p.classes)) ∙ ap (start (reached_by p.graph p.classes)) (omega arith) in
          absurd (omega (arith, many, some, start_le (reached_by p.graph p.classes) to p.count within, few_by_class p.graph ok.proper p.classes p.count ok.each ok.below, ok.few_arcs))
      | inr all ↦ omega arith
    ]

pub few_arcs : (p : Classes) → AreClasses p → arc_count (whole p) ≤ MOST_ARCS
few_arcs p ok = omega (arith, fewer p.graph ok.proper p.classes p.count ok.each ok.below, ok.few_arcs)

-- the next list is added
pub one_more : (p : Classes) (k : ℕ) → k < p.count → (b new : Digraph) (list : List ℕ) → b.lists ≡ take k (whole p).lists → new.lists ≡ b.lists ++ list ∷ [] → list ≡ successors (whole p) k
    → new.lists ≡ take (k + 1) (whole p).lists
one_more p k lt b new list so_far added is = added ∙ ap (λ (l : List (List ℕ)). l ++ list ∷ []) so_far ∙ one_list_more (whole p) (is_proper p.graph p.classes p.count) k lt list is

pub finished : (p : Classes) (b q : Digraph) (k : ℕ) → p.count ≤ k → b.nodes ≡ p.count → b.lists ≡ take k (whole p).lists → q.nodes ≡ b.nodes → q.lists ≡ padded b.nodes b.lists → q ≡ whole p
finished p b q k all nodes lists q_nodes q_lists =
    let ok = is_proper p.graph p.classes p.count in
    let is : b.lists ≡ (whole p).lists = lists ∙ all_lists (whole p) ok k all in
    let none : b.nodes - length b.lists ≡ 0 = omega (arith, ap length is, ok.counted, nodes) in
    let same : q.lists ≡ (whole p).lists = q_lists ∙ ap (λ (m : ℕ). b.lists ++ replicate m []) none ∙ append-nil b.lists ∙ is in
    let count : q.nodes ≡ p.count = q_nodes ∙ nodes in
    λ i. record { nodes = count i; lists = same i }

module _ (p : Classes) (ok : AreClasses p) (g : Digraph) (classes : List ℕ) (n : ℕ) (q : Digraph) (graph : p.graph ≡ g) (list : p.classes ≡ classes) (count : p.count ≡ n) (is : q ≡ whole p) where
  same : p ≡ record { graph = g; classes = classes; count = n }
  same = λ i. record { graph = graph i; classes = list i; count = count i }

  pub is_one : IsQuotient g classes n q
  is_one =
      subst (λ (r : Classes). IsQuotient r.graph r.classes r.count q) same
      (subst (IsQuotient p.graph p.classes p.count) (sym is) (is_quotient p.graph ok.proper p.classes p.count ok.each ok.below))

  pub has_fewer : arc_count q ≤ arc_count g
  has_fewer =
      subst (λ (d : Digraph). arc_count q ≤ arc_count d) graph
      (subst (λ (d : Digraph). arc_count d ≤ arc_count p.graph) (sym is) (fewer p.graph ok.proper p.classes p.count ok.each ok.below))
