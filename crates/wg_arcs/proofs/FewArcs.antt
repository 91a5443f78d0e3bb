-- A text that stands for a graph has no more arcs than an archive may.
use Rattle.std.proofs.Common.{◌≡◌, ℕ, zero, suc, ◌+◌, ◌<◌, ◌≤◌, List, [], ◌∷◌, ◌++◌, length, take, get_or, None, ap, ◌∙◌, arith, inl, inr, length-append}
use Rattle.std.proofs.lemmas.List.{take_all, take_more}
use Rattle.std.proofs.lemmas.List.Elements.{filter_map-append}
use Rattle.wg_params.specs.declared.limits.TheConstants.{MOST_ARCS}
use Rattle.wg_graph.specs.Digraph.{Digraph, arc_count}
use Rattle.wg_graph.proofs.Arcs.{length-arcs_from}
use Rattle.wg_arcs.specs.Reading.{arc_at, arcs_in, fault_of, fault_at, AreArcs}
use Rattle.wg_arcs.proofs.Order.{Arc}
use Rattle.wg_arcs.proofs.SomeGraph.{fine_line}

-- a line without a fault leaves the arcs within their limit
one_line : (n : ℕ) (before : List Arc) (line : List ℕ) → length before ≤ MOST_ARCS → fault_of n before line ≡ None → length (before ++ arcs_in (line ∷ [])) ≤ MOST_ARCS
one_line n before line few fine =
    elim (fine_line n before line fine) [
      | inl none ↦ rw none (omega (arith, length-append before []))
      | inr w ↦ (let room = w.2.room in rw (w.1) (omega (arith, length-append before (w.0 ∷ []))))
    ]

few_in_front : (n : ℕ) (lines : List (List ℕ)) (k : ℕ) → k ≤ length lines → ((i : ℕ) → i < length lines → fault_at n lines i ≡ None) → length (arcs_in (take k lines)) ≤ MOST_ARCS
few_in_front n lines zero le sound = omega arith
few_in_front n lines (suc k) le sound =
    let line : List ℕ = get_or lines k [] in
    let before : List Arc = arcs_in (take k lines) in
    let one : length (before ++ arcs_in (line ∷ [])) ≤ MOST_ARCS = one_line n before line (few_in_front n lines k (omega arith) sound) (sound k (omega arith)) in
    let next : suc k ≡ k + 1 = omega arith in
    let parts : arcs_in (take (suc k) lines) ≡ before ++ arcs_in (line ∷ []) = ap (λ (i : ℕ). arcs_in (take i lines)) next ∙ ap arcs_in (take_more lines k [] (omega arith)) ∙ filter_map-append arc_at (take k lines) (line ∷ []) in
    omega (arith, ap length parts)

-- no line is faulty, so none came when there was no room
pub listed_few : (n : ℕ) (lines : List (List ℕ)) (g : Digraph) → AreArcs n lines g → arc_count g ≤ MOST_ARCS
listed_few n lines g are =
    let front = few_in_front n lines (length lines) (omega arith) are.sound in
    let all : arcs_in _ ≡ arcs_in lines = ap arcs_in (take_all (length lines) lines (omega arith)) in
    omega (arith, ap length all, ap length are.arcs, length-arcs_from)
