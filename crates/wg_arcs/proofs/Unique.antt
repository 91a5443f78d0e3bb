-- A text stands for one graph or has one first fault.
use Rattle.std.proofs.Common.{◌≡◌, ℕ, zero, suc, ◌+◌, ◌<◌, eqb, List, [], ◌∷◌, ◌++◌, map, filter, length, get_or, Result, refl, sym, ap, ◌∙◌, arith, append-nil}
use Rattle.std.proofs.lemmas.Bool.{eq-eqb, ne_eqb}
use Rattle.std.proofs.lemmas.Option.{none-some}
use Rattle.std.proofs.lemmas.List.{ext_get_or, map-append}
use Rattle.std.proofs.lemmas.List.Elements.{filter-append}
use Rattle.wg_lines.proofs.FirstFault.{first_is_one}
use Rattle.wg_graph.specs.Digraph.{Digraph}
use Rattle.wg_graph.specs.Arcs.{arcs_from}
use Rattle.wg_arcs.specs.declared.fault.ArcsKind.{ArcsKind}
use Rattle.wg_arcs.specs.Reading.{AreArcs, IsFirstFault, IsListed}
use Rattle.wg_arcs.specs.Laws.{TextsAreOne}
use Rattle.wg_arcs.proofs.Order.{Arc}

-- the second numbers of the arcs from u
abbrev targets : ℕ → List Arc → List ℕ
targets u arcs = map (λ (a : Arc). a.1) (filter (λ (a : Arc). eqb a.0 u) arcs)

targets-append : (u : ℕ) (xs ys : List Arc) → targets u (xs ++ ys) ≡ targets u xs ++ targets u ys
targets-append u xs ys = ap (map (λ (a : Arc). a.1)) (filter-append _ xs ys) ∙ map-append (λ (a : Arc). a.1) _ _

targets_own : (u : ℕ) (vs : List ℕ) → targets u (map (λ v. (u, v)) vs) ≡ vs
targets_own u [] = refl
targets_own u (v ∷ vs) = rw (eq-eqb u u refl) (ap (λ (l : List ℕ). v ∷ l) (targets_own u vs))

targets_other : (u x : ℕ) (vs : List ℕ) → (x ≡ u → ⊥) → targets u (map (λ v. (x, v)) vs) ≡ []
targets_other u x [] ne = refl
targets_other u x (v ∷ vs) ne = rw (ne_eqb x u ne) (targets_other u x vs ne)

targets_past : (u x : ℕ) (lists : List (List ℕ)) → u < x → targets u (arcs_from x lists) ≡ []
targets_past u x [] lt = refl
targets_past u x (list ∷ lists) lt =
    targets-append u _ (arcs_from (x + 1) lists) ∙ ap (λ (l : List ℕ). l ++ targets u (arcs_from (x + 1) lists)) (targets_other u x list (λ e. omega arith)) ∙ targets_past u (x + 1) lists (omega arith)

-- the list of a page, from the arcs
targets_at : (x i : ℕ) (lists : List (List ℕ)) → i < length lists → targets (x + i) (arcs_from x lists) ≡ get_or lists i []
targets_at x i [] lt = absurd (omega arith)
targets_at x zero (list ∷ lists) lt =
    let at : x + 0 ≡ x = omega arith in
    ap (λ (u : ℕ). targets u (arcs_from x (list ∷ lists))) at ∙ targets-append x (map (λ v. (x, v)) list) (arcs_from (x + 1) lists)
    ∙ ap (λ (l : List ℕ). targets x (map (λ v. (x, v)) list) ++ l) (targets_past x (x + 1) lists (omega arith)) ∙ append-nil _ ∙ targets_own x list
targets_at x (suc i) (list ∷ lists) lt =
    let at : x + suc i ≡ x + 1 + i = omega arith in
    targets-append (x + suc i) (map (λ v. (x, v)) list) (arcs_from (x + 1) lists) ∙ ap (λ (l : List ℕ). l ++ targets (x + suc i) (arcs_from (x + 1) lists)) (targets_other (x + suc i) x list (λ e. omega arith))
    ∙ ap (λ (u : ℕ). targets u (arcs_from (x + 1) lists)) at ∙ targets_at (x + 1) i lists (omega arith)

list_is : (lists : List (List ℕ)) (i : ℕ) → i < length lists → targets i (arcs_from 0 lists) ≡ get_or lists i []
list_is lists i lt = let at : 0 + i ≡ i = omega arith in ap (λ (u : ℕ). targets u (arcs_from 0 lists)) (sym at) ∙ targets_at 0 i lists lt

same_graph : (n : ℕ) (lines : List (List ℕ)) (g h : Digraph) → AreArcs n lines g → AreArcs n lines h → g ≡ h
same_graph n lines g h a b =
    let s = a.nodes in
    let t = b.nodes in
    let size : length g.lists ≡ length h.lists = omega arith in
    let lists : g.lists ≡ h.lists = ext_get_or [] g.lists h.lists size (λ i lt. sym (list_is g.lists i lt) ∙ ap (targets i) (a.arcs ∙ sym b.arcs) ∙ list_is h.lists i (omega arith)) in
    λ i. record { nodes = (s ∙ sym t) i; lists = lists i }

not_both : (n : ℕ) (lines : List (List ℕ)) (g : Digraph) (line : ℕ) (kind : ArcsKind) → AreArcs n lines g → IsFirstFault n lines line kind → ⊥
not_both n lines g line kind a f = none-some kind (sym (a.sound f.index f.there) ∙ f.fault)

same_fault : (n : ℕ) (lines : List (List ℕ)) (line line1 : ℕ) (kind kind1 : ArcsKind) → IsFirstFault n lines line kind → IsFirstFault n lines line1 kind1 → (line ≡ line1) × (kind ≡ kind1)
same_fault n lines line line1 kind kind1 f g =
    let same = first_is_one _ f.index g.index kind kind1 f.fault g.fault f.sound g.sound in
    (omega arith, same.1)

pub texts_are_one : TextsAreOne
texts_are_one = record { graph = same_graph; never_both = not_both; fault = same_fault }

-- a text has one answer
pub listed_one : (n : ℕ) (bytes : List ℕ) (w x : Result Digraph (ℕ × ArcsKind)) → IsListed n bytes w → IsListed n bytes x → w ≡ x
listed_one n bytes w x h h2 = grind (arith, same_graph, same_fault)
