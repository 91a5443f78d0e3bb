-- The text of arcs, one after the other.
use Rattle.std.proofs.Common.{◌≡◌, ℕ, ◌+◌, ◌<◌, List, [], ◌∷◌, ◌++◌, map, length, take, get_or, codes, decimal, refl, sym, ap, subst, ◌∙◌, append_assoc, Result, Err, arith}
use Rattle.std.specs.Result.{IsErrAnd}
use Rattle.wg_outside.specs.Puts.{Puts}
use Rattle.wg_outside.proofs.PutsLemmas.{puts_more, puts_front}
use Rattle.wg_graph.specs.Digraph.{Digraph, successors}
use Rattle.wg_graph.specs.Arcs.{arcs_from, arcs_of}
use Rattle.wg_graph.proofs.Arcs.{arcs_from_more, arcs_from_split}
use Rattle.wg_arcs.specs.Text.{arc_line, text_of_arcs, page_lines, lines_from, text_of_graph}

pub text_of_arcs-append : (xs ys : List (ℕ × ℕ)) → text_of_arcs (xs ++ ys) ≡ text_of_arcs xs ++ text_of_arcs ys
text_of_arcs-append [] ys = refl
text_of_arcs-append (x ∷ xs) ys =
    ap (λ (l : List ℕ). arc_line x ++ l) (text_of_arcs-append xs ys) ∙ sym (append_assoc (arc_line x) (text_of_arcs xs) (text_of_arcs ys))

-- ---- the lines of a page

-- a line whose beginning was written before
pub line_after : (start : List ℕ) (u v : ℕ) → start ≡ decimal u ++ codes " " → start ++ decimal v ++ codes "\n" ≡ arc_line (u, v)
line_after start u v is = ap (λ (l : List ℕ). l ++ decimal v ++ codes "\n") is

-- ---- the pages of a graph

-- they are the lines of its arcs
page_is_of_arcs : (u : ℕ) (vs : List ℕ) → page_lines u vs ≡ text_of_arcs (map (λ v. (u, v)) vs)
page_is_of_arcs u [] = refl
page_is_of_arcs u (v ∷ vs) = ap (λ (l : List ℕ). arc_line (u, v) ++ l) (page_is_of_arcs u vs)

pub lines_are_of_arcs : (u : ℕ) (lists : List (List ℕ)) → lines_from u lists ≡ text_of_arcs (arcs_from u lists)
lines_are_of_arcs u [] = refl
lines_are_of_arcs u (list ∷ lists) =
    ap (λ (l : List ℕ). l ++ lines_from (u + 1) lists) (page_is_of_arcs u list) ∙ ap (λ (l : List ℕ). text_of_arcs (map (λ v. (u, v)) list) ++ l) (lines_are_of_arcs (u + 1) lists)
    ∙ sym (text_of_arcs-append (map (λ v. (u, v)) list) _)

pub text_is_of_arcs : (g : Digraph) → text_of_graph g ≡ text_of_arcs (arcs_of g)
text_is_of_arcs g = lines_are_of_arcs 0 g.lists

-- one page more
pub lines_from_more : (lists : List (List ℕ)) (i : ℕ) → i < length lists → lines_from 0 (take (i + 1) lists) ≡ lines_from 0 (take i lists) ++ page_lines i (get_or lists i [])
lines_from_more lists i lt = grind (arith, arcs_from_more, text_of_arcs-append, page_is_of_arcs, lines_are_of_arcs)

-- the pages up to one, and the rest
pub lines_from_split : (lists : List (List ℕ)) (i : ℕ) → (rest : List ℕ) × (lines_from 0 lists ≡ lines_from 0 (take i lists) ++ rest)
lines_from_split lists i =
    let s = arcs_from_split lists i in (
      text_of_arcs s.0,
      lines_are_of_arcs 0 lists ∙ ap text_of_arcs s.1 ∙ text_of_arcs-append _ s.0
          ∙ ap (λ (l : List ℕ). l ++ text_of_arcs s.0) (sym (lines_are_of_arcs 0 (take i lists))),
    )

-- the lines of the first pages
abbrev pub first_lines : Digraph → ℕ → List ℕ
first_lines g i = lines_from 0 (take i g.lists)

-- the lines of one page more are out
pub page_out : (a b c : List ℕ) (g : Digraph) (i : ℕ) → i < length g.lists → b ≡ a ++ first_lines g i → c ≡ b ++ page_lines i (successors g i) → c ≡ a ++ first_lines g (i + 1)
page_out a b c g i lt first more =
    more ∙ ap (λ (l : List ℕ). l ++ page_lines i (successors g i)) first ∙ append_assoc a _ _
    ∙ ap (λ (l : List ℕ). a ++ l) (sym (lines_from_more g.lists i lt))

-- the lines of a page are cut off
pub page_cut_off : {E : Type 0} (a b c : List ℕ) (g : Digraph) (i : ℕ) (r : Result (Unit {0}) E) (e : E) → i < length g.lists → b ≡ a ++ first_lines g i → IsErrAnd r (λ x. x ≡ e) → Puts {E = E} (page_lines i (successors g i)) b c (Err e) →
    Puts (text_of_graph g) a c r
page_cut_off a b c g i r e lt first is put =
    let page : List ℕ = page_lines i (successors g i) in
    let rest = lines_from_split g.lists (i + 1) in
    let all : text_of_graph g ≡ first_lines g i ++ (page ++ rest.0) =
    rest.1 ∙ ap (λ (l : List ℕ). l ++ rest.0) (lines_from_more g.lists i lt) ∙ append_assoc (first_lines g i) page rest.0 in
    subst (λ (l : List ℕ). Puts l a c r) (sym all) (puts_more (first_lines g i) (page ++ rest.0) a b c r first (puts_front page rest.0 b c r e is put))
