-- The text of a graph is read back.
use Rattle.std.proofs.Common.{◌≡◌, ℕ, ◌^◌, ◌<◌, ◌≤◌, false, eqb, List, [], ◌∷◌, ◌++◌, map, length, take, get_or, decimal, Option, Some, None, zero, suc, refl, sym, ap, subst, ◌∙◌, arith, append_assoc}
use Rattle.std.specs.List.{All, last_or, slice_split}
use Rattle.std.proofs.lemmas.Bool.{ne_eqb}
use Rattle.std.proofs.lemmas.Fmt.{decimal_nonempty}
use Rattle.std.proofs.lemmas.List.{take-map, get_or-map, length-map, length-take-le}
use Rattle.std.proofs.lemmas.List.Elements.{All-append, All-cons, All-weaker}
use Rattle.std.proofs.lemmas.List.Splits.{slice_split_at, slice_split_none}
use Rattle.wg_params.specs.declared.limits.TheConstants.{MOST_ARCS}
use Rattle.wg_num.specs.Lines.{lines_of, is_blank}
use Rattle.wg_num.specs.Words.{words_of}
use Rattle.wg_num.proofs.Cuts.{no_lines}
use Rattle.wg_num.proofs.Plain.{line_read, digits_high, decimal_plain}
use Rattle.wg_num.proofs.Numbers.{number_of-decimal}
use Rattle.wg_graph.specs.Digraph.{arc_count}
use Rattle.wg_graph.specs.Arcs.{arcs_of}
use Rattle.wg_graph.proofs.Arcs.{length-arcs_from}
use Rattle.wg_arcs.specs.Text.{arc_line, text_of_arcs, text_of_graph}
use Rattle.wg_arcs.specs.Reading.{is_skipped, arc_in, arc_at, arcs_in, refusal_after, fault_after, fault_of, fault_at, AreArcs}
use Rattle.wg_arcs.proofs.Texts.{text_is_of_arcs}
use Rattle.wg_arcs.proofs.Order.{Arc, not_refused}
use Rattle.wg_arcs.proofs.Climbing.{Within, within_from, within_at, Climbs, climbs_from, climbs_at}
use Rattle.wg_arcs.specs.Laws.{TextsReadBack}

-- ---- one line

-- the line without its end
abbrev pub bare : Arc → List ℕ
bare a = decimal a.0 ++ 32 ∷ decimal a.1

pub with_end : (a : Arc) (rest : List ℕ) → arc_line a ++ rest ≡ bare a ++ 10 ∷ rest
with_end a rest =
    ap (λ (l : List ℕ). l ++ 10 ∷ [] ++ rest) (append_assoc (decimal a.0) _ _) ∙ append_assoc (bare a) _ rest

bare_high : (a : Arc) → a.0 < 2 ^ 64 → a.1 < 2 ^ 64 → All (λ b. 32 ≤ b) (bare a)
bare_high a s t =
    All-append (λ b. 32 ≤ b) _ _ (decimal_plain a.0 s)
    (All-cons (λ b. 32 ≤ b) 32 _ (omega arith) (decimal_plain a.1 t))

pub not_blank : (b : ℕ) → 48 ≤ b → is_blank b ≡ false
not_blank b h = rw (ne_eqb b 32 (λ e. omega arith), ne_eqb b 9 (λ e. omega arith)) refl

words_of_bare : (a : Arc) → a.0 < 2 ^ 64 → a.1 < 2 ^ 64 → words_of (bare a) ≡ decimal a.0 ∷ decimal a.1 ∷ []
unfolding words_of
words_of_bare a s t =
    let plain : (n : ℕ) → n < 2 ^ 64 → All (λ b. is_blank b ≡ false) (decimal n) = λ n small. All-weaker _ (λ b. is_blank b ≡ false) not_blank (decimal n) (digits_high n small) in
    let parts : slice_split is_blank (bare a) ≡ decimal a.0 ∷ decimal a.1 ∷ [] =
    slice_split_at is_blank _ 32 (decimal a.1) (plain a.0 s) refl ∙ ap (λ (l : List (List ℕ)). decimal a.0 ∷ l) (slice_split_none is_blank (decimal a.1) (plain a.1 t)) in
    let some : (n : ℕ) → n < 2 ^ 64 → eqb (length (decimal n)) 0 ≡ false = λ n small. ne_eqb (length (decimal n)) 0 (λ e. omega (arith, decimal_nonempty)) in
    rw (parts, some a.0 s, some a.1 t) refl

pub not_skipped : (a : Arc) → a.0 < 2 ^ 64 → a.1 < 2 ^ 64 → is_skipped (words_of (bare a)) ≡ false
not_skipped a s t = grind (arith, decimal_nonempty, digits_high, words_of_bare)

pub arc_in_bare : (a : Arc) → a.0 < 2 ^ 64 → a.1 < 2 ^ 64 → arc_in (words_of (bare a)) ≡ Some a
arc_in_bare a s t = rw (words_of_bare a s t, number_of-decimal a.0 s, number_of-decimal a.1 t) refl

pub arc_at_bare : (a : Arc) → a.0 < 2 ^ 64 → a.1 < 2 ^ 64 → arc_at (bare a) ≡ Some a
arc_at_bare a s t = rw (not_skipped a s t, arc_in_bare a s t) refl

-- the first line of a text, in its plain form
pub plain_line : (a : Arc) (rest : List ℕ) → a.0 < 2 ^ 64 → a.1 < 2 ^ 64 → lines_of (arc_line a ++ rest) ≡ bare a ∷ lines_of rest
plain_line a rest s t = ap lines_of (with_end a rest) ∙ line_read _ rest (bare_high a s t)

pub plain_fault : (n count : ℕ) (last : Option Arc) (a : Arc) → a.0 < 2 ^ 64 → a.1 < 2 ^ 64 → fault_after n last count (bare a) ≡ refusal_after n last count (Some a)
plain_fault n count last a s t = rw (not_skipped a s t, arc_in_bare a s t) refl

-- ---- all lines

lines_back : (m n : ℕ) (arcs : List Arc) → m ≤ 2 ^ 64 → n ≤ 2 ^ 64 → Within m n arcs → lines_of (text_of_arcs arcs) ≡ map bare arcs
lines_back m n [] ml nl h = no_lines [] refl
lines_back m n (a ∷ arcs) ml nl h =
    let s : a.0 < 2 ^ 64 = omega arith in
    let t : a.1 < 2 ^ 64 = omega arith in
    plain_line a _ s t ∙ ap (λ (ls : List (List ℕ)). bare a ∷ ls) (lines_back m n arcs ml nl h.2)

arcs_back : (m n : ℕ) (arcs : List Arc) → m ≤ 2 ^ 64 → n ≤ 2 ^ 64 → Within m n arcs → arcs_in (map bare arcs) ≡ arcs
arcs_back m n [] ml nl h = refl
arcs_back m n (a ∷ arcs) ml nl h =
    rw (arc_at_bare a (omega arith) (omega arith)) (ap (λ (l : List Arc). a ∷ l) (arcs_back m n arcs ml nl h.2))

within_front : (m n : ℕ) (arcs : List Arc) (i : ℕ) → Within m n arcs → Within m n (take i arcs)
within_front m n arcs zero h = tt
within_front m n [] (suc i) h = tt
within_front m n (a ∷ arcs) (suc i) h = (h.0, h.1, within_front m n arcs i h.2)

fine_at : (n : ℕ) (arcs : List Arc) (i : ℕ) → n ≤ 2 ^ 64 → length arcs ≤ MOST_ARCS → Within n n arcs → Climbs None arcs → i < length arcs → fault_at n (map bare arcs) i ≡ None
fine_at n arcs i nl few h climbs lt =
    let d : Arc = (0, 0) in
    let a : Arc = get_or arcs i d in
    let w = within_at n n arcs i d h lt in
    let s : a.0 < 2 ^ 64 = omega arith in
    let t : a.1 < 2 ^ 64 = omega arith in
    let line : get_or (map bare arcs) i [] ≡ bare a = get_or-map bare arcs i d [] lt in
    let front : arcs_in (take i (map bare arcs)) ≡ take i arcs = ap arcs_in (take-map bare i arcs) ∙ arcs_back n n (take i arcs) nl nl (within_front n n arcs i h) in
    let size = length-take-le i arcs (omega arith) in
    let fine : refusal_after n (last_or None (take i arcs)) (length (take i arcs)) (Some a) ≡ None = not_refused n a.0 a.1 (length (take i arcs)) (last_or None (take i arcs)) w.0 w.1 (climbs_at None arcs i d climbs lt) (omega arith) in
    ap (λ (l : List ℕ). fault_of n (arcs_in (take i (map bare arcs))) l) line ∙ ap (λ (l : List Arc). fault_of n l (bare a)) front
    ∙ plain_fault n (length (take i arcs)) (last_or None (take i arcs)) a s t ∙ fine

pub read_back : TextsReadBack
read_back g proper pages few =
    let n : ℕ = g.nodes in
    let size = proper.counted in
    let nl : n ≤ 2 ^ 64 = omega arith in
    let within : Within n n (arcs_of g) = within_from n n 0 g.lists (omega arith) proper.below in
    let climbs : Climbs None (arcs_of g) = climbs_from None 0 g.lists (λ x w le. refl) proper.ascending in
    let lines : lines_of (text_of_graph g) ≡ map bare (arcs_of g) = ap lines_of (text_is_of_arcs g) ∙ lines_back n n (arcs_of g) nl nl within in
    let count : length (arcs_of g) ≡ arc_count g = length-arcs_from 0 g.lists in
    subst (λ (ls : List (List ℕ)). AreArcs n ls g) (sym lines) (record {
      sound = λ i lt. fine_at n (arcs_of g) i nl (omega arith) within climbs (omega (arith, length-map (arcs_of g) bare));
      nodes = refl;
      proper = proper;
      arcs = sym (arcs_back n n (arcs_of g) nl nl within);
    })
