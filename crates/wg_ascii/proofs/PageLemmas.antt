-- An ASCIIGraph text that is read line by line, of which other lines may come later.
use Rattle.std.proofs.Common.{false, ◌==◌, ◌≡◌, ◌≢◌, ℕ, ◌+◌, ◌-◌, ◌<◌, ◌≤◌, List, [], ◌∷◌, ◌++◌, length, replicate, Err, refl, sym, ap, subst, ◌∙◌, arith, append-nil}
use Rattle.std.proofs.lemmas.Bool.{eqb-false}
use Rattle.std.proofs.lemmas.List.{length_push}
use Rattle.std.proofs.lemmas.List.Sums.{sum_by_push}
use Rattle.wg_num.specs.Lines.{lines_of}
use Rattle.wg_num.specs.Words.{words_of}
use Rattle.wg_graph.specs.Digraph.{Digraph, arc_count}
use Rattle.wg_graph.specs.Growing.{padded}
use Rattle.wg_ascii.specs.Reading.{StandsFor, IsFirstFault, IsRead, fault_of_words}
use Rattle.wg_ascii.specs.Growing.{HasList, HasNoList, HasLists, IsList, IsRefused, Tells, BlankSoFar, IsUpTo, IsFirst, IsFirstAfter, IsFirstExtra}
use Rattle.wg_ascii.specs.Growing.{PageLinesRead}
use Rattle.wg_ascii.specs.declared.fault.AsciiKind.TheVariants as kind
use Rattle.wg_ascii.specs.declared.fault.AsciiError.{AsciiError}
use Rattle.wg_ascii.specs.declared.fault.AsciiError.TheVariants as error
use Rattle.wg_ascii.proofs.Pages.{lists_none, lists_more, lists_refused}
use Rattle.wg_ascii.proofs.Whole.{blank_more, blank_done, blank_refused, extra_after, later_fault, no_lines_fault, stands}

abbrev pub graph_of : PageLinesRead → List (List ℕ) → Digraph
graph_of s lists = record { nodes = s.nodes; lists = lists }

-- a text that is not empty has a byte
pub is_left : (count : ℕ) → false ≡ (count == 0) → 0 < count
is_left count test = omega (arith, eqb-false count 0 (sym test))

-- ---- the first line
pub first_read : (all after later : List (List ℕ)) (first : List ℕ) (s : PageLinesRead) → all ≡ first ∷ after → Tells (words_of first) s.nodes → s.line ≡ 1 → s.arcs ≡ 0 → IsUpTo (all ++ later) (after ++ later) [] s
first_read all after later first s cut tells line arcs = record {
  first = first;
  lines = after ++ later;
  behind = after ++ later;
  split = ap (λ (ls : List (List ℕ)). ls ++ later) cut;
  tells = tells;
  pages = lists_none (after ++ later) (graph_of s []) refl tells.small;
  arcs = arcs;
  blank = record { done = 0; counted = omega (arith, line); split = refl; none = λ x lt. absurd (omega arith) };
  waits = λ lt. (refl, omega (arith, line));
}

pub no_first : (all later : List (List ℕ)) → all ≡ [] → later ≡ [] → IsFirst (all ++ later) (error.Line 1 kind.Missing)
no_first all later none end = no_lines_fault (all ++ later) (ap (λ (ls : List (List ℕ)). ls ++ later) none ∙ end)

-- ---- how many pages were read

pub page_left : (all next lists : List (List ℕ)) (s : PageLinesRead) → s.line ≤ s.nodes → IsUpTo all next lists s → length lists < s.nodes
page_left all next lists s le h = omega (arith, h.blank.counted)

pub all_listed : (all next lists : List (List ℕ)) (s : PageLinesRead) → s.nodes < s.line → IsUpTo all next lists s → length lists ≡ s.nodes
all_listed all next lists s lt h = grind arith

first_of : (all next lists : List (List ℕ)) (s : PageLinesRead) (e : AsciiError) (h : IsUpTo all next lists s) → IsFirstAfter s.nodes h.lines e → IsFirst all e
first_of all next lists s (error.Line l k) h (x, at, fault, before) =
    subst (λ (ls : List (List ℕ)). IsFirstFault ls l k) (sym h.split) (later_fault h.first h.lines s.nodes x l k h.tells at fault before)
first_of all next lists s error.Memory h f = tt

-- ---- the line of a page

pub page_read : (all lines later after lists : List (List ℕ)) (list : List ℕ) (s t : PageLinesRead) → s.line ≤ s.nodes → HasList s.nodes s.arcs lines after list → t.nodes ≡ s.nodes → t.line ≡ s.line + 1 → t.arcs ≡ s.arcs + length list
    → IsUpTo all (lines ++ later) lists s → IsUpTo all (after ++ later) (lists ++ list ∷ []) t
page_read all lines later after lists list s t le (text, cut, is) nodes line arcs h =
    let lt : length lists < s.nodes = page_left all (lines ++ later) lists s le h in
    let w = h.waits lt in
    let g : Digraph = graph_of s lists in
    let count = length_push lists list in
    let pages : HasLists h.lines (lines ++ later) g = subst (λ (ls : List (List ℕ)). HasLists h.lines ls g) (sym w.0) h.pages in
    let here : HasList s.nodes (arc_count g) (lines ++ later) (after ++ later) list =
    (text, ap (λ (ls : List (List ℕ)). ls ++ later) cut, subst (λ (n : ℕ). IsList s.nodes n (words_of text) list) h.arcs is) in
    record {
      first = h.first;
      lines = h.lines;
      behind = after ++ later;
      split = h.split;
      tells = subst (Tells (words_of h.first)) (sym nodes) h.tells;
      pages = lists_more h.lines (lines ++ later) (after ++ later) g (graph_of t (lists ++ list ∷ [])) pages lt (list, here, refl) nodes;
      arcs = arcs ∙ ap (λ (n : ℕ). n + length list) h.arcs ∙ sym (sum_by_push (λ (l : List ℕ). length l) lists list);
      blank = record { done = 0; counted = omega (arith, line, w.1, count); split = refl; none = λ x low. absurd (omega arith) };
      waits = λ less. (refl, omega (arith, line, w.1, count));
    }

pub page_refused : (all lines later lists : List (List ℕ)) (s : PageLinesRead) (line : ℕ) (e : AsciiError) → s.line ≤ s.nodes → line ≡ s.line + 1 → HasNoList line s.nodes s.arcs lines e → IsUpTo all (lines ++ later) lists s → IsFirst all e
page_refused all lines later lists s line e le at (text, after, cut, r) h =
    let lt : length lists < s.nodes = page_left all (lines ++ later) lists s le h in
    let w = h.waits lt in
    let g : Digraph = graph_of s lists in
    let pages : HasLists h.lines (text ∷ (after ++ later)) g = subst (λ (ls : List (List ℕ)). HasLists h.lines ls g) (sym w.0 ∙ ap (λ (ls : List (List ℕ)). ls ++ later) cut) h.pages in
    let refused : IsRefused line (fault_of_words s.nodes 0 (arc_count g) (words_of text)) e = subst (λ (n : ℕ). IsRefused line (fault_of_words s.nodes 0 n (words_of text)) e) h.arcs r in
    first_of all (lines ++ later) lists s e h (lists_refused h.lines (text ∷ (after ++ later)) g line e pages lt (omega (arith, at, w.1)) refused)

pub page_missing : (all lists : List (List ℕ)) (s : PageLinesRead) (line : ℕ) → s.line ≤ s.nodes → line ≡ s.line + 1 → IsUpTo all [] lists s → IsFirst all (error.Line line kind.Missing)
page_missing all lists s line le at h =
    let lt : length lists < s.nodes = page_left all [] lists s le h in
    let w = h.waits lt in
    let g : Digraph = graph_of s lists in
    let pages : HasLists h.lines [] g = subst (λ (ls : List (List ℕ)). HasLists h.lines ls g) (sym w.0) h.pages in
    first_of all [] lists s (error.Line line kind.Missing) h (lists_refused h.lines [] g line (error.Line line kind.Missing) pages lt (omega (arith, at, w.1)) (refl, refl))

-- ---- the lines after those of the pages

pub blank_read : (all rest later after lists : List (List ℕ)) (text : List ℕ) (s t : PageLinesRead) → s.nodes < s.line → rest ≡ text ∷ after → words_of text ≡ [] → t.nodes ≡ s.nodes → t.line ≡ s.line + 1 → t.arcs ≡ s.arcs
    → IsUpTo all (rest ++ later) lists s → IsUpTo all (after ++ later) lists t
blank_read all rest later after lists text s t over cut none nodes line arcs h =
    let full : length lists ≡ s.nodes = all_listed all (rest ++ later) lists s over h in
    record {
      first = h.first;
      lines = h.lines;
      behind = h.behind;
      split = h.split;
      tells = subst (Tells (words_of h.first)) (sym nodes) h.tells;
      pages = subst (λ (n : ℕ). HasLists h.lines h.behind (record { nodes = n; lists = lists })) (sym nodes) h.pages;
      arcs = arcs ∙ h.arcs;
      blank = subst (BlankSoFar h.behind (after ++ later) (length lists + 2)) (ap (λ (n : ℕ). n + 1) (sym line))
          (blank_more h.behind (rest ++ later) (after ++ later) text (length lists + 2) (s.line + 1) h.blank (ap (λ (ls : List (List ℕ)). ls ++ later) cut) none);
      waits = λ less. absurd (omega (arith, nodes, full));
    }

pub word_refused : (all rest later after lists : List (List ℕ)) (text : List ℕ) (s : PageLinesRead) (line : ℕ) → s.nodes < s.line → line ≡ s.line + 1 → rest ≡ text ∷ after → words_of text ≢ []
    → IsUpTo all (rest ++ later) lists s → IsFirst all (error.Line line kind.Extra)
word_refused all rest later after lists text s line over at cut some h =
    let full : length lists ≡ s.nodes = all_listed all (rest ++ later) lists s over h in
    let e : AsciiError = error.Line (s.line + 1) kind.Extra in
    let extra : IsFirstExtra (length lists + 2) h.behind e =
    blank_refused h.behind (rest ++ later) (after ++ later) text (length lists + 2) (s.line + 1) h.blank (ap (λ (ls : List (List ℕ)). ls ++ later) cut) some in
    let here : IsFirst all e = first_of all (rest ++ later) lists s e h (extra_after h.lines h.behind (graph_of s lists) e h.pages full (subst (λ (n : ℕ). IsFirstExtra (n + 2) h.behind e) full extra)) in
    subst (λ (n : ℕ). IsFirst all (error.Line n kind.Extra)) (sym at) here

-- ---- the end

pub all_read : (all lists : List (List ℕ)) (s : PageLinesRead) → s.nodes < s.line → IsUpTo all [] lists s → StandsFor all (graph_of s lists)
all_read all lists s over h =
    stands all h.first h.lines h.behind (graph_of s lists) h.split h.tells h.pages (all_listed all [] lists s over h) (blank_done h.behind [] (length lists + 2) (s.line + 1) h.blank refl)

pub read_of_first : (bytes : List ℕ) (e : AsciiError) → IsFirst (lines_of bytes ++ []) e → IsRead bytes (Err e)
read_of_first bytes e h = grind (arith, append-nil)

-- the graph that is made of these lists
pub stands_alone : (bytes : List ℕ) (lists : List (List ℕ)) (s : PageLinesRead) (g : Digraph) (n : ℕ) → g.nodes ≡ s.nodes → n ≡ s.nodes → g.lists ≡ padded n lists → s.nodes < s.line → IsUpTo (lines_of bytes ++ []) [] lists s → StandsFor (lines_of bytes) g
stands_alone bytes lists s g n nodes room is over h =
    let all : List (List ℕ) = lines_of bytes ++ [] in
    let none : n - length lists ≡ 0 = omega (arith, room, all_listed all [] lists s over h) in
    let same : g.lists ≡ lists = is ∙ ap (λ (k : ℕ). lists ++ replicate k []) none ∙ append-nil lists in
    subst (λ (ls : List (List ℕ)). StandsFor ls g) (append-nil (lines_of bytes))
    (subst (λ (x : Digraph). StandsFor all x) (λ i. record { nodes = sym nodes i; lists = sym same i }) (all_read all lists s over h))
