-- The lists of the pages, read line by line.
use Rattle.std.proofs.Common.{◌≡◌, ℕ, suc, ◌+◌, ◌<◌, ◌≤◌, List, [], ◌∷◌, ◌++◌, map, length, take, drop, get_or, decimal, Option, Some, None, refl, sym, ap, subst, ◌∙◌, arith, inl, inr, length-drop}
use Rattle.std.specs.List.{All, sum_by}
use Rattle.std.proofs.lemmas.Bool.{cases_lt, lt-leb}
use Rattle.std.proofs.lemmas.List.{get_or-drop, drop_more, get_or_append_left, get_or_at, get_or-take, take_more, length-take-le, length_push, length-map}
use Rattle.std.proofs.lemmas.List.Elements.{All-get_or, All-append, All-cons}
use Rattle.std.proofs.lemmas.List.Sums.{sum_by-cons, sum_by_push, sum_by-take-le}
use Rattle.wg_num.specs.Words.{words_of}
use Rattle.wg_params.specs.declared.limits.TheConstants.{MOST_ARCS, MOST_PAGES}
use Rattle.wg_graph.specs.Ascending.{Ascends, Below}
use Rattle.wg_graph.specs.Digraph.{Digraph, arc_count}
use Rattle.wg_ascii.specs.declared.fault.AsciiKind.{AsciiKind}
use Rattle.wg_ascii.specs.declared.fault.AsciiKind.TheVariants as kind
use Rattle.wg_ascii.specs.declared.fault.AsciiError.{AsciiError}
use Rattle.wg_ascii.specs.declared.fault.AsciiError.TheVariants as error
use Rattle.wg_ascii.specs.Reading.{fault_after, fault_of_words, words_in}
use Rattle.wg_ascii.specs.Growing.{HasPage, IsRefused, HasLists, IsFirstAfter}
use Rattle.wg_ascii.proofs.Successors.{fine_words}

-- ---- lines whose words are lists

-- the first lines list these
abbrev pub AreListed : List (List ℕ) → List (List ℕ) → Type 0
AreListed lines lists = (x : ℕ) → x < length lists → words_of (get_or lines x []) ≡ map decimal (get_or lists x [])

listed_words : (lines lists : List (List ℕ)) → length lists ≤ length lines → AreListed lines lists → words_in (take (length lists) lines) ≡ sum_by (λ (l : List ℕ). length l) lists
listed_words [] [] le h = refl
listed_words (text ∷ lines) [] le h = refl
listed_words [] (list ∷ lists) le h = absurd (omega arith)
listed_words (text ∷ lines) (list ∷ lists) le h =
    let rest = listed_words lines lists (omega arith) (λ x lt. h (suc x) (omega arith)) in
    let here : length (words_of text) ≡ length list = ap length (h 0 (omega arith)) ∙ length-map list decimal in
    omega (arith, sum_by-cons (λ (t : List ℕ). length (words_of t)) text (take (length lists) lines), sum_by-cons (λ (l : List ℕ). length l) list lists)

front_words : (lines lists : List (List ℕ)) (x : ℕ) → x ≤ length lists → length lists ≤ length lines → AreListed lines lists → words_in (take x lines) ≡ sum_by (λ (l : List ℕ). length l) (take x lists)
front_words lines lists x le few h =
    let size : length (take x lists) ≡ x = length-take-le x lists le in
    let front : AreListed lines (take x lists) = λ y lt. (let low : y < x = omega arith in h y (omega arith) ∙ ap (map decimal) (sym (get_or-take x lists y [] low))) in
    ap (λ (k : ℕ). words_in (take k lines)) (sym size) ∙ listed_words lines (take x lists) (omega arith) front

room_at : (lists : List (List ℕ)) (x : ℕ) → x < length lists → sum_by (λ (l : List ℕ). length l) (take x lists) + length (get_or lists x []) ≤ sum_by (λ (l : List ℕ). length l) lists
room_at lists x lt =
    let one = ap (sum_by (λ (l : List ℕ). length l)) (take_more lists x [] lt) ∙ sum_by_push (λ (l : List ℕ). length l) (take x lists) (get_or lists x []) in
    omega (arith, sum_by-take-le (λ (l : List ℕ). length l) lists (x + 1))

-- such lines are in order if the lists are the first of a graph
pub sound_at : (n : ℕ) (lines lists : List (List ℕ)) (x : ℕ) → n ≤ MOST_PAGES → x < length lists → length lists ≤ n → length lists ≤ length lines → AreListed lines lists → All (Ascends 0) lists → All (Below n) lists
    → sum_by (λ (l : List ℕ). length l) lists ≤ MOST_ARCS → fault_after n lines x ≡ None
sound_at n lines lists x small lt few there listed up below room =
    let words = listed x lt in
    let front = front_words lines lists x (omega arith) there listed in
    rw (lt-leb n x (omega arith), lt-leb (length lines) x (omega arith), front, words)
    (fine_words n 0 (sum_by (λ (l : List ℕ). length l) (take x lists)) (get_or lists x []) (omega arith) (All-get_or (Ascends 0) lists x [] lt up) (All-get_or (Below n) lists x [] lt below) (omega (arith, room_at lists x lt)))

-- ---- what comes next

-- the next of some lines
pub record IsNext (lines after : List (List ℕ)) (k : ℕ) (text : List ℕ) : Type 0 where
  pub there : k < length lines
  pub line : get_or lines k [] ≡ text
  pub split : drop (k + 1) lines ≡ after

pub next_is : (lines after : List (List ℕ)) (k : ℕ) (text : List ℕ) → drop k lines ≡ text ∷ after → IsNext lines after k text
next_is lines after k text is =
    let there : k < length lines = omega (arith, ap length is, length-drop k lines) in
    let zero_more : k + 0 ≡ k = omega arith in
    record {
      there = there;
      line = ap (λ (i : ℕ). get_or lines i []) (sym zero_more) ∙ sym (get_or-drop k lines 0 []) ∙ ap (λ (l : List (List ℕ)). get_or l 0 []) is;
      split = ap (drop 1) (sym (drop_more lines k [] there) ∙ is);
    }

pub none_left : (lines : List (List ℕ)) (k : ℕ) → drop k lines ≡ [] → length lines ≤ k
none_left lines k is = omega (arith, ap length is, length-drop k lines)

-- ---- page by page

pub lists_none : (lines : List (List ℕ)) (g : Digraph) → g.lists ≡ [] → g.nodes ≤ MOST_PAGES → HasLists lines lines g
lists_none lines g none small =
    let count : length g.lists ≡ 0 = ap length none in
    let arcs : arc_count g ≡ 0 = ap (sum_by (λ (l : List ℕ). length l)) none in
    record {
      there = omega arith;
      split = ap (λ (k : ℕ). drop k lines) count;
      words = λ x lt. absurd (omega arith);
      prefix = record { begun = omega arith; ascending = λ i d lt. absurd (omega arith); below = λ i d lt. absurd (omega arith); few_pages = small; few_arcs = omega arith };
    }

pub lists_more : (lines rest after : List (List ℕ)) (g new : Digraph) → HasLists lines rest g → length g.lists < g.nodes → HasPage rest after g new → new.nodes ≡ g.nodes → HasLists lines after new
lists_more lines rest after g new h lt (list, (text, cut, is), more) same =
    let k : ℕ = length g.lists in
    let next : IsNext lines after k text = next_is lines after k text (h.split ∙ cut) in
    let there = next.there in
    let prefix = h.prefix in
    let grown : length (g.lists ++ list ∷ []) ≡ k + 1 = length_push g.lists list in
    let count : length new.lists ≡ k + 1 = ap length more ∙ grown in
    let arcs : arc_count new ≡ arc_count g + length list = ap (sum_by (λ (l : List ℕ). length l)) more ∙ sum_by_push (λ (l : List ℕ). length l) g.lists list in
    let at : (x : ℕ) → x < k + 1 → words_of (get_or lines x []) ≡ map decimal (get_or (g.lists ++ list ∷ []) x []) = λ x low.
    elim (cases_lt x k) [
      | inl before ↦ h.words x before ∙ ap (map decimal) (sym (get_or_append_left g.lists (list ∷ []) [] x before))
      | inr from ↦ (let here : x ≡ k = omega arith in ap (λ (i : ℕ). words_of (get_or lines i [])) here ∙ ap words_of next.line ∙ is.text ∙ ap (map decimal) (sym (get_or_at g.lists list [] [] x (sym here))))
    ] in
    record {
      there = omega arith;
      split = ap (λ (i : ℕ). drop i lines) count ∙ next.split;
      words = λ x low. (let less : x < k + 1 = omega arith in at x less ∙ ap (λ (ls : List (List ℕ)). map decimal (get_or ls x [])) (sym more));
      prefix = record {
        begun = omega arith;
        ascending = subst (All (Ascends 0)) (sym more) (All-append (Ascends 0) g.lists (list ∷ []) prefix.ascending (All-cons (Ascends 0) list [] is.ascends (λ i d lt. absurd (omega arith))));
        below = subst (λ (n : ℕ). All (Below n) new.lists) (sym same) (subst (All (Below g.nodes)) (sym more) (All-append (Below g.nodes) g.lists (list ∷ []) prefix.below (All-cons (Below g.nodes) list [] is.below (λ i d lt. absurd (omega arith)))));
        few_pages = let few = prefix.few_pages in omega arith;
        few_arcs = let room = is.room in omega arith;
      };
    }

-- the lines so far are in order
pub lists_sound : (lines rest : List (List ℕ)) (g : Digraph) → HasLists lines rest g → (x : ℕ) → x < length g.lists → fault_after g.nodes lines x ≡ None
lists_sound lines rest g h x lt = let p = h.prefix in sound_at g.nodes lines g.lists x p.few_pages lt p.begun h.there h.words p.ascending p.below p.few_arcs

-- what is wrong with the first of these lines, as that of a page
abbrev pub fault_of_line : ℕ → ℕ → List (List ℕ) → Option AsciiKind
fault_of_line n arcs [] = Some kind.Missing
fault_of_line n arcs (text ∷ after) = fault_of_words n 0 arcs (words_of text)

next_fault : (lines rest : List (List ℕ)) (g : Digraph) → HasLists lines rest g → length g.lists < g.nodes → fault_after g.nodes lines (length g.lists) ≡ fault_of_line g.nodes (arc_count g) rest
next_fault lines rest g h h2 = grind (arith, none_left, next_is, listed_words)

pub lists_refused : (lines rest : List (List ℕ)) (g : Digraph) (line : ℕ) (e : AsciiError) → HasLists lines rest g → length g.lists < g.nodes → line ≡ length g.lists + 2 → IsRefused line (fault_of_line g.nodes (arc_count g) rest) e → IsFirstAfter g.nodes lines e
lists_refused lines rest g line (error.Line l k) h lt at r = (length g.lists, r.0 ∙ at, next_fault lines rest g h lt ∙ r.1, lists_sound lines rest g h)
lists_refused lines rest g line error.Memory h lt at r = tt
