-- The whole text, of the first line and what comes after it.
use Rattle.std.proofs.Common.{◌≡◌, ◌≢◌, ℕ, zero, suc, ◌+◌, ◌-◌, ◌<◌, ◌≤◌, false, eqb, List, [], ◌∷◌, map, length, drop, get_or, decimal, Option, Some, None, IsSome, IsNone, MatchOption, Bor, Err, refl, sym, ap, subst, ◌∙◌, arith, inl, inr}
use Rattle.std.proofs.lemmas.Bool.{cases_lt, le-leb, ne_eqb}
use Rattle.std.proofs.lemmas.List.{get_or-drop, get_or_past}
use Rattle.wg_params.specs.declared.limits.TheConstants.{MOST_PAGES}
use Rattle.wg_num.specs.Decimal.{number_of}
use Rattle.wg_num.specs.Lines.{lines_of}
use Rattle.wg_num.specs.Words.{words_of}
use Rattle.wg_num.proofs.Numbers.{number_of-decimal}
use Rattle.wg_graph.specs.Digraph.{Digraph}
use Rattle.wg_graph.proofs.Prefixes.{graph_of_prefix}
use Rattle.wg_ascii.specs.declared.fault.AsciiKind.{AsciiKind}
use Rattle.wg_ascii.specs.declared.fault.AsciiKind.TheVariants as kind
use Rattle.wg_ascii.specs.declared.fault.AsciiError.{AsciiError}
use Rattle.wg_ascii.specs.declared.fault.AsciiError.TheVariants as error
use Rattle.wg_ascii.specs.Reading.{StandsFor, fault_of_first, pages_in, fault_after, fault_at, IsFirstFault, IsRead}
use Rattle.wg_ascii.specs.Growing.{HasLists, IsFirstAfter, AreBlank, IsFirstExtra, Tells, BlankSoFar}
use Rattle.wg_ascii.proofs.Pages.{IsNext, next_is, none_left, lists_sound}

-- ---- the first line

told : (n : ℕ) → n ≤ MOST_PAGES → number_of (decimal n) ≡ Some n
told n small = number_of-decimal n (omega arith)

pub told_fine : (words : List (List ℕ)) (n : ℕ) → Tells words n → fault_of_first words ≡ None
told_fine words n h = grind (arith, told)

pub told_pages : (words : List (List ℕ)) (n : ℕ) → Tells words n → pages_in words ≡ n
told_pages words n h = grind (arith, told)

-- ---- a fault

pub first_fault : (all : List (List ℕ)) (first : List ℕ) (lines : List (List ℕ)) (k : AsciiKind) → all ≡ first ∷ lines → fault_of_first (words_of first) ≡ Some k → IsFirstFault all 1 k
first_fault all first lines k cut fault = subst (λ (ls : List (List ℕ)). IsFirstFault ls 1 k) (sym cut) (record { index = 0; counted = refl; fault = fault; sound = λ i lt. absurd (omega arith) })

pub no_lines_fault : (all : List (List ℕ)) → all ≡ [] → IsFirstFault all 1 kind.Missing
no_lines_fault all none = subst (λ (ls : List (List ℕ)). IsFirstFault ls 1 kind.Missing) (sym none) (record { index = 0; counted = refl; fault = refl; sound = λ i lt. absurd (omega arith) })

-- the lines of the pages and those after them up to one are in order, and this one is not
pub later_fault : (first : List ℕ) (lines : List (List ℕ)) (n x line : ℕ) (k : AsciiKind) → Tells (words_of first) n → line ≡ x + 2 → fault_after n lines x ≡ Some k → ((y : ℕ) → y < x → fault_after n lines y ≡ None)
    → IsFirstFault (first ∷ lines) line k
later_fault first lines n x line k tells at fault before = record {
  index = suc x;
  counted = omega arith;
  fault = ap (λ (m : ℕ). fault_after m lines x) (told_pages (words_of first) n tells) ∙ fault;
  sound = sound;
}
  where
    sound : (i : ℕ) → i < suc x → fault_at (first ∷ lines) i ≡ None
    sound zero lt = told_fine (words_of first) n tells
    sound (suc y) lt = ap (λ (m : ℕ). fault_after m lines y) (told_pages (words_of first) n tells) ∙ before y (omega arith)

pub after_fault : (bytes first : List ℕ) (lines : List (List ℕ)) (n : ℕ) (e : AsciiError) → lines_of bytes ≡ first ∷ lines → Tells (words_of first) n → IsFirstAfter n lines e → IsRead bytes (Err e)
after_fault bytes first lines n (error.Line l k) cut tells (x, at, fault, before) =
    subst (λ (ls : List (List ℕ)). IsFirstFault ls l k) (sym cut) (later_fault first lines n x l k tells at fault before)
after_fault bytes first lines n error.Memory cut tells h = tt

-- ---- the lines after those of the pages

pub empty_line : words_of [] ≡ []
unfolding words_of
empty_line = refl

-- a line after them, counted from the first of these
behind : (lines rest : List (List ℕ)) (n x : ℕ) → drop n lines ≡ rest → get_or lines (n + x) [] ≡ get_or rest x []
behind lines rest n x split = sym (get_or-drop n lines x []) ∙ ap (λ (ls : List (List ℕ)). get_or ls x []) split

-- what the search for a line's first word finds
pub is_some_word : (r : Option (Bor (List ℕ) × Bor (List ℕ))) (words : List (List ℕ)) → MatchOption r (words ≡ []) (λ w. words ≡ w.0.now ∷ words_of w.1.now) → IsSome r → words ≢ []
is_some_word r words h h2 = grind arith

pub is_no_word : (r : Option (Bor (List ℕ) × Bor (List ℕ))) (words : List (List ℕ)) → MatchOption r (words ≡ []) (λ w. words ≡ w.0.now ∷ words_of w.1.now) → IsNone r → words ≡ []
is_no_word r words h h2 = grind arith

pub blank_none : (lines : List (List ℕ)) (first : ℕ) → BlankSoFar lines lines first first
blank_none lines first = record { done = 0; counted = omega arith; split = refl; none = λ x lt. absurd (omega arith) }

pub blank_more : (lines rest after : List (List ℕ)) (text : List ℕ) (first line : ℕ) → BlankSoFar lines rest first line → rest ≡ text ∷ after → words_of text ≡ [] → BlankSoFar lines after first (line + 1)
blank_more lines rest after text first line h cut blank =
    let next : IsNext lines after h.done text = next_is lines after h.done text (h.split ∙ cut) in
    record {
      done = h.done + 1;
      counted = let at = h.counted in omega arith;
      split = next.split;
      none = λ x lt. elim (cases_lt x h.done) [
        | inl low ↦ h.none x low
        | inr from ↦ (let here : x ≡ h.done = omega arith in ap (λ (i : ℕ). words_of (get_or lines i [])) here ∙ ap words_of next.line ∙ blank)
      ];
    }

pub blank_done : (lines rest : List (List ℕ)) (first line : ℕ) → BlankSoFar lines rest first line → rest ≡ [] → AreBlank lines
blank_done lines rest first line h end x = grind (arith, none_left, get_or_past, empty_line)

pub blank_refused : (lines rest after : List (List ℕ)) (text : List ℕ) (first line : ℕ) → BlankSoFar lines rest first line → rest ≡ text ∷ after → words_of text ≢ [] → IsFirstExtra first lines (error.Line line kind.Extra)
blank_refused lines rest after text first line h cut some =
    let next : IsNext lines after h.done text = next_is lines after h.done text (h.split ∙ cut) in
    (h.done, h.counted, refl, subst (λ (t : List ℕ). words_of t ≢ []) (sym next.line) some, h.none)

pub blank_sound : (lines : List (List ℕ)) (n y : ℕ) → n ≤ y → words_of (get_or lines y []) ≡ [] → fault_after n lines y ≡ None
blank_sound lines n y le none = rw (le-leb n y le, none) refl

some_words : (words : List (List ℕ)) → words ≢ [] → eqb (length words) 0 ≡ false
some_words [] ne = absurd (ne refl)
some_words (word ∷ words) ne = ne_eqb _ 0 (λ e. omega arith)

word_extra : (lines : List (List ℕ)) (n x : ℕ) → n ≤ x → words_of (get_or lines x []) ≢ [] → fault_after n lines x ≡ Some kind.Extra
word_extra lines n x le some = rw (le-leb n x le, some_words (words_of (get_or lines x [])) some) refl

-- the lines of the pages are in order, and those after them up to one
behind_sound : (lines rest : List (List ℕ)) (g : Digraph) (x : ℕ) → HasLists lines rest g → length g.lists ≡ g.nodes → ((y : ℕ) → y < x → words_of (get_or rest y []) ≡ []) → (y : ℕ) → y < g.nodes + x → fault_after g.nodes lines y ≡ None
behind_sound lines rest g x h all none y lt =
    elim (cases_lt y g.nodes) [
      | inl low ↦ lists_sound lines rest g h y (omega arith)
      | inr high ↦
          let split : drop g.nodes lines ≡ rest = ap (λ (k : ℕ). drop k lines) (sym all) ∙ h.split in
          let at : g.nodes + (y - g.nodes) ≡ y = omega arith in
          let here : words_of (get_or lines y []) ≡ [] = ap (λ (k : ℕ). words_of (get_or lines k [])) (sym at) ∙ ap words_of (behind lines rest g.nodes (y - g.nodes) split) ∙ none (y - g.nodes) (omega arith) in
          blank_sound lines g.nodes y high here
    ]

pub extra_after : (lines rest : List (List ℕ)) (g : Digraph) (e : AsciiError) → HasLists lines rest g → length g.lists ≡ g.nodes → IsFirstExtra (g.nodes + 2) rest e → IsFirstAfter g.nodes lines e
extra_after lines rest g (error.Line l k) h all (x, at, is, some, none) =
    let n : ℕ = g.nodes in
    let split : drop n lines ≡ rest = ap (λ (i : ℕ). drop i lines) (sym all) ∙ h.split in
    let there : words_of (get_or lines (n + x) []) ≢ [] = subst (λ (t : List ℕ). words_of t ≢ []) (sym (behind lines rest n x split)) some in
    (n + x, omega arith, word_extra lines n (n + x) (omega arith) there ∙ ap Some (sym is), behind_sound lines rest g x h all none)
extra_after lines rest g error.Memory h all r = absurd r

-- ---- no fault

pub stands : (all : List (List ℕ)) (first : List ℕ) (lines rest : List (List ℕ)) (g : Digraph) → all ≡ first ∷ lines → Tells (words_of first) g.nodes → HasLists lines rest g → length g.lists ≡ g.nodes → AreBlank rest → StandsFor all g
stands all first lines rest g cut tells h full blank =
    let n : ℕ = g.nodes in
    let there = h.there in
    let prefix = h.prefix in
    let split : drop n lines ≡ rest = ap (λ (i : ℕ). drop i lines) (sym full) ∙ h.split in
    let words : (x : ℕ) → words_of (get_or lines x []) ≡ map decimal (get_or g.lists x []) = λ x.
    elim (cases_lt x n) [
      | inl low ↦ h.words x (omega arith)
      | inr high ↦ (let at : n + (x - n) ≡ x = omega arith in ap (λ (k : ℕ). words_of (get_or lines k [])) (sym at) ∙ ap words_of (behind lines rest n (x - n) split) ∙ blank (x - n) ∙ ap (map decimal) (sym (get_or_past g.lists x [] (omega arith))))
    ] in
    subst (λ (ls : List (List ℕ)). StandsFor ls g) (sym cut) (record {
      told = tells.is;
      words = words;
      there = omega arith;
      proper = graph_of_prefix g prefix full;
      few_pages = tells.small;
      few_arcs = prefix.few_arcs;
    })
