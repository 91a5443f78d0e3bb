-- A text stands for a graph or has a first fault.
use Rattle.std.proofs.Common.{◌≡◌, ◌≢◌, ℕ, suc, ◌+◌, ◌≤◌, ◌⊎◌, List, [], ◌∷◌, ◌++◌, map, length, decimal, Option, Some, None, unwrap_or, Result, Ok, Err, refl, sym, ap, subst, arith, inl, inr}
use Rattle.std.proofs.lemmas.Bool.{cases_lt, lt-ltb}
use Rattle.std.proofs.lemmas.Option.{none-some}
use Rattle.wg_params.specs.declared.limits.TheConstants.{MOST_ARCS, MOST_PAGES}
use Rattle.wg_num.specs.Decimal.{number_of}
use Rattle.wg_num.specs.Lines.{lines_of}
use Rattle.wg_num.specs.Words.{words_of}
use Rattle.wg_num.proofs.Numbers.{decimal-number_of}
use Rattle.wg_graph.specs.Ascending.{Ascends, Below}
use Rattle.wg_graph.specs.Digraph.{Digraph, arc_count}
use Rattle.wg_ascii.specs.declared.fault.AsciiKind.{AsciiKind}
use Rattle.wg_ascii.specs.declared.fault.AsciiKind.TheVariants as kind
use Rattle.wg_ascii.specs.declared.fault.AsciiError.TheVariants as error
use Rattle.wg_ascii.specs.Reading.{fault_of_pages, fault_of_first, refusal_of, or_else, fault_of_words, IsDecided}
use Rattle.wg_ascii.specs.Growing.{IsNumber, IsList, HasLists, IsFirstAfter, AreBlank, IsFirstExtra, Tells, BlankSoFar}
use Rattle.wg_ascii.specs.Laws.{TextsAreSome}
use Rattle.wg_ascii.proofs.Pages.{lists_none, lists_more, lists_refused}
use Rattle.wg_ascii.proofs.Whole.{no_lines_fault, first_fault, after_fault, extra_after, stands, blank_none, blank_more, blank_done, blank_refused}

cases_fault : (o : Option AsciiKind) → (o ≡ None) ⊎ ((k : AsciiKind) × (o ≡ Some k))
cases_fault None = inl refl
cases_fault (Some k) = inr (k, refl)

-- ---- a first line without a fault

tells_one : (word : List ℕ) (o : Option ℕ) → number_of word ≡ o → fault_of_pages o ≡ None → (n : ℕ) × Tells (word ∷ []) n
tells_one word None e fine = absurd (none-some kind.Shape (sym fine))
tells_one word (Some n) e fine =
    elim (cases_lt MOST_PAGES n) [
      | inl large ↦ absurd (none-some kind.Range (sym (rw (lt-ltb MOST_PAGES n large) at fine)))
      | inr small ↦ (n, record { is = ap (λ (w : List ℕ). w ∷ []) (decimal-number_of word n e).1; small = small })
    ]

tells : (words : List (List ℕ)) → fault_of_first words ≡ None → (n : ℕ) × Tells words n
tells [] fine = absurd (none-some kind.Shape (sym fine))
tells (word ∷ next ∷ words) fine = absurd (none-some kind.Shape (sym fine))
tells (word ∷ []) fine = tells_one word (number_of word) refl fine

-- ---- a page's line without a fault

taken : (n least arcs : ℕ) (word : List ℕ) (words : List (List ℕ)) (o : Option ℕ) → number_of word ≡ o → or_else (refusal_of n least arcs o) (fault_of_words n (unwrap_or o 0 + 1) (arcs + 1) words) ≡ None
    → (v : ℕ) × IsNumber n least arcs word v × (fault_of_words n (v + 1) (arcs + 1) words ≡ None)
taken n least arcs word words o h h2 = grind (arith, decimal-number_of)

numbers : (n least arcs : ℕ) (words : List (List ℕ)) → arcs ≤ MOST_ARCS → fault_of_words n least arcs words ≡ None
    → (list : List ℕ) × (words ≡ map decimal list) × Ascends least list × Below n list × (arcs + length list ≤ MOST_ARCS)
numbers n least arcs [] room fine = ([], refl, tt, tt, omega arith)
numbers n least arcs (word ∷ words) room fine =
    let t = taken n least arcs word words (number_of word) refl fine in
    let v : ℕ = t.0 in
    let is : IsNumber n least arcs word v = t.1 in
    let more = is.room in
    let rest = numbers n (v + 1) (arcs + 1) words (omega arith) t.2 in
    let list : List ℕ = rest.0 in
    let text : words ≡ map decimal list = rest.1 in
    let next : v + 1 ≡ suc v = omega arith in (
      v ∷ list,
      (λ i. is.text i ∷ text i),
      (is.low, subst (λ (k : ℕ). Ascends k list) next rest.2),
      (is.page, rest.3),
      omega (arith, rest.4),
    )

-- ---- the lines of all pages

-- they have a first fault, or list the successors of all pages
abbrev Walked : List (List ℕ) → ℕ → Type 0
Walked lines n =
    ((e : ℕ × AsciiKind) × IsFirstAfter n lines (error.Line e.0 e.1))
    ⊎ ((rest : List (List ℕ)) × (g : Digraph) × (g.nodes ≡ n) × HasLists lines rest g × (length g.lists ≡ g.nodes))

walk_pages : (lines rest : List (List ℕ)) (g : Digraph) → HasLists lines rest g → Walked lines g.nodes
walk_pages lines [] g h =
    elim (cases_lt (length g.lists) g.nodes) [
      | inl lt ↦ inl ((length g.lists + 2, kind.Missing), lists_refused lines [] g (length g.lists + 2) (error.Line (length g.lists + 2) kind.Missing) h lt refl (refl, refl))
      | inr full ↦ (let begun = h.prefix.begun in inr ([], g, refl, h, omega arith))
    ]
walk_pages lines (text ∷ after) g h =
    elim (cases_lt (length g.lists) g.nodes) [
      | inl lt ↦ elim (cases_fault (fault_of_words g.nodes 0 (arc_count g) (words_of text))) [
        | inl fine ↦
            let t = numbers g.nodes 0 (arc_count g) (words_of text) h.prefix.few_arcs fine in
            let list : List ℕ = t.0 in
            let is : IsList g.nodes (arc_count g) (words_of text) list = record { text = t.1; ascends = t.2; below = t.3; room = t.4 } in
            let new : Digraph = record { nodes = g.nodes; lists = g.lists ++ list ∷ [] } in
            walk_pages lines after new (lists_more lines (text ∷ after) after g new h lt (list, (text, refl, is), refl) refl)
        | inr faulty ↦ inl ((length g.lists + 2, faulty.0), lists_refused lines (text ∷ after) g (length g.lists + 2) (error.Line (length g.lists + 2) faulty.0) h lt refl (refl, faulty.1))
      ]
      | inr full ↦ (let begun = h.prefix.begun in inr (text ∷ after, g, refl, h, omega arith))
    ]

-- ---- the lines after them

cases_words : (words : List (List ℕ)) → (words ≡ []) ⊎ (words ≢ [])
cases_words [] = inl refl
cases_words (word ∷ words) = inr (λ e. absurd (omega (arith, ap length e)))

walk_blank : (lines rest : List (List ℕ)) (first line : ℕ) → BlankSoFar lines rest first line → AreBlank lines ⊎ ((l : ℕ) × IsFirstExtra first lines (error.Line l kind.Extra))
walk_blank lines [] first line h = inl (blank_done lines [] first line h refl)
walk_blank lines (text ∷ after) first line h =
    elim (cases_words (words_of text)) [
      | inl none ↦ walk_blank lines after first (line + 1) (blank_more lines (text ∷ after) after text first line h refl none)
      | inr some ↦ inr (line, blank_refused lines (text ∷ after) after text first line h refl some)
    ]

-- ---- the text

abbrev Decided : List ℕ → Type 0
Decided bytes = (w : Result Digraph (ℕ × AsciiKind)) × IsDecided bytes w

decide_end : (bytes first : List ℕ) (lines rest : List (List ℕ)) (g : Digraph) → lines_of bytes ≡ first ∷ lines → Tells (words_of first) g.nodes → HasLists lines rest g → length g.lists ≡ g.nodes → Decided bytes
decide_end bytes first lines rest g cut tells h all =
    elim (walk_blank rest rest (g.nodes + 2) (g.nodes + 2) (blank_none rest (g.nodes + 2))) [
      | inl blank ↦ (Ok g, stands (lines_of bytes) first lines rest g cut tells h all blank)
      | inr extra ↦ (Err (extra.0, kind.Extra), after_fault bytes first lines g.nodes (error.Line extra.0 kind.Extra) cut tells (extra_after lines rest g (error.Line extra.0 kind.Extra) h all extra.1))
    ]

decide_pages : (bytes first : List ℕ) (lines : List (List ℕ)) (n : ℕ) → lines_of bytes ≡ first ∷ lines → Tells (words_of first) n → Walked lines n → Decided bytes
decide_pages bytes first lines n cut tells (inl (e, fault)) = (Err e, after_fault bytes first lines n (error.Line e.0 e.1) cut tells fault)
decide_pages bytes first lines n cut tells (inr (rest, g, same, h, all)) = decide_end bytes first lines rest g cut (subst (Tells (words_of first)) (sym same) tells) h all

decide : (bytes : List ℕ) (lines : List (List ℕ)) → lines_of bytes ≡ lines → Decided bytes
decide bytes [] cut = (Err (1, kind.Missing), no_lines_fault (lines_of bytes) cut)
decide bytes (first ∷ lines) cut =
    elim (cases_fault (fault_of_first (words_of first))) [
      | inl fine ↦
          let t = tells (words_of first) fine in
          let none : Digraph = record { nodes = t.0; lists = [] } in
          decide_pages bytes first lines t.0 cut t.1 (walk_pages lines lines none (lists_none lines none refl t.1.small))
      | inr faulty ↦ (Err (1, faulty.0), first_fault (lines_of bytes) first lines faulty.0 cut faulty.1)
    ]

pub texts_are_some : TextsAreSome
texts_are_some bytes = decide bytes (lines_of bytes) refl
