-- The text of a graph is read back, and so is each of its spellings.
use Rattle.std.proofs.Common.{◌≡◌, ℕ, zero, suc, ◌+◌, ◌<◌, ◌≤◌, ◌^◌, false, eqb, not, List, [], ◌∷◌, ◌++◌, map, filter, length, get_or, decimal, refl, sym, ap, subst, ◌∙◌, arith, append_assoc, append-nil}
use Rattle.std.specs.List.{All, slice_split}
use Rattle.std.proofs.lemmas.Bool.{ne_eqb}
use Rattle.std.proofs.lemmas.Fmt.{decimal_nonempty}
use Rattle.std.proofs.lemmas.List.{length-map}
use Rattle.std.proofs.lemmas.List.Elements.{All-head, All-tail, All-append, All-cons, All-weaker}
use Rattle.std.proofs.lemmas.List.Splits.{slice_split_at, slice_split_none}
use Rattle.wg_num.specs.Lines.{lines_of, is_blank}
use Rattle.wg_num.specs.Words.{words_of}
use Rattle.wg_num.proofs.Cuts.{no_lines}
use Rattle.wg_num.proofs.Plain.{IsPlain, line_read, digits_high, decimal_plain}
use Rattle.wg_graph.specs.Ascending.{Below}
use Rattle.wg_graph.specs.Digraph.{Digraph}
use Rattle.wg_outside.specs.Puts.{joined}
use Rattle.wg_ascii.specs.Text.{words_after, list_words, list_line, text_of_graph}
use Rattle.wg_ascii.specs.Reading.{StandsFor}
use Rattle.wg_ascii.specs.Laws.{TextsReadBack, HaveSameWords, SpellingsAgree}
use Rattle.wg_ascii.proofs.Unique.{same_words, same_graph}
use Rattle.wg_ascii.proofs.Whole.{empty_line}

-- ---- one line

not_blank : (b : ℕ) → 48 ≤ b → is_blank b ≡ false
not_blank b h = rw (ne_eqb b 32 (λ e. omega arith), ne_eqb b 9 (λ e. omega arith)) refl

no_blanks : (n : ℕ) → n < 2 ^ 64 → All (λ b. is_blank b ≡ false) (decimal n)
no_blanks n small = All-weaker (λ b. 48 ≤ b) (λ b. is_blank b ≡ false) not_blank (decimal n) (digits_high n small)

-- the parts between the blanks are the numbers
parts : (n v : ℕ) (list : List ℕ) → n ≤ 2 ^ 64 → v < n → Below n list → slice_split is_blank (decimal v ++ words_after list) ≡ map decimal (v ∷ list)
parts n v [] small lt below = ap (slice_split is_blank) (append-nil (decimal v)) ∙ slice_split_none is_blank (decimal v) (no_blanks v (omega arith))
parts n v (w ∷ list) small lt below =
    slice_split_at is_blank (decimal v) 32 (decimal w ++ words_after list) (no_blanks v (omega arith)) refl
    ∙ ap (λ (l : List (List ℕ)). decimal v ∷ l) (parts n w list small below.0 below.1)

-- none of them is empty
none_empty : (n : ℕ) (list : List ℕ) → n ≤ 2 ^ 64 → Below n list → filter (λ word. not (eqb (length word) 0)) (map decimal list) ≡ map decimal list
none_empty n [] small below = refl
none_empty n (v ∷ list) small below =
    let some : eqb (length (decimal v)) 0 ≡ false = ne_eqb (length (decimal v)) 0 (λ e. omega (arith, decimal_nonempty v (omega (arith, below.0)))) in
    rw some (ap (λ (l : List (List ℕ)). decimal v ∷ l) (none_empty n list small below.1))

pub words_back : (n : ℕ) (list : List ℕ) → n ≤ 2 ^ 64 → Below n list → words_of (list_words list) ≡ map decimal list
unfolding words_of
words_back n [] small below = refl
words_back n (v ∷ list) small below = ap (filter (λ word. not (eqb (length word) 0))) (parts n v list small below.0 below.1) ∙ none_empty n (v ∷ list) small below

after_plain : (n : ℕ) (list : List ℕ) → n ≤ 2 ^ 64 → Below n list → IsPlain (words_after list)
after_plain n [] small below = λ i d lt. absurd (omega arith)
after_plain n (v ∷ list) small below =
    All-append (λ b. 32 ≤ b) (32 ∷ decimal v) (words_after list) (All-cons (λ b. 32 ≤ b) 32 (decimal v) (omega arith) (decimal_plain v (omega (arith, below.0)))) (after_plain n list small below.1)

pub words_plain : (n : ℕ) (list : List ℕ) → n ≤ 2 ^ 64 → Below n list → IsPlain (list_words list)
words_plain n [] small below = λ i d lt. absurd (omega arith)
words_plain n (v ∷ list) small below = All-append (λ b. 32 ≤ b) (decimal v) (words_after list) (decimal_plain v (omega (arith, below.0))) (after_plain n list small below.1)

-- ---- all lines

pub line_back : (line rest : List ℕ) → IsPlain line → lines_of ((line ++ 10 ∷ []) ++ rest) ≡ line ∷ lines_of rest
line_back line rest plain = ap lines_of (append_assoc line (10 ∷ []) rest) ∙ line_read line rest plain

lists_back : (n : ℕ) (lists : List (List ℕ)) → n ≤ 2 ^ 64 → All (Below n) lists → lines_of (joined (map list_line lists)) ≡ map list_words lists
lists_back n [] small below = no_lines [] refl
lists_back n (list ∷ lists) small below =
    line_back (list_words list) (joined (map list_line lists)) (words_plain n list small (All-head (Below n) list lists below))
    ∙ ap (λ (ls : List (List ℕ)). list_words list ∷ ls) (lists_back n lists small (All-tail (Below n) list lists below))

line_at : (n : ℕ) (lists : List (List ℕ)) (x : ℕ) → n ≤ 2 ^ 64 → All (Below n) lists → words_of (get_or (map list_words lists) x []) ≡ map decimal (get_or lists x [])
line_at n [] x small below = empty_line
line_at n (list ∷ lists) zero small below = words_back n list small (All-head (Below n) list lists below)
line_at n (list ∷ lists) (suc x) small below = line_at n lists x small (All-tail (Below n) list lists below)

pub read_back : TextsReadBack
read_back g proper pages few =
    let n : ℕ = g.nodes in
    let size = proper.counted in
    let small : n ≤ 2 ^ 64 = omega arith in
    let lines : lines_of (text_of_graph g) ≡ decimal n ∷ map list_words g.lists =
    line_back (decimal n) (joined (map list_line g.lists)) (decimal_plain n (omega arith)) ∙ ap (λ (ls : List (List ℕ)). decimal n ∷ ls) (lists_back n g.lists small proper.below) in
    let told : words_of (decimal n) ≡ decimal n ∷ [] = ap words_of (sym (append-nil (decimal n))) ∙ words_back (n + 1) (n ∷ []) (omega arith) (omega arith, tt) in
    subst (λ (ls : List (List ℕ)). StandsFor ls g) (sym lines) (record {
      told = told;
      words = λ x. line_at n g.lists x small proper.below;
      there = omega (arith, length-map g.lists list_words);
      proper = proper;
      few_pages = pages;
      few_arcs = few;
    })

-- ---- spellings

-- texts of one graph have the same words
one_spelling : (lines others : List (List ℕ)) (g : Digraph) → StandsFor lines g → StandsFor others g → HaveSameWords lines others
one_spelling lines others g a b zero = a.told ∙ sym b.told
one_spelling lines others g a b (suc x) = a.words x ∙ sym (b.words x)

alone : (a b : List ℕ) (g h : Digraph) → StandsFor (lines_of a) g → StandsFor (lines_of b) h → text_of_graph g ≡ text_of_graph h → HaveSameWords (lines_of a) (lines_of b)
alone a b g h p q e =
    let back : StandsFor (lines_of (text_of_graph g)) g = read_back g p.proper p.few_pages p.few_arcs in
    let other : StandsFor (lines_of (text_of_graph g)) h = subst (λ (t : List ℕ). StandsFor (lines_of t) h) (sym e) (read_back h q.proper q.few_pages q.few_arcs) in
    let same : g ≡ h = same_graph (lines_of (text_of_graph g)) g h back other in
    one_spelling (lines_of a) (lines_of b) g p (subst (StandsFor (lines_of b)) (sym same) q)

pub spellings_agree : SpellingsAgree
spellings_agree = record { same = λ a b g h p q words. ap text_of_graph (same_words (lines_of a) (lines_of b) g h p q words); alone = alone }
