-- The words of a line, one after the other.
use Rattle.std.proofs.Common.{◌≡◌, ℕ, suc, ◌+◌, ◌-◌, ◌<◌, Bool, true, false, not, cond, eqb, List, [], ◌∷◌, length, take, drop, refl, sym, ap, subst, ◌∙◌, arith, inl, inr, filter, ne_eqb, length-drop}
use Rattle.std.specs.List.{slice_split, onto_first, position_or_len, before_first, take_while}
use Rattle.std.proofs.lemmas.Bool.{cases_Bool}
use Rattle.std.proofs.lemmas.List.{take_rest, length-take}
use Rattle.std.proofs.lemmas.List.Folds.{length-prefix_len}
use Rattle.std.proofs.lemmas.List.Sums.{take_while-cons}
use Rattle.wg_num.specs.Lines.{is_blank, without_blanks_before}
use Rattle.wg_num.specs.Words.{words_of}

abbrev is_word : List ℕ → Bool
is_word word = not (eqb (length word) 0)

words_blank : (b : ℕ) (text : List ℕ) → is_blank b ≡ true → words_of (b ∷ text) ≡ words_of text
unfolding words_of
words_blank b text h = ap (λ (t : Bool). filter is_word (cond t ([] ∷ slice_split is_blank text) (onto_first b (slice_split is_blank text)))) h

-- the text after its first blanks
abbrev after_blanks : List ℕ → List ℕ
after_blanks text = drop (length (take_while is_blank text)) text

after_blank : (b : ℕ) (text : List ℕ) → is_blank b ≡ true → after_blanks (b ∷ text) ≡ after_blanks text
after_blank b text h = ap (λ (l : List ℕ). drop (length l) (b ∷ text)) (take_while-cons is_blank b text ∙ ap (λ (t : Bool). cond t (b ∷ take_while is_blank text) []) h)

no_blank : (b : ℕ) (text : List ℕ) → is_blank b ≡ false → after_blanks (b ∷ text) ≡ b ∷ text
no_blank b text h = ap (λ (l : List ℕ). drop (length l) (b ∷ text)) (take_while-cons is_blank b text ∙ ap (λ (t : Bool). cond t (b ∷ take_while is_blank text) []) h)

words_after_blanks : (text : List ℕ) → words_of (after_blanks text) ≡ words_of text
words_after_blanks [] = refl
words_after_blanks (b ∷ text) =
    elim (cases_Bool (is_blank b)) [
      | inl h ↦ ap words_of (after_blank b text h) ∙ words_after_blanks text ∙ sym (words_blank b text h)
      | inr h ↦ ap words_of (no_blank b text h)
    ]

-- no blank comes first
abbrev Begins : List ℕ → Type 0
Begins [] = Unit {0}
Begins (b ∷ text) = is_blank b ≡ false

begins : (text : List ℕ) → Begins (after_blanks text)
begins [] = tt
begins (b ∷ text) =
    elim (cases_Bool (is_blank b)) [
      | inl h ↦ subst Begins (sym (after_blank b text h)) (begins text)
      | inr h ↦ subst Begins (sym (no_blank b text h)) h
    ]

-- the part before the first blank, and the parts after it
record Split (text : List ℕ) (k : ℕ) : Type 0 where
  parts : List (List ℕ)
  is : slice_split is_blank text ≡ take k text ∷ parts
  words : filter is_word parts ≡ words_of (drop k text)

split : (text : List ℕ) → Split text (position_or_len is_blank text)
unfolding words_of
split [] = record { parts = []; is = refl; words = refl }
split (b ∷ text) =
    let k : ℕ = position_or_len is_blank text in
    elim (cases_Bool (is_blank b)) [
      | inl h ↦ let none : position_or_len is_blank (b ∷ text) ≡ 0 = ap (λ (t : Bool). cond (not t) (1 + k) 0) h in
          subst (Split (b ∷ text)) (sym none) (record {
            parts = slice_split is_blank text;
            is = ap (λ (t : Bool). cond t ([] ∷ slice_split is_blank text) (onto_first b (slice_split is_blank text))) h;
            words = sym (words_blank b text h);
          })
      | inr h ↦ let one : 1 + k ≡ suc k = omega arith in
          let more : position_or_len is_blank (b ∷ text) ≡ suc k = ap (λ (t : Bool). cond (not t) (1 + k) 0) h ∙ one in
          let rest : Split text k = split text in
          subst (Split (b ∷ text)) (sym more) (record {
            parts = rest.parts;
            is = ap (λ (t : Bool). cond t ([] ∷ slice_split is_blank text) (onto_first b (slice_split is_blank text))) h ∙ ap (onto_first b) rest.is;
            words = rest.words;
          })
    ]

no_words : (text : List ℕ) → Begins text → length (take (position_or_len is_blank text) text) ≡ 0 → words_of text ≡ []
unfolding words_of
no_words text h h2 = grind arith

one_word : (text : List ℕ) → 0 < length (take (position_or_len is_blank text) text) → words_of text ≡ take (position_or_len is_blank text) text ∷ words_of (drop (position_or_len is_blank text) text)
unfolding words_of
one_word text some =
    let s = split text in
    let word : List ℕ = take (position_or_len is_blank text) text in
    let there : eqb (length word) 0 ≡ false = ne_eqb (length word) 0 (λ e. omega arith) in
    ap (filter is_word) s.is ∙ ap (λ (t : Bool). cond (not t) (word ∷ filter is_word s.parts) (filter is_word s.parts)) there ∙ ap (λ (l : List (List ℕ)). word ∷ l) s.words

-- a text without its first blanks, cut after its first word
pub first_none : (text bare : List ℕ) (end : ℕ) → bare ≡ without_blanks_before text → end ≡ length (before_first is_blank bare) → length (take end bare) ≡ 0 → words_of text ≡ []
unfolding without_blanks_before
first_none text bare end is at none =
    let stands : end ≡ position_or_len is_blank bare = at ∙ length-prefix_len (λ (b : ℕ). not (is_blank b)) bare in
    sym (words_after_blanks text) ∙ ap words_of (sym is) ∙ no_words bare (subst Begins (sym is) (begins text)) (subst (λ (n : ℕ). length (take n bare) ≡ 0) stands none)

pub first_some : (text bare : List ℕ) (end : ℕ) → bare ≡ without_blanks_before text → end ≡ length (before_first is_blank bare) → 0 < length (take end bare) →
    words_of text ≡ take end bare ∷ words_of (take (length bare - end) (drop end bare))
unfolding without_blanks_before
first_some text bare end is at some =
    let stands : end ≡ position_or_len is_blank bare = at ∙ length-prefix_len (λ (b : ℕ). not (is_blank b)) bare in
    let words : words_of bare ≡ take end bare ∷ words_of (drop end bare) = rw stands (one_word bare (subst (λ (n : ℕ). 0 < length (take n bare)) stands some)) in
    sym (words_after_blanks text) ∙ ap words_of (sym is) ∙ words ∙ ap (λ (l : List ℕ). take end bare ∷ words_of l) (sym (take_rest bare end))

-- what follows the first word is shorter than the text
pub rest_shorter : (text bare : List ℕ) (end : ℕ) → bare ≡ without_blanks_before text → 0 < length (take end bare) → length (take (length bare - end) (drop end bare)) < length text
unfolding without_blanks_before
rest_shorter text bare end is some = grind (arith, length-drop, length-take)
