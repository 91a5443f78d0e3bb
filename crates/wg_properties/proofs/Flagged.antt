-- Flags that are written one by one.
use Rattle.std.proofs.Common.{◌≡◌, ℕ, ◌+◌, ◌<◌, ◌≤◌, Bool, true, false, cond, List, [], ◌∷◌, ◌++◌, length, take, get_or, map, refl, sym, ap, ◌∙◌}
use Rattle.std.specs.Prelude.{filter}
use Rattle.std.proofs.lemmas.List.{take_all, append_assoc, append-nil, map_push}
use Rattle.std.proofs.lemmas.List.Elements.{filter_more}
use Rattle.wg_params.specs.Parameters.{Parameters}
use Rattle.wg_properties.specs.Words.{Flag, word_of}
use Rattle.wg_properties.specs.declared.flags.TheConstants.{FLAGS}
use Rattle.wg_properties.specs.Text.{is_written, joined_by_bars, flags_text}

abbrev pub is_nil : {X : Type 0} → List X → Bool
is_nil [] = true
is_nil (x ∷ xs) = false

-- one word more
joined_push : (words : List (List ℕ)) (word : List ℕ) → joined_by_bars (words ++ word ∷ []) ≡ joined_by_bars words ++ cond (is_nil words) word (32 ∷ 124 ∷ 32 ∷ word)
joined_push [] word = refl
joined_push (first ∷ []) word = refl
joined_push (first ∷ next ∷ words) word = rw (joined_push (next ∷ words) word) (sym (append_assoc first (32 ∷ 124 ∷ 32 ∷ joined_by_bars (next ∷ words)) (32 ∷ 124 ∷ 32 ∷ word)))

push_some : (words : List (List ℕ)) (word : List ℕ) → is_nil (words ++ word ∷ []) ≡ false
push_some [] word = refl
push_some (first ∷ words) word = refl

-- the words of the first i flags, as far as they are written
abbrev pub written_words : Parameters → ℕ → List (List ℕ)
written_words p i = map word_of (filter (is_written p) (take i FLAGS))

-- i flags are behind
pub record Flagged (before : List ℕ) (p : Parameters) (i : ℕ) (is_first : Bool) (text : List ℕ) : Type 0 where
  pub written : text ≡ before ++ joined_by_bars (written_words p i)
  pub first_is : is_first ≡ is_nil (written_words p i)

next_words : (p : Parameters) (i : ℕ) (d : Flag) (b : Bool) → i < length FLAGS → is_written p (get_or FLAGS i d) ≡ b
    → written_words p (i + 1) ≡ written_words p i ++ cond b (word_of (get_or FLAGS i d) ∷ []) []
next_words p i d true lt is = let more = filter_more (is_written p) FLAGS i d lt in rw (more, is, map_push)
next_words p i d false lt is = let more = filter_more (is_written p) FLAGS i d lt in rw (more, is) (simp append-nil)

pub absent : (before : List ℕ) (p : Parameters) (i : ℕ) (is_first : Bool) (d : Flag) (text : List ℕ) → i < length FLAGS → is_written p (get_or FLAGS i d) ≡ false
    → Flagged before p i is_first text → Flagged before p (i + 1) is_first text
absent before p i is_first d text lt is f =
    let same : written_words p i ≡ written_words p (i + 1) = sym (next_words p i d false lt is ∙ append-nil (written_words p i)) in record {
      written = f.written ∙ ap (λ ws. before ++ joined_by_bars ws) same;
      first_is = f.first_is ∙ ap is_nil same;
    }

pub there : (before : List ℕ) (p : Parameters) (i : ℕ) (is_first : Bool) (d : Flag) (text new : List ℕ) → i < length FLAGS → is_written p (get_or FLAGS i d) ≡ true → Flagged before p i is_first text
    → new ≡ text ++ cond is_first (word_of (get_or FLAGS i d)) (32 ∷ 124 ∷ 32 ∷ word_of (get_or FLAGS i d)) → Flagged before p (i + 1) false new
there before p i is_first d text new lt is f added =
    let old : List (List ℕ) = written_words p i in
    let word : List ℕ = word_of (get_or FLAGS i d) in
    let piece : List ℕ = 32 ∷ 124 ∷ 32 ∷ word in
    let more : written_words p (i + 1) ≡ old ++ word ∷ [] = next_words p i d true lt is in
    let grown : joined_by_bars old ++ cond is_first word piece ≡ joined_by_bars (written_words p (i + 1)) =
    ap (λ b. joined_by_bars old ++ cond b word piece) f.first_is ∙ sym (ap joined_by_bars more ∙ joined_push old word) in
    record {
      written = added ∙ ap (λ t. t ++ cond is_first word piece) f.written ∙ append_assoc before (joined_by_bars old) (cond is_first word piece) ∙ ap (λ t. before ++ t) grown;
      first_is = sym (ap is_nil more ∙ push_some old word);
    }

pub all_flagged : (before : List ℕ) (p : Parameters) (i : ℕ) (is_first : Bool) (text : List ℕ) → length FLAGS ≤ i → Flagged before p i is_first text → text ≡ before ++ flags_text p
all_flagged before p i is_first text end f = f.written ∙ ap (λ fs. before ++ joined_by_bars (map word_of (filter (is_written p) fs))) (take_all i FLAGS end)

pub begun : (text : List ℕ) (p : Parameters) → Flagged text p 0 true text
begun text p = record { written = sym (append-nil text); first_is = refl }

pub same_at : (before : List ℕ) (p : Parameters) (i : ℕ) (a b : Bool) (text new : List ℕ) → a ≡ b → text ≡ new → Flagged before p i b new → Flagged before p i a text
same_at before p i a b text new kind same f = record { written = same ∙ f.written; first_is = kind ∙ f.first_is }
