-- Lines that were written, read again.
use Rattle.std.proofs.Common.{◌≡◌, ℕ, ◌+◌, ◌<◌, true, false, not, cond, eqb, List, [], ◌∷◌, ◌++◌, length, take, get_or, map, refl, sym, ap, ◌∙◌, length-append, arith}
use Rattle.std.specs.Prelude.{Some, None, filter, All}
use Rattle.std.specs.List.{list_all, flat_map, slice_split, position_from, position_or_len}
use Rattle.std.specs.Str.Lines.{strip_carriage_return}
use Rattle.std.proofs.lemmas.Bool.{and_parts, ne_eqb, cond-true, cond-false, not_from_false}
use Rattle.std.proofs.lemmas.List.{append_assoc, append-nil, take_at, drop_at}
use Rattle.std.proofs.lemmas.List.Sums.{AllPass-from_list_all}
use Rattle.std.proofs.lemmas.List.Splits.{slice_split_at, slice_split_none}
use Rattle.wg_params.specs.declared.key.Key.{Key}
use Rattle.wg_num.specs.Lines.{lines_of, without_empty_end, is_blank, without_blanks_before}
use Rattle.wg_properties.specs.Pairs.{is_skipped, is_continued, ends_key, key_in, value_in, pairs_of}
use Rattle.wg_properties.specs.Words.{name_of}
use Rattle.wg_properties.specs.Text.{pair, ended}
use Rattle.wg_num.proofs.Cuts.{is_end, not_the_end}
use Rattle.wg_properties.proofs.Letters.{every_append, every_more, is_plain, plain_parts, is_letter, letter_plain, blank_free_before, blank_free_after, IsValue, no_return, not_continued}

-- ---- lines

abbrev pub ArePlain : List (List ℕ) → Type 0
ArePlain [] = Unit {0}
ArePlain (line ∷ lines) = (list_all is_plain line ≡ true) × ArePlain lines

no_end : (line : List ℕ) → list_all is_plain line ≡ true → All (λ b. eqb b 10 ≡ false) line
no_end line h i d lt = let parts = plain_parts (get_or line i d) (AllPass-from_list_all is_plain line h i d lt) in ne_eqb _ 10 (λ e. omega (arith, parts.0))

pub cut_lines : (lines : List (List ℕ)) (part : List ℕ) → ArePlain lines → list_all is_plain part ≡ true → slice_split is_end (flat_map ended lines ++ part) ≡ lines ++ part ∷ []
cut_lines [] part plain last = slice_split_none is_end part (no_end part last)
cut_lines (line ∷ lines) part plain last =
    let after : List ℕ = flat_map ended lines ++ part in
    let whole : flat_map ended (line ∷ lines) ++ part ≡ line ++ 10 ∷ after = append_assoc (ended line) (flat_map ended lines) part ∙ append_assoc line (10 ∷ []) after in
    ap (slice_split is_end) whole ∙ slice_split_at is_end line 10 after (no_end line plain.0) refl ∙ ap (λ ls. line ∷ ls) (cut_lines lines part plain.1 last)

without_end : (lines : List (List ℕ)) → without_empty_end (lines ++ [] ∷ []) ≡ lines
without_end [] = refl
without_end (line ∷ lines) = not_the_end line (lines ++ [] ∷ []) (omega (arith, length-append lines ([] ∷ []))) ∙ ap (λ ls. line ∷ ls) (without_end lines)

pub no_returns : (lines : List (List ℕ)) → ArePlain lines → map strip_carriage_return lines ≡ lines
no_returns [] plain = refl
no_returns (line ∷ lines) plain = (λ i. no_return line plain.0 i ∷ no_returns lines plain.1 i)

pub lines_again : (lines : List (List ℕ)) → ArePlain lines → lines_of (flat_map ended lines) ≡ lines
unfolding lines_of
lines_again lines plain =
    ap (λ parts. map strip_carriage_return (without_empty_end parts)) (ap (slice_split is_end) (sym (append-nil (flat_map ended lines))) ∙ cut_lines lines [] plain refl)
    ∙ ap (map strip_carriage_return) (without_end lines) ∙ no_returns lines plain

-- ---- a key and its value

letter_goes_on : (b : ℕ) → is_letter b ≡ true → ends_key b ≡ false
letter_goes_on b h = grind arith

key_length : (name value : List ℕ) → list_all is_letter name ≡ true → position_or_len ends_key (name ++ 61 ∷ value) ≡ length name
key_length [] value h = refl
key_length (b ∷ bs) value h =
    let parts = and_parts (is_letter b) (list_all is_letter bs) h in
    let rest = key_length bs value parts.1 in
    cond-true (not (ends_key b)) (1 + position_or_len ends_key (bs ++ 61 ∷ value)) 0 (not_from_false _ (letter_goes_on b parts.0)) ∙ omega (arith, rest)

pub key_again : (name value : List ℕ) → list_all is_letter name ≡ true → key_in (name ++ 61 ∷ value) ≡ name
unfolding key_in
key_again name value h = ap (λ n. take n (name ++ 61 ∷ value)) (key_length name value h) ∙ take_at name (61 ∷ value) (length name) refl

pub value_again : (name value : List ℕ) → list_all is_letter name ≡ true → IsValue value → value_in (name ++ 61 ∷ value) ≡ value
unfolding value_in
value_again name value h is = grind (arith, drop_at, blank_free_before, blank_free_after, key_again)

letter_shows : (b : ℕ) (bs : List ℕ) → is_letter b ≡ true → (is_blank b ≡ false) × (is_skipped (b ∷ bs) ≡ false)
letter_shows b bs h = grind arith

pub shows : (name value : List ℕ) → list_all is_letter name ≡ true → 0 < length name → (without_blanks_before (name ++ 61 ∷ value) ≡ name ++ 61 ∷ value) × (is_skipped (name ++ 61 ∷ value) ≡ false)
shows [] value h some = absurd (omega arith)
shows (b ∷ bs) value h some =
    let first = letter_shows b (bs ++ 61 ∷ value) (and_parts (is_letter b) (list_all is_letter bs) h).0 in (blank_free_before (b ∷ bs ++ 61 ∷ value) first.0, first.1)

-- ---- the keys

pub name_letters : (k : Key) → list_all is_letter (name_of k) ≡ true
unfolding name_of
name_letters k = grind arith

pub name_some : (k : Key) → 0 < length (name_of k)
unfolding name_of
name_some k = grind arith

-- ---- lines of keys and values

abbrev pub AreValues : List (Key × List ℕ) → Type 0
AreValues [] = Unit {0}
AreValues (p ∷ ps) = IsValue p.1 × AreValues ps

abbrev pub line_of : Key × List ℕ → List ℕ
line_of p = pair p.0 p.1

pub plain_line : (k : Key) (value : List ℕ) → IsValue value → list_all is_plain (pair k value) ≡ true
plain_line k value is = every_append is_plain (name_of k) (61 ∷ value) (every_more is_letter is_plain letter_plain (name_of k) (name_letters k)) is.plain

pub plain_lines : (ps : List (Key × List ℕ)) → AreValues ps → ArePlain (map line_of ps)
plain_lines [] are = tt
plain_lines (p ∷ ps) are = (plain_line p.0 p.1 are.0, plain_lines ps are.1)

pub none_continued : (n : ℕ) (ps : List (Key × List ℕ)) → AreValues ps → position_from is_continued n (map line_of ps) ≡ None
none_continued n [] are = refl
none_continued n (p ∷ ps) are = cond-false (is_continued (line_of p)) (Some n) (position_from is_continued (n + 1) (map line_of ps)) (not_continued (line_of p) (plain_line p.0 p.1 are.0)) ∙ none_continued (n + 1) ps are.1

abbrev pair_in : List ℕ → List ℕ × List ℕ
pair_in line = (key_in line, value_in line)

pub pairs_again : (ps : List (Key × List ℕ)) → AreValues ps → pairs_of (map line_of ps) ≡ map (λ p. (name_of p.0, p.1)) ps
pairs_again [] are = refl
pairs_again (p ∷ ps) are =
    let line : List ℕ = line_of p in
    let rest : List (List ℕ) = filter (λ l. not (is_skipped l)) (map without_blanks_before (map line_of ps)) in
    let seen = shows (name_of p.0) p.1 (name_letters p.0) (name_some p.0) in
    let kept : filter (λ l. not (is_skipped l)) (map without_blanks_before (line ∷ map line_of ps)) ≡ line ∷ rest =
    ap (λ l. cond (not (is_skipped l)) (l ∷ rest) rest) seen.0 ∙ cond-true (not (is_skipped line)) (line ∷ rest) rest (not_from_false _ seen.1) in
    ap (map pair_in) kept
    ∙ (λ i. (key_again (name_of p.0) p.1 (name_letters p.0) i, value_again (name_of p.0) p.1 (name_letters p.0) are.0 i) ∷ pairs_again ps are.1 i)
