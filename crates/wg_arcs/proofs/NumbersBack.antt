-- The text of numbers is read back.
use Rattle.std.proofs.Common.{◌≡◌, ℕ, ◌^◌, ◌<◌, ◌≤◌, false, List, [], ◌∷◌, map, length, take, get_or, decimal, Some, None, suc, refl, sym, ap, subst, ◌∙◌, arith, append_assoc}
use Rattle.std.specs.List.{All, slice_split}
use Rattle.std.proofs.lemmas.Bool.{ne_eqb}
use Rattle.std.proofs.lemmas.Fmt.{decimal_nonempty}
use Rattle.std.proofs.lemmas.List.{take-map, get_or-map, length-map, length-take-le}
use Rattle.std.proofs.lemmas.List.Elements.{All-weaker, All-take}
use Rattle.std.proofs.lemmas.List.Splits.{slice_split_none}
use Rattle.wg_num.specs.Lines.{lines_of, is_blank}
use Rattle.wg_num.specs.Words.{words_of}
use Rattle.wg_num.proofs.Cuts.{no_lines}
use Rattle.wg_num.proofs.Plain.{line_read, digits_high, decimal_plain}
use Rattle.wg_num.proofs.Numbers.{number_of-decimal}
use Rattle.wg_arcs.specs.Reading.{is_skipped}
use Rattle.wg_arcs.specs.Numbers.{number_in}
use Rattle.wg_arcs.specs.NumberTexts.{text_of_numbers, number_at, numbers_in, number_fault, number_fault_at, AreNumbers}
use Rattle.wg_arcs.specs.Laws.{NumbersReadBack}
use Rattle.wg_arcs.proofs.ReadBack.{not_blank}

-- ---- one line

words_of_number : (v : ℕ) → v < 2 ^ 64 → words_of (decimal v) ≡ decimal v ∷ []
unfolding words_of
words_of_number v small =
    let parts : slice_split is_blank (decimal v) ≡ decimal v ∷ [] = slice_split_none is_blank (decimal v) (All-weaker _ _ not_blank (decimal v) (digits_high v small)) in
    rw (parts, ne_eqb (length (decimal v)) 0 (λ e. omega (arith, decimal_nonempty))) refl

not_skipped : (v : ℕ) → v < 2 ^ 64 → is_skipped (words_of (decimal v)) ≡ false
not_skipped v small = grind (arith, decimal_nonempty, digits_high, words_of_number)

number_in_own : (v : ℕ) → v < 2 ^ 64 → number_in (words_of (decimal v)) ≡ Some v
number_in_own v small = rw (words_of_number v small) (number_of-decimal v small)

number_at_own : (v : ℕ) → v < 2 ^ 64 → number_at (decimal v) ≡ Some v
number_at_own v small = rw (not_skipped v small) (number_in_own v small)

fine_number : (n limit before v : ℕ) → v < 2 ^ 64 → v < limit → before < n → number_fault n limit before (decimal v) ≡ None
fine_number n limit before v small lt room = grind (arith, number_in_own)

-- ---- all lines

abbrev Small : List ℕ → Type 0
Small xs = All (λ v. v < 2 ^ 64) xs

tail_small : (v : ℕ) (xs : List ℕ) → Small (v ∷ xs) → Small xs
tail_small v xs h = λ i d lt. h (suc i) d (omega arith)

lines_back : (xs : List ℕ) → Small xs → lines_of (text_of_numbers xs) ≡ map decimal xs
lines_back [] h = no_lines [] refl
lines_back (v ∷ xs) h =
    ap lines_of (append_assoc (decimal v) _ (text_of_numbers xs))
    ∙ line_read (decimal v) (text_of_numbers xs) (decimal_plain v (h 0 0 (omega arith)))
    ∙ ap (λ (ls : List (List ℕ)). decimal v ∷ ls) (lines_back xs (tail_small v xs h))

numbers_in_own : (xs : List ℕ) → Small xs → numbers_in (map decimal xs) ≡ xs
numbers_in_own [] h = refl
numbers_in_own (v ∷ xs) h =
    rw (number_at_own v (h 0 0 (omega arith))) (ap (λ (l : List ℕ). v ∷ l) (numbers_in_own xs (tail_small v xs h)))

fine_at : (limit : ℕ) (xs : List ℕ) (i : ℕ) → limit ≤ 2 ^ 64 → All (λ v. v < limit) xs → Small xs → i < length xs → number_fault_at (length xs) limit (map decimal xs) i ≡ None
fine_at limit xs i few below small lt =
    let v : ℕ = get_or xs i 0 in
    let low : v < limit = below i 0 lt in
    let line : get_or (map decimal xs) i [] ≡ decimal v = get_or-map decimal xs i 0 [] lt in
    let front : numbers_in (take i (map decimal xs)) ≡ take i xs = ap numbers_in (take-map decimal i xs) ∙ numbers_in_own (take i xs) (All-take (λ v. v < 2 ^ 64) i xs small) in
    let size : length (take i xs) ≡ i = length-take-le i xs (omega arith) in
    ap (λ (l : List ℕ). number_fault (length xs) limit (length (numbers_in (take i (map decimal xs)))) l) line
    ∙ ap (λ (k : ℕ). number_fault (length xs) limit k (decimal v)) (ap length front ∙ size)
    ∙ fine_number (length xs) limit i v (omega arith) low lt

pub numbers_back : NumbersReadBack
numbers_back limit xs few below =
    let small : All (λ v. v < 2 ^ 64) xs = λ i d lt. (let low = below i d lt in omega arith) in
    subst (λ (ls : List (List ℕ)). AreNumbers (length xs) limit ls xs) (sym (lines_back xs small)) (record {
      sound = λ i lt. fine_at limit xs i few below small (omega (arith, length-map xs decimal));
      numbers = sym (numbers_in_own xs small);
      wanted = refl;
    })
