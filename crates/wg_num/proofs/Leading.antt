-- The digits at the front of a text.
use Rattle.std.proofs.Common.{◌≡◌, ℕ, ◌^◌, ◌<◌, ◌≤◌, true, false, ◌&&◌, List, length, get_or, take, min, Some, None, ap, sym, ◌∙◌, arith, le-leb}
use Rattle.std.specs.Char.{is_ascii_digit}
use Rattle.std.specs.Fmt.{decimal}
use Rattle.std.specs.Option.{option_map}
use Rattle.std.specs.Str.Parse.{AllDigits}
use Rattle.std.proofs.lemmas.List.{length-take, length-take-le, get_or-take, take-take}
use Rattle.std.proofs.lemmas.List.Sums.{prefix_len_is}
use Rattle.std.proofs.lemmas.Str.Parse.{digit_at}
use Rattle.wg_num.specs.Decimal.{number_of, leading_digits, leading_number}
use Rattle.wg_num.proofs.Numbers.{number_of-decimal}

-- the bytes before an index are digits, and no more are taken
pub leading_are : (text : List ℕ) (count most : ℕ) → most ≡ min (length text) 15 → count ≤ most → AllDigits 10 (take count text)
    → (count < most → is_ascii_digit (get_or text count 0) ≡ false) → leading_digits text ≡ take count text
leading_are text count most e within digits ended =
    let size : length (take 15 text) ≡ most = omega (arith, length-take 15 text, e) in
    let all : (k : ℕ) → k < count → is_ascii_digit (get_or (take 15 text) k 0) ≡ true = λ k h.
    let r = digit_at (take count text) k digits (omega (arith, length-take-le count text (omega (arith, e)))) in
    let s = rw (get_or-take count text k 0 h) at r in
    rw (get_or-take 15 text k 0 (omega arith)) ((λ i. le-leb 48 _ s.0 i && le-leb _ 57 s.1 i)) in
    let stop : count < length (take 15 text) → is_ascii_digit (get_or (take 15 text) count 0) ≡ false = λ h.
    rw (get_or-take 15 text count 0 (omega (arith, size, e))) (ended (omega (arith, size))) in
    ap (λ n. take n (take 15 text)) (prefix_len_is is_ascii_digit (take 15 text) count 0 (omega (arith, size)) all stop)
    ∙ take-take count 15 text (omega (arith, e))

pub leading_some : (text : List ℕ) (v count : ℕ) → count ≤ length text → leading_digits text ≡ take count text → take count text ≡ decimal v → v < 2 ^ 64
    → Some (v, count) ≡ leading_number text
unfolding leading_number
leading_some text v count there are is small = grind (arith, length-take-le, number_of-decimal)

pub leading_none : (text digits : List ℕ) → leading_digits text ≡ digits → number_of digits ≡ None → None ≡ leading_number text
unfolding leading_number
leading_none text digits are none = sym (ap (option_map (λ n. (n, length (leading_digits text)))) (ap number_of are ∙ none))
