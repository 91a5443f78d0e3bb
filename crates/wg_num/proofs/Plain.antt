-- Lines of bytes that are no control characters: digits, letters and what stands between them.
use Rattle.std.proofs.Common.{ℕ, zero, suc, ◌≡◌, ◌+◌, ◌<◌, ◌≤◌, ◌^◌, ◌/◌, ◌%◌, leb, true, List, [], ◌∷◌, ◌++◌, subst, arith, leb-true}
use Rattle.std.specs.Fmt.{decimal}
use Rattle.std.specs.List.{All, list_all}
use Rattle.std.proofs.lemmas.Bool.{cases_lt, ne_eqb, and_parts}
use Rattle.std.proofs.lemmas.Fmt.{decimal_is_IsNumeral}
use Rattle.std.proofs.lemmas.List.{get_or_past, get_or_default}
use Rattle.std.proofs.lemmas.List.Elements.{All-cons, All-weaker}
use Rattle.std.proofs.lemmas.Str.Parse.{digit_at}
use Rattle.wg_num.specs.Lines.{lines_of}
use Rattle.wg_num.specs.declared.units.TheConstants.{UNITS}
use Rattle.wg_num.specs.Units.{last_digits, text_of_units}
use Rattle.wg_num.proofs.Cuts.{line_with_end}

abbrev pub IsPlain : List ℕ → Type 0
IsPlain text = All (λ b. 32 ≤ b) text

pub line_read : (line rest : List ℕ) → IsPlain line → lines_of (line ++ 10 ∷ rest) ≡ line ∷ lines_of rest
line_read line rest plain = grind (arith, ne_eqb, All-weaker, line_with_end, get_or_past, cases_lt)

-- ---- what is such a text

pub word_plain : (word : List ℕ) → list_all (λ b. leb 32 b) word ≡ true → IsPlain word
word_plain [] e = λ i d lt. absurd (omega arith)
word_plain (b ∷ bs) e =
    let p = and_parts (leb 32 b) (list_all (λ b. leb 32 b) bs) e in
    All-cons (λ b. 32 ≤ b) b bs (leb-true 32 b p.0) (word_plain bs p.1)

pub digits_high : (n : ℕ) → n < 2 ^ 64 → All (λ b. 48 ≤ b) (decimal n)
digits_high n small i d lt =
    let at = digit_at (decimal n) i (decimal_is_IsNumeral n small).0.1 lt in
    subst (λ (b : ℕ). 48 ≤ b) (get_or_default (decimal n) i 0 d lt) at.0

pub decimal_plain : (n : ℕ) → n < 2 ^ 64 → IsPlain (decimal n)
decimal_plain n small = All-weaker (λ b. 48 ≤ b) (λ b. 32 ≤ b) (λ b h. omega arith) (decimal n) (digits_high n small)

last_plain : (k v : ℕ) → IsPlain (last_digits k v)
last_plain zero v = λ i d lt. absurd (omega arith)
last_plain (suc k) v = All-cons (λ b. 32 ≤ b) (48 + v / 10 ^ k % 10) (last_digits k v) (omega arith) (last_plain k v)

pub units_plain : (v : ℕ) → IsPlain (text_of_units v)
unfolding text_of_units
units_plain v =
    All-cons (λ b. 32 ≤ b) (48 + v / UNITS) (46 ∷ last_digits 24 v) (omega arith)
    (All-cons (λ b. 32 ≤ b) 46 (last_digits 24 v) (omega arith) (last_plain 24 v))
