-- Units from the digits of their text.
use Rattle.std.proofs.Common.{ℕ, zero, suc, ◌≡◌, ◌+◌, ◌*◌, ◌/◌, ◌%◌, ◌^◌, ◌<◌, ◌≤◌, leb, List, [], ◌∷◌, ◌++◌, length, get_or, take, drop, Option, Some, None, refl, ap, sym, ◌∙◌, subst, arith, leb-true}
use Rattle.std.specs.Str.{bytes_eq}
use Rattle.std.proofs.Math.Nat.{div-add-mod, pow-zero, pow-succ'}
use Rattle.std.proofs.lemmas.Nat.{div-mul-add}
use Rattle.std.proofs.lemmas.List.{drop-drop, take-append-drop, length-drop}
use Rattle.std.proofs.lemmas.Int.Digits.{digits_value-lt}
use Rattle.std.proofs.lemmas.Str.Parse.{digit_from_value}
use Rattle.std.proofs.lemmas.Bool.{and_parts}
use Rattle.std.proofs.lemmas.Option.{cond_some}
use Rattle.std.proofs.lemmas.Slice.Eq.{bytes_eq-Decides}
use Rattle.std.specs.Char.{digit_value}
use Rattle.std.specs.Str.Parse.{AllDigits, digits_value_after, digits_value}
use Rattle.std.proofs.lemmas.Str.{digit_value_digit}
use Rattle.wg_num.specs.declared.units.TheConstants.{UNITS}
use Rattle.wg_num.specs.Units.{last_digits, text_of_units, value_of_units, units_of}
use Rattle.wg_num.proofs.UnitsLemmas.{div_next, last_after}

-- one digit more
digit_next : (v k : ℕ) → v / 10 ^ suc k * 10 + v / 10 ^ k % 10 ≡ v / 10 ^ k
digit_next v k = ap (λ x. x * 10 + v / 10 ^ k % 10) (sym (div_next v k)) ∙ omega (arith, div-add-mod (v / 10 ^ k) 10)

-- ---- the definition gives the number that the text is of

-- a digit writes its value
digit_read : (d : ℕ) → d < 10 → digit_value (48 + d) ≡ d
digit_read d h = omega (arith, digit_value_digit (48 + d) (omega arith, omega arith))

digits_of_last : (k v : ℕ) → digits_value_after 10 (v / 10 ^ k) (last_digits k v) ≡ v
digits_of_last zero v = rw (pow-zero 10) (omega arith)
digits_of_last (suc k) v =
    let e : v / 10 ^ suc k * 10 + digit_value (48 + v / 10 ^ k % 10) ≡ v / 10 ^ k = omega (arith, digit_next v k, digit_read (v / 10 ^ k % 10) (omega arith)) in
    ap (λ x. digits_value_after 10 x (last_digits k v)) e ∙ digits_of_last k v

pub value_of_text : (v : ℕ) → v ≤ UNITS → value_of_units (text_of_units v) ≡ v
unfolding text_of_units
value_of_text v h =
    let e : 0 * 10 + digit_value (48 + v / UNITS) ≡ v / UNITS = omega (arith, digit_read (v / UNITS) (omega arith)) in
    ap (λ x. digits_value_after 10 x (last_digits 24 v)) e ∙ digits_of_last 24 v

pub units_of-text : (v : ℕ) → v ≤ UNITS → units_of (text_of_units v) ≡ Some v
unfolding units_of
units_of-text v h = grind (arith, bytes_eq-Decides, value_of_text)

text-units_of : (text : List ℕ) (v : ℕ) → units_of text ≡ Some v → (v ≤ UNITS) × (text ≡ text_of_units v)
unfolding units_of
text-units_of text v e =
    let k = cond_some _ _ _ e in
    let b = and_parts (leb (value_of_units text) UNITS) (bytes_eq (text_of_units (value_of_units text)) text) k.0 in
    (omega (arith, k.1, leb-true _ _ b.0), sym ((bytes_eq-Decides _ _).0 b.1) ∙ ap text_of_units k.1)

pub units_unless : (text : List ℕ) → ((v : ℕ) → v ≤ UNITS → text ≡ text_of_units v → ⊥) → units_of text ≡ None
units_unless text h = at (units_of text) refl
  where
    at : (r : Option ℕ) → units_of text ≡ r → units_of text ≡ None
    at None e = e
    at (Some v) e = let k = text-units_of text v e in absurd (h v k.0 k.1)

pub units_exact : (text : List ℕ) (r : Option ℕ) → r ≡ units_of text → (v : ℕ) → v ≤ UNITS → text ≡ text_of_units v → r ≡ Some v
units_exact text r e v h is = e ∙ ap units_of is ∙ units_of-text v h

-- a text has 26 bytes
last_length : (k v : ℕ) → length (last_digits k v) ≡ k
last_length zero v = refl
last_length (suc k) v = omega (arith, last_length k v)

pub text_length : (v : ℕ) → length (text_of_units v) ≡ 26
unfolding text_of_units
text_length v = omega (arith, last_length 24 v)

-- ---- digits, and what they write

-- digits after a number
value_after : (n : ℕ) (ds : List ℕ) → digits_value_after 10 n ds ≡ n * 10 ^ length ds + digits_value 10 ds
value_after n [] = omega (arith, ap (λ p. n * p) (pow-zero 10))
value_after n (c ∷ cs) =
    omega (arith, value_after (n * 10 + digit_value c) cs, value_after (0 * 10 + digit_value c) cs, ap (λ p. n * p) (pow-succ' 10 (length cs)))

after_append : (n : ℕ) (xs ys : List ℕ) → digits_value_after 10 n (xs ++ ys) ≡ digits_value_after 10 (digits_value_after 10 n xs) ys
after_append n [] ys = refl
after_append n (x ∷ xs) ys = after_append (n * 10 + digit_value x) xs ys

pub value_append : (xs ys : List ℕ) → digits_value 10 (xs ++ ys) ≡ digits_value 10 xs * 10 ^ length ys + digits_value 10 ys
value_append xs ys = after_append 0 xs ys ∙ value_after (digits_value 10 xs) ys

pub digits_append : (xs ys : List ℕ) → AllDigits 10 xs → AllDigits 10 ys → AllDigits 10 (xs ++ ys)
digits_append [] ys p q = q
digits_append (x ∷ xs) ys p q = (p.0, digits_append xs ys p.1 q)

pub digits_parts : (xs ys : List ℕ) → AllDigits 10 (xs ++ ys) → AllDigits 10 xs × AllDigits 10 ys
digits_parts [] ys p = (tt, p)
digits_parts (x ∷ xs) ys p = let r = digits_parts xs ys p.1 in ((p.0, r.0), r.1)

pub few_digits : (k : ℕ) (ds : List ℕ) → length ds ≡ k → AllDigits 10 ds → digits_value 10 ds < 10 ^ k
few_digits k ds n p = subst (λ m. digits_value 10 ds < 10 ^ m) n (digits_value-lt 10 ds p)

-- digits are the last ones of what they write
pub digits_last : (k : ℕ) (ds : List ℕ) → length ds ≡ k → AllDigits 10 ds → last_digits k (digits_value 10 ds) ≡ ds
digits_last zero [] e p = refl
digits_last zero (c ∷ cs) e p = absurd (omega (arith, e))
digits_last (suc k) [] e p = absurd (omega (arith, e))
digits_last (suc k) (c ∷ cs) e p =
    let n : length cs ≡ k = omega (arith, e) in
    let small : digits_value 10 cs < 10 ^ k = few_digits k cs n p.1 in
    let value : digits_value 10 (c ∷ cs) ≡ digit_value c * 10 ^ k + digits_value 10 cs =
    subst (λ m. digits_value 10 (c ∷ cs) ≡ digit_value c * 10 ^ m + digits_value 10 cs) n (value_append (c ∷ []) cs ∙ omega arith) in
    let quotient : digits_value 10 (c ∷ cs) / 10 ^ k ≡ digit_value c = ap (λ x. x / 10 ^ k) value ∙ div-mul-add (digit_value c) (10 ^ k) (digits_value 10 cs) small in
    let range = digit_from_value c p.0 in
    let head : 48 + digits_value 10 (c ∷ cs) / 10 ^ k % 10 ≡ c = omega (arith, quotient, p.0, digit_value_digit c range, range.0, range.1) in
    λ i. head i ∷ (ap (last_digits k) value ∙ last_after k (digit_value c) (digits_value 10 cs) ∙ digits_last k cs n p.1) i

-- 25 digits with a point after the first are the text of the units that they write
pub text_read : (text : List ℕ) (v : ℕ) → length text ≡ 26 → get_or text 1 0 ≡ 46 → AllDigits 10 (take 1 text ++ drop 2 text) → v ≡ value_of_units text
    → text ≡ text_of_units v
unfolding text_of_units
text_read [] v n point p e = absurd (omega (arith, n))
text_read (x ∷ []) v n point p e = absurd (omega (arith, n))
text_read (x ∷ y ∷ rest) v n point p e =
    let last : last_digits 25 v ≡ x ∷ rest = ap (last_digits 25) e ∙ digits_last 25 (x ∷ rest) (omega (arith, n)) p in
    let small : v < 10 ^ 25 = omega (arith, e, few_digits 25 (x ∷ rest) (omega (arith, n)) p) in
    let head : x ≡ 48 + v / UNITS = omega (arith, ap (λ l. get_or l 0 0) last, small) in
    λ i. head i ∷ point i ∷ ap (drop 1) (sym last) i

last_all : (k v : ℕ) → AllDigits 10 (last_digits k v)
last_all zero v = tt
last_all (suc k) v = (omega (arith, digit_read (v / 10 ^ k % 10) (omega arith)), last_all k v)

-- the text of units is such digits
pub text_digits : (text : List ℕ) (v : ℕ) → v ≤ UNITS → text ≡ text_of_units v → AllDigits 10 (take 1 text ++ drop 2 text)
unfolding text_of_units
text_digits text v h is =
    subst (λ t. AllDigits 10 (take 1 t ++ drop 2 t)) (sym is) (omega (arith, digit_read (v / UNITS) (omega arith)), last_all 24 v)

pub text_point : (text : List ℕ) (v : ℕ) → text ≡ text_of_units v → get_or text 1 0 ≡ 46
unfolding text_of_units
text_point text v is = ap (λ t. get_or t 1 0) is

-- the digits after the point, in two halves
halves : (text : List ℕ) → take 12 (drop 2 text) ++ drop 14 text ≡ drop 2 text
halves text = ap (λ l. take 12 (drop 2 text) ++ l) (sym (drop-drop 12 2 text)) ∙ take-append-drop 12 (drop 2 text)

pub halves_value : (text : List ℕ) → length text ≡ 26
    → value_of_units text ≡ (digits_value 10 (take 1 text) * 10 ^ 12 + digits_value 10 (take 12 (drop 2 text))) * 10 ^ 12 + digits_value 10 (drop 14 text)
halves_value text n =
    let low : length (drop 14 text) ≡ 12 = omega (arith, length-drop 14 text, n) in
    let rest : length (drop 2 text) ≡ 24 = omega (arith, length-drop 2 text, n) in
    omega (
      arith,
      value_append (take 1 text) (drop 2 text),
      ap (λ l. digits_value 10 l) (sym (halves text)),
      value_append (take 12 (drop 2 text)) (drop 14 text),
      ap (λ m. digits_value 10 (take 1 text) * 10 ^ m) rest,
      ap (λ m. digits_value 10 (take 12 (drop 2 text)) * 10 ^ m) low,
    )

pub halves_digits : (text : List ℕ) → AllDigits 10 (take 1 text) → AllDigits 10 (take 12 (drop 2 text)) → AllDigits 10 (drop 14 text)
    → AllDigits 10 (take 1 text ++ drop 2 text)
halves_digits text w h l = grind (arith, digits_append, halves)

-- each part of such digits is digits
pub part_digits : (text : List ℕ) → AllDigits 10 (take 1 text ++ drop 2 text)
    → AllDigits 10 (take 1 text) × AllDigits 10 (take 12 (drop 2 text)) × AllDigits 10 (drop 14 text)
part_digits text p = grind (arith, digits_parts, halves)
