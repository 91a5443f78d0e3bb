-- Lines of letters and values, and what is read of them.
use Rattle.std.proofs.Common.{◌≡◌, ℕ, ◌-◌, ◌<◌, ◌≤◌, Bool, true, false, not, ◌&&◌, eqb, leb, List, [], ◌∷◌, ◌++◌, length, take, get_or, reverse, refl, sym, ap, ◌∙◌, arith}
use Rattle.std.specs.List.{list_all, prefix_len}
use Rattle.std.specs.Str.Lines.{strip_carriage_return}
use Rattle.std.proofs.lemmas.Bool.{cases_lt, and_parts, and_from, and_right, leb-true, le-leb, not-true, ne_eqb}
use Rattle.std.proofs.lemmas.List.{take_all, get_or_past}
use Rattle.std.proofs.lemmas.List.Sums.{AllPass-from_list_all, suffix_len-take_no}
use Rattle.wg_num.specs.Lines.{is_blank, without_blanks_before, without_blanks_after}
use Rattle.wg_properties.specs.Pairs.{is_continued}

-- ---- tests of all bytes

pub every_append : (p : ℕ → Bool) (xs ys : List ℕ) → list_all p xs ≡ true → list_all p ys ≡ true → list_all p (xs ++ ys) ≡ true
every_append p [] ys h k = k
every_append p (x ∷ xs) ys h k = let parts = and_parts (p x) (list_all p xs) h in and_from (p x) (list_all p (xs ++ ys)) parts.0 (every_append p xs ys parts.1 k)

pub every_at : (p : ℕ → Bool) (xs : List ℕ) (i : ℕ) → list_all p xs ≡ true → i < length xs → p (get_or xs i 0) ≡ true
every_at p xs i h lt = AllPass-from_list_all p xs h i 0 lt

pub every_more : (p q : ℕ → Bool) → ((b : ℕ) → p b ≡ true → q b ≡ true) → (xs : List ℕ) → list_all p xs ≡ true → list_all q xs ≡ true
every_more p q h [] k = refl
every_more p q h (x ∷ xs) k = let parts = and_parts (p x) (list_all p xs) k in and_from (q x) (list_all q xs) (h x parts.0) (every_more p q h xs parts.1)

-- a byte that is no line's end, no CR and no backslash
abbrev pub is_plain : ℕ → Bool
is_plain b = leb 14 b && not (eqb b 92)

abbrev pub is_letter : ℕ → Bool
is_letter b = leb 97 b && leb b 122

pub letter_low : (b : ℕ) → is_letter b ≡ true → 97 ≤ b
letter_low b h = leb-true 97 b (and_parts (leb 97 b) (leb b 122) h).0

pub letter_plain : (b : ℕ) → is_letter b ≡ true → is_plain b ≡ true
letter_plain b h = let low = letter_low b h in and_from _ _ (let e : leb 14 b ≡ true = le-leb 14 b (omega arith) in e) (ap not (ne_eqb b 92 (λ e. omega arith)))

-- ---- blanks round a value

pub blank_free_before : (v : List ℕ) → is_blank (get_or v 0 0) ≡ false → without_blanks_before v ≡ v
unfolding without_blanks_before
blank_free_before v h = grind arith

pub blank_free_after : (v : List ℕ) → is_blank (get_or v (length v - 1) 0) ≡ false → without_blanks_after v ≡ v
unfolding without_blanks_after
blank_free_after [] h = refl
blank_free_after (b ∷ bs) h =
    let v : List ℕ = b ∷ bs in
    let n : ℕ = length v in
    let none : prefix_len is_blank (reverse v) ≡ 0 = ap (λ xs. prefix_len is_blank (reverse xs)) (sym (take_all n v (omega arith))) ∙ suffix_len-take_no is_blank v n 0 (omega arith) (omega arith) h in
    ap (λ k. take (n - k) v) (ap (λ k. length (take k (reverse v))) none) ∙ take_all (n - 0) v (omega arith)

-- a value as it is written: plain bytes, and no blank at its ends
pub record IsValue (v : List ℕ) : Type 0 where
  pub plain : list_all is_plain v ≡ true
  pub first : is_blank (get_or v 0 0) ≡ false
  pub last : is_blank (get_or v (length v - 1) 0) ≡ false

-- ---- a line of a key and a value

at_end : (p : ℕ → Bool) (line : List ℕ) → list_all is_plain line ≡ true → p 0 ≡ false → ((b : ℕ) → is_plain b ≡ true → p b ≡ false) → p (get_or line (length line - 1) 0) ≡ false
at_end p line h none fails = grind (arith, cases_lt, get_or_past, every_at, is_plain)

pub plain_parts : (b : ℕ) → is_plain b ≡ true → (14 ≤ b) × (eqb b 92 ≡ false)
plain_parts b h = let parts = and_parts (leb 14 b) (not (eqb b 92)) h in (leb-true 14 b parts.0, not-true (eqb b 92) parts.1)

pub no_return : (line : List ℕ) → list_all is_plain line ≡ true → strip_carriage_return line ≡ line
no_return line h = rw (at_end (λ b. eqb b 13) line h refl (λ b k. let parts = plain_parts b k in ne_eqb b 13 (λ e. omega (arith, parts.0)))) refl

pub not_continued : (line : List ℕ) → list_all is_plain line ≡ true → is_continued line ≡ false
unfolding is_continued
not_continued line h = and_right _ _ (at_end (λ b. eqb b 92) line h refl (λ b k. (plain_parts b k).1))

-- ---- lines, one after the other
