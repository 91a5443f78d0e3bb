-- Numbers that are written in whole pieces.
use Rattle.std.proofs.Common.{◌≡◌, ℕ, zero, suc, ◌+◌, ◌≤◌, List, [], ◌∷◌, ◌++◌, length, take, slice_set, refl, sym, ap, ◌∙◌, arith}
use Rattle.std.specs.List.{range_with_len}
use Rattle.std.proofs.lemmas.List.{append_assoc, length-take-le, take-take, take_more_set}
use Rattle.std.proofs.Math.Seq.{take-append-add}

-- ---- the front of what was written

pub front : (old to xs : List ℕ) (at done count : ℕ) → at ≤ length old → count ≤ done → take (at + done) to ≡ take at old ++ xs → take (at + count) to ≡ take at old ++ take count xs
front old to xs at done count fits le h =
    let long : at ≡ length (take at old) = sym (length-take-le at old fits) in
    let less : at + count ≤ at + done = omega (arith, le) in
    sym (take-take (at + count) (at + done) to less) ∙ ap (λ (l : List ℕ). take (at + count) l) h ∙ ap (λ (k : ℕ). take (k + count) (take at old ++ xs)) long ∙ take-append-add (take at old) xs count

-- ---- copies

pub copied_all : (old from to : List ℕ) (at done count : ℕ) → at ≤ length old → count ≤ done → take (at + done) to ≡ take at old ++ take done from → take (at + count) to ≡ take at old ++ take count from
copied_all old from to at done count fits le h = front old to (take done from) at done count fits le h ∙ ap (λ (l : List ℕ). take at old ++ l) (take-take count done from le)

-- ---- runs

range_both : (m n l : ℕ) → range_with_len l m ++ range_with_len (l + m) n ≡ range_with_len l (m + n)
range_both zero n l =
    let same : l + 0 ≡ l = omega arith in
    let count : n ≡ 0 + n = omega arith in
    ap (λ (k : ℕ). range_with_len k n) same ∙ ap (λ (k : ℕ). range_with_len l k) count
range_both (suc m) n l =
    let place : l + suc m ≡ l + 1 + m = omega arith in
    let count : suc (m + n) ≡ suc m + n = omega arith in
    ap (λ (r : List ℕ). l ∷ r) (ap (λ (k : ℕ). range_with_len (l + 1) m ++ range_with_len k n) place ∙ range_both m n (l + 1)) ∙ ap (λ (k : ℕ). range_with_len l k) count

take-range : (count done l : ℕ) → count ≤ done → take count (range_with_len l done) ≡ range_with_len l count
take-range zero done l le = refl
take-range (suc count) zero l le = let none : ⊥ = omega (arith, le) in absurd none
take-range (suc count) (suc done) l le = ap (λ (r : List ℕ). l ∷ r) (take-range count done (l + 1) (omega (arith, le)))

pub number_written : (old to : List ℕ) (at first i : ℕ) → at + i ≤ length to → take (at + i) to ≡ take at old ++ range_with_len first i → at + i + 1 ≤ length to → take (at + (i + 1)) (slice_set to (at + i) (first + i)) ≡ take at old ++ range_with_len first (i + 1)
number_written old to at first i fits before room =
    let place : at + (i + 1) ≡ at + i + 1 = omega arith in
    ap (λ (k : ℕ). take k (slice_set to (at + i) (first + i))) place ∙ take_more_set to (at + i) (first + i) (omega (arith, room)) ∙ ap (λ (l : List ℕ). l ++ (first + i) ∷ []) before ∙ append_assoc (take at old) (range_with_len first i) ((first + i) ∷ []) ∙ ap (λ (l : List ℕ). take at old ++ l) (range_both i 1 first)

pub written_on : (old to now : List ℕ) (at first done n : ℕ) → take (at + done) to ≡ take at old ++ range_with_len first done → take (at + done + n) now ≡ take (at + done) to ++ range_with_len (first + done) n → take (at + (done + n)) now ≡ take at old ++ range_with_len first (done + n)
written_on old to now at first done n before put =
    let place : at + (done + n) ≡ at + done + n = omega arith in
    ap (λ (k : ℕ). take k now) place ∙ put ∙ ap (λ (l : List ℕ). l ++ range_with_len (first + done) n) before ∙ append_assoc (take at old) (range_with_len first done) (range_with_len (first + done) n) ∙ ap (λ (l : List ℕ). take at old ++ l) (range_both done n first)

pub written_all : (old to : List ℕ) (at first done count : ℕ) → at ≤ length old → count ≤ done → take (at + done) to ≡ take at old ++ range_with_len first done → take (at + count) to ≡ take at old ++ range_with_len first count
written_all old to at first done count fits le h = front old to (range_with_len first done) at done count fits le h ∙ ap (λ (l : List ℕ). take at old ++ l) (take-range count done first le)
