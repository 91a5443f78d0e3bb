-- What fields leave of a room.
use Rattle.std.proofs.Common.{◌≡◌, ℕ, ◌+◌, ◌-◌, Bool, true, false, ◌&&◌, List, [], ◌∷◌, ◌++◌, length, refl, sym, ap, ◌∙◌, arith, length-append, cond}
use Rattle.std.specs.Prelude.{nat_le}
use Rattle.std.proofs.lemmas.List.Concat.{flat_map-append}
use Rattle.std.proofs.lemmas.List.Folds.{list_all-append}
use Rattle.wg_codes.specs.Words.{word, top}
use Rattle.wg_greedy.specs.Fields.{Written, bits_of_fields, all_have_words}
use Rattle.wg_encoder.specs.Cost.{room_after}

-- ---- of bits, which have words or not

abbrev less : ℕ → Bool → ℕ → ℕ
less room words bits = cond words (room - bits) 0

less_both : (room m n : ℕ) (a b : Bool) → less room (a && b) (m + n) ≡ less (less room a m) b n
less_both room m n true true = omega arith
less_both room m n true false = refl
less_both room m n false true = omega arith
less_both room m n false false = refl

less_swapped : (room m n : ℕ) (a b : Bool) → less (less room a m) b n ≡ less (less room b n) a m
less_swapped room m n true true = omega arith
less_swapped room m n true false = omega arith
less_swapped room m n false true = omega arith
less_swapped room m n false false = refl

less_none : (n : ℕ) (b : Bool) → less 0 b n ≡ 0
less_none n true = omega arith
less_none n false = refl

-- ---- of fields

-- those of both leave what the second leave of what the first leave
pub after_both : (room : ℕ) (xs ys : List Written) → room_after room (xs ++ ys) ≡ room_after (room_after room xs) ys
after_both room xs ys =
    let words : all_have_words (xs ++ ys) ≡ all_have_words xs && all_have_words ys = list_all-append (λ (f : Written). nat_le f.value (top f.code)) xs ys in
    let bits : length (bits_of_fields (xs ++ ys)) ≡ length (bits_of_fields xs) + length (bits_of_fields ys) =
    ap length (flat_map-append (λ (f : Written). word f.code f.value) xs ys) ∙ length-append (bits_of_fields xs) (bits_of_fields ys) in
    (λ i. less room (words i) (bits i)) ∙ less_both room (length (bits_of_fields xs)) (length (bits_of_fields ys)) (all_have_words xs) (all_have_words ys)

pub swapped : (room : ℕ) (xs ys : List Written) → room_after (room_after room xs) ys ≡ room_after (room_after room ys) xs
swapped room xs ys = less_swapped room (length (bits_of_fields xs)) (length (bits_of_fields ys)) (all_have_words xs) (all_have_words ys)

-- the first of some fields is written
pub one_written : (room left : ℕ) (f : Written) (rest : List Written) → left ≡ room_after room (f ∷ []) → room_after left rest ≡ room_after room (f ∷ rest)
one_written room left f rest is = ap (λ n. room_after n rest) is ∙ sym (after_both room (f ∷ []) rest)

-- no room is left if there was none
pub none_left : (xs : List Written) → room_after 0 xs ≡ 0
none_left xs = less_none (length (bits_of_fields xs)) (all_have_words xs)

pub nothing_more : (room : ℕ) → room_after room [] ≡ room
nothing_more room = omega arith

-- ---- if two lists of fields leave the same, each of another room

pub same_behind : (a b : ℕ) (front xs ys : List Written) → room_after a xs ≡ room_after b ys → room_after a (front ++ xs) ≡ room_after b (front ++ ys)
same_behind a b front xs ys same =
    after_both a front xs ∙ swapped a front xs ∙ ap (λ n. room_after n front) same ∙ sym (swapped b front ys) ∙ sym (after_both b front ys)

pub same_before : (a b : ℕ) (xs ys rest : List Written) → room_after a xs ≡ room_after b ys → room_after a (xs ++ rest) ≡ room_after b (ys ++ rest)
same_before a b xs ys rest same = after_both a xs rest ∙ ap (λ n. room_after n rest) same ∙ sym (after_both b ys rest)
