-- Two ascending lists that are merged from the front, the lesser number first.
use Rattle.std.proofs.Common.{◌≡◌, ◌∙◌, ℕ, zero, suc, ◌+◌, ◌<◌, ◌≤◌, inl, inr, Bool, true, false, leb, List, [], ◌∷◌, ◌++◌, length, drop, get_or, refl, sym, subst, arith}
use Rattle.std.specs.Prelude.{min}
use Rattle.std.proofs.lemmas.Bool.{cases_order, le-leb, lt-leb}
use Rattle.std.proofs.lemmas.List.{drop_more, drop_all, append_assoc}
use Rattle.wg_graph.specs.Ascending.{Ascends, Below}
use Rattle.wg_graph.specs.Numbers.{is_in_either, numbers_where}
use Rattle.wg_graph.proofs.Merged.{Merging, take_a, take_b, take_both}
use Rattle.wg_graph.proofs.Unions.{rest_follows, below_drop}
use mir.Val.{bool_byte}

-- so many numbers of each are taken, and out has these
pub record Merges (a b : List ℕ) (i j : ℕ) (out : List ℕ) : Type 0 where
  pub past : ℕ
  pub merging : Merging a b (drop i a) (drop j b) out past
  pub within : (n : ℕ) → Below n a → Below n b → past ≤ n

pub merges_none : (a b : List ℕ) → Ascends 0 a → Ascends 0 b → Merges a b 0 0 []
merges_none a b up_a up_b = record {
  past = 0;
  merging = record { out_is = refl; up_a = up_a; up_b = up_b; rest_a = λ y low. refl; rest_b = λ y low. refl };
  within = λ n low_a low_b. omega arith;
}

below_at : (n i : ℕ) (xs : List ℕ) → i < length xs → Below n xs → get_or xs i 0 < n
below_at n i [] lt low = absurd (omega (arith, lt))
below_at n zero (x ∷ xs) lt low = low.0
below_at n (suc i) (x ∷ xs) lt low = below_at n i xs (omega (arith, lt)) low.1

-- the front of what is left of each
split : (a b : List ℕ) (i j : ℕ) (out : List ℕ) (m : ℕ) → i < length a → j < length b → Merging a b (drop i a) (drop j b) out m → Merging a b (get_or a i 0 ∷ drop (i + 1) a) (get_or b j 0 ∷ drop (j + 1) b) out m
split a b i j out m here there h =
    subst (λ (xs : List ℕ). Merging a b xs (get_or b j 0 ∷ drop (j + 1) b) out m) (drop_more a i 0 here) (subst (λ (ys : List ℕ). Merging a b (drop i a) ys out m) (drop_more b j 0 there) h)

merges_a : (a b : List ℕ) (i j : ℕ) (out : List ℕ) → i < length a → j < length b → get_or a i 0 < get_or b j 0 → Merges a b i j out → Merges a b (i + 1) j (out ++ get_or a i 0 ∷ [])
merges_a a b i j out here there less h =
    let g = split a b i j out h.past here there h.merging in
    let next : Merging a b (drop (i + 1) a) (get_or b j 0 ∷ drop (j + 1) b) (out ++ get_or a i 0 ∷ []) (suc (get_or a i 0)) = take_a a b (drop (i + 1) a) (get_or b j 0 ∷ drop (j + 1) b) out h.past (get_or a i 0) g (less, g.up_b.1) in
    record {
      past = suc (get_or a i 0);
      merging = subst (λ (ys : List ℕ). Merging a b (drop (i + 1) a) ys (out ++ get_or a i 0 ∷ []) (suc (get_or a i 0))) (sym (drop_more b j 0 there)) next;
      within = λ n low_a low_b. below_at n i a here low_a;
    }

merges_b : (a b : List ℕ) (i j : ℕ) (out : List ℕ) → i < length a → j < length b → get_or b j 0 < get_or a i 0 → Merges a b i j out → Merges a b i (j + 1) (out ++ get_or b j 0 ∷ [])
merges_b a b i j out here there less h =
    let g = split a b i j out h.past here there h.merging in
    let next : Merging a b (get_or a i 0 ∷ drop (i + 1) a) (drop (j + 1) b) (out ++ get_or b j 0 ∷ []) (suc (get_or b j 0)) = take_b a b (get_or a i 0 ∷ drop (i + 1) a) (drop (j + 1) b) out h.past (get_or b j 0) g (less, g.up_a.1) in
    record {
      past = suc (get_or b j 0);
      merging = subst (λ (xs : List ℕ). Merging a b xs (drop (j + 1) b) (out ++ get_or b j 0 ∷ []) (suc (get_or b j 0))) (sym (drop_more a i 0 here)) next;
      within = λ n low_a low_b. below_at n j b there low_b;
    }

merges_both : (a b : List ℕ) (i j : ℕ) (out : List ℕ) → i < length a → j < length b → get_or b j 0 ≡ get_or a i 0 → Merges a b i j out → Merges a b (i + 1) (j + 1) (out ++ get_or a i 0 ∷ [])
merges_both a b i j out here there same h =
    let g = subst (λ (y : ℕ). Merging a b (get_or a i 0 ∷ drop (i + 1) a) (y ∷ drop (j + 1) b) out h.past) same (split a b i j out h.past here there h.merging) in
    record {
      past = suc (get_or a i 0);
      merging = take_both a b (drop (i + 1) a) (drop (j + 1) b) out h.past (get_or a i 0) g;
      within = λ n low_a low_b. below_at n i a here low_a;
    }

-- the lesser number is taken from each list at whose front it stands
pub merges_on : (a b : List ℕ) (i j : ℕ) (out : List ℕ) (x : ℕ) → i < length a → j < length b → x ≡ min (get_or a i 0) (get_or b j 0) → Merges a b i j out
    → Merges a b (i + bool_byte (leb (get_or a i 0) (get_or b j 0))) (j + bool_byte (leb (get_or b j 0) (get_or a i 0))) (out ++ x ∷ [])
merges_on a b i j out x here there is h =
    let m : ℕ = get_or a i 0 in
    let n : ℕ = get_or b j 0 in
    elim (cases_order m n) [
      | inl same ↦ let least : x ≡ m = omega (arith, is, same) in rw (le-leb m n (omega (arith, same)), le-leb n m (omega (arith, same)), least) (merges_both a b i j out here there (sym same) h)
      | inr (inl less) ↦ let least : x ≡ m = omega (arith, is, less) in let stays : j ≡ j + 0 = omega arith in rw (le-leb m n (omega (arith, less)), lt-leb n m less, least) (subst (λ (k : ℕ). Merges a b (i + 1) k (out ++ m ∷ [])) stays (merges_a a b i j out here there less h))
      | inr (inr more) ↦ let least : x ≡ n = omega (arith, is, more) in let stays : i ≡ i + 0 = omega arith in rw (lt-leb m n more, le-leb n m (omega (arith, more)), least) (subst (λ (k : ℕ). Merges a b k (j + 1) (out ++ n ∷ [])) stays (merges_b a b i j out here there more h))
    ]

byte : (t : Bool) → bool_byte t ≤ 1
byte true = omega arith
byte false = omega arith

-- at least one is taken, and of each list one at most
pub taken_some : (m n : ℕ) → (bool_byte (leb m n) ≤ 1) × ((bool_byte (leb n m) ≤ 1) × (1 ≤ bool_byte (leb m n) + bool_byte (leb n m)))
taken_some m n = (
  byte (leb m n),
  (
    byte (leb n m),
    elim (cases_order m n) [
      | inl same ↦ rw (le-leb m n (omega (arith, same))) (omega arith)
      | inr (inl less) ↦ rw (le-leb m n (omega (arith, less))) (omega arith)
      | inr (inr more) ↦ rw (le-leb n m (omega (arith, more))) (omega arith)
    ],
  ),
)

-- one list is at its end, and the rest of the other follows
pub merges_rest_a : (a b : List ℕ) (i j : ℕ) (out : List ℕ) (n : ℕ) → length b ≤ j → Merges a b i j out → Below n a → Below n b → out ++ drop i a ≡ numbers_where (is_in_either a b) 0 n
merges_rest_a a b i j out n end h low_a low_b =
    rest_follows a b (drop i a) out h.past n (subst (λ (ys : List ℕ). Merging a b (drop i a) ys out h.past) (drop_all j b end) h.merging) (h.within n low_a low_b) (below_drop n i a low_a)

rest_follows_b : (a b ys out : List ℕ) (m n : ℕ) → Merging a b [] ys out m → m ≤ n → Below n ys → out ++ ys ≡ numbers_where (is_in_either a b) 0 n
rest_follows_b a b [] out m n h le low = rest_follows a b [] out m n h le tt
rest_follows_b a b (y ∷ ys) out m n h le low =
    sym (append_assoc out (y ∷ []) ys) ∙ rest_follows_b a b ys (out ++ y ∷ []) (suc y) n (take_b a b [] ys out m y h tt) low.0 low.1

pub merges_rest_b : (a b : List ℕ) (i j : ℕ) (out : List ℕ) (n : ℕ) → length a ≤ i → Merges a b i j out → Below n a → Below n b → out ++ drop j b ≡ numbers_where (is_in_either a b) 0 n
merges_rest_b a b i j out n end h low_a low_b =
    rest_follows_b a b (drop j b) out h.past n (subst (λ (xs : List ℕ). Merging a b xs (drop j b) out h.past) (drop_all i a end) h.merging) (h.within n low_a low_b) (below_drop n j b low_b)
