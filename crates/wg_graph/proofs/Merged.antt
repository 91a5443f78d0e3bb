-- Two ascending lists that are merged: the ascending list of the numbers of either.
use Rattle.std.proofs.Common.{◌≡◌, ℕ, suc, ◌≤◌, Bool, true, false, ◌||◌, List, [], ◌∷◌, ◌++◌, refl, ◌∙◌, arith}
use Rattle.wg_graph.specs.Numbers.{numbers_where, is_in, is_in_either}
use Rattle.wg_graph.specs.Ascending.{Ascends}
use Rattle.wg_graph.proofs.Sets.{grow, in_below, in_head, in_tail, ascends_more}

-- out has the numbers of both below m, xs and ys those from m on
pub record Merging (a b xs ys out : List ℕ) (m : ℕ) : Type 0 where
  pub out_is : out ≡ numbers_where (is_in_either a b) 0 m
  pub up_a : Ascends m xs
  pub up_b : Ascends m ys
  pub rest_a : (y : ℕ) → m ≤ y → is_in y a ≡ is_in y xs
  pub rest_b : (y : ℕ) → m ≤ y → is_in y b ≡ is_in y ys

-- x is the least that is left
least : (a b xs ys xs' ys' out : List ℕ) (m x : ℕ) → Merging a b xs ys out m → m ≤ x → Ascends x xs → Ascends x ys → is_in_either xs ys x ≡ true → Ascends (suc x) xs' → Ascends (suc x) ys' →
    ((y : ℕ) → suc x ≤ y → is_in y xs ≡ is_in y xs') → ((y : ℕ) → suc x ≤ y → is_in y ys ≡ is_in y ys') → Merging a b xs' ys' (out ++ x ∷ []) (suc x)
least a b xs ys xs' ys' out m x h le up_a up_b here next_a next_b fall_a fall_b = record {
  out_is = rw h.out_is (grow (is_in_either a b) m x le
      (λ y low high. rw (h.rest_a y low, h.rest_b y low, in_below x y xs up_a high, in_below x y ys up_b high) refl)
      (rw (h.rest_a x le, h.rest_b x le) here));
  up_a = next_a;
  up_b = next_b;
  rest_a = λ y low. h.rest_a y (omega arith) ∙ fall_a y low;
  rest_b = λ y low. h.rest_b y (omega arith) ∙ fall_b y low;
}

pub take_a : (a b xs ys out : List ℕ) (m x : ℕ) → Merging a b (x ∷ xs) ys out m → Ascends (suc x) ys → Merging a b xs ys (out ++ x ∷ []) (suc x)
take_a a b xs ys out m x h up =
    least a b (x ∷ xs) ys xs ys out m x h h.up_a.0 (omega arith, h.up_a.1) (ascends_more x (suc x) ys (omega arith) up) (rw (in_head x xs) refl) h.up_a.1 up (λ y low. in_tail x y xs low) (λ y low. refl)

or_true : (c : Bool) → (c || true) ≡ true
or_true true = refl
or_true false = refl

pub take_b : (a b xs ys out : List ℕ) (m x : ℕ) → Merging a b xs (x ∷ ys) out m → Ascends (suc x) xs → Merging a b xs ys (out ++ x ∷ []) (suc x)
take_b a b xs ys out m x h up =
    least a b xs (x ∷ ys) xs ys out m x h h.up_b.0 (ascends_more x (suc x) xs (omega arith) up) (omega arith, h.up_b.1) (rw (in_head x ys) (or_true (is_in x xs))) up h.up_b.1 (λ y low. refl) (λ y low. in_tail x y ys low)

pub take_both : (a b xs ys out : List ℕ) (m x : ℕ) → Merging a b (x ∷ xs) (x ∷ ys) out m → Merging a b xs ys (out ++ x ∷ []) (suc x)
take_both a b xs ys out m x h =
    least a b (x ∷ xs) (x ∷ ys) xs ys out m x h h.up_a.0 (omega arith, h.up_a.1) (omega arith, h.up_b.1) (rw (in_head x xs) refl) h.up_a.1 h.up_b.1 (λ y low. in_tail x y xs low) (λ y low. in_tail x y ys low)
