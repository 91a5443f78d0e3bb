-- Two ascending lists, gone over side by side.
use Rattle.std.proofs.Common.{◌≡◌, ℕ, suc, ◌+◌, ◌<◌, ◌≤◌, true, false, Bool, ◌||◌, List, [], ◌∷◌, length, drop, get_or, refl, sym, ap, subst, ◌∙◌, arith}
use Rattle.std.proofs.lemmas.Bool.{eq-eqb}
use Rattle.std.proofs.lemmas.List.{drop_more, drop_all}
use Rattle.wg_graph.specs.Numbers.{is_in}
use Rattle.wg_graph.specs.Ascending.{Ascends}
use Rattle.wg_encoder.specs.Sharing.{shares}
use Rattle.wg_graph.proofs.Sets.{in_below, in_tail}
use Rattle.wg_graph.proofs.Asked.{ascends-drop}

shares_none : (list : List ℕ) → shares list [] ≡ false
shares_none [] = refl
shares_none (y ∷ ys) = shares_none ys

-- a number below all of the other list is not shared
lower : (n x y : ℕ) (xs ys : List ℕ) → Ascends n (x ∷ xs) → y < x → shares (y ∷ ys) (x ∷ xs) ≡ shares ys (x ∷ xs)
lower n x y xs ys up lt = let out : is_in y (x ∷ xs) ≡ false = in_below x y (x ∷ xs) (omega arith, up.1) lt in rw out refl

-- what lies below all of the list is not shared
higher : (n x : ℕ) (xs list : List ℕ) → Ascends n list → x < n → shares list (x ∷ xs) ≡ shares list xs
higher n x xs [] up lt = refl
higher n x xs (y ∷ ys) up lt =
    let here : is_in y (x ∷ xs) ≡ is_in y xs = in_tail x y xs (omega (arith, up.0)) in
    let rest : shares ys (x ∷ xs) ≡ shares ys xs = higher (suc y) x xs ys up.1 (omega (arith, up.0)) in
    rw (here, rest) refl

module _ (a b : List ℕ) (i j : ℕ) (up_a : Ascends 0 a) (up_b : Ascends 0 b) (here_a : i < length a) (here_b : j < length b) where
  split_a : drop i a ≡ get_or a i 0 ∷ drop (i + 1) a
  split_a = drop_more a i 0 here_a

  split_b : drop j b ≡ get_or b j 0 ∷ drop (j + 1) b
  split_b = drop_more b j 0 here_b

  ahead_a : Ascends 0 (get_or a i 0 ∷ drop (i + 1) a)
  ahead_a = subst (Ascends 0) split_a (ascends-drop 0 i a up_a)

  ahead_b : Ascends 0 (get_or b j 0 ∷ drop (j + 1) b)
  ahead_b = subst (Ascends 0) split_b (ascends-drop 0 j b up_b)

  both_split : shares (drop i a) (drop j b) ≡ shares (get_or a i 0 ∷ drop (i + 1) a) (get_or b j 0 ∷ drop (j + 1) b)
  both_split = ap (λ xs. shares xs (drop j b)) split_a ∙ ap (shares (get_or a i 0 ∷ drop (i + 1) a)) split_b

  pub same_shared : get_or a i 0 ≡ get_or b j 0 → shares (drop i a) (drop j b) ≡ true
  same_shared same =
      let found : is_in (get_or a i 0) (get_or b j 0 ∷ drop (j + 1) b) ≡ true = rw (eq-eqb (get_or a i 0) (get_or b j 0) same) refl in
      both_split ∙ ap (λ (t : Bool). t || shares (drop (i + 1) a) (get_or b j 0 ∷ drop (j + 1) b)) found

  pub past_a : get_or a i 0 < get_or b j 0 → shares (drop i a) (drop j b) ≡ shares (drop (i + 1) a) (drop j b)
  past_a lt =
      both_split ∙ lower 0 (get_or b j 0) (get_or a i 0) (drop (j + 1) b) (drop (i + 1) a) ahead_b lt
      ∙ sym (ap (shares (drop (i + 1) a)) split_b)

  pub past_b : get_or b j 0 < get_or a i 0 → shares (drop i a) (drop j b) ≡ shares (drop i a) (drop (j + 1) b)
  past_b lt =
      both_split ∙ higher (get_or a i 0) (get_or b j 0) (drop (j + 1) b) (get_or a i 0 ∷ drop (i + 1) a) (omega arith, ahead_a.1) lt
      ∙ sym (ap (λ xs. shares xs (drop (j + 1) b)) split_a)

pub ends_a : (a b : List ℕ) (i j : ℕ) → length a ≤ i → shares (drop i a) (drop j b) ≡ false
ends_a a b i j past = ap (λ xs. shares xs (drop j b)) (drop_all i a past)

pub ends_b : (a b : List ℕ) (i j : ℕ) → length b ≤ j → shares (drop i a) (drop j b) ≡ false
ends_b a b i j past = ap (shares (drop i a)) (drop_all j b past) ∙ shares_none (drop i a)
