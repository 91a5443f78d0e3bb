-- Texts that are printed one after the other.
use Rattle.std.proofs.Common.{◌≡◌, ℕ, ◌+◌, ◌<◌, ◌≤◌, List, [], ◌∷◌, ◌++◌, map, length, take, drop, get_or, refl, sym, ap, subst, ◌∙◌, append_assoc, append-nil, arith}
use Rattle.std.proofs.lemmas.List.{map-append, take_all, take_more, take-append-drop}
use Rattle.wg_lines.specs.Printing.{HasPrinted, HasPrintedLess}
use Rattle.wg_outside.specs.Puts.{joined}
use Rattle.wg_ascii.specs.Text.{list_words}
use Rattle.wg_lines.proofs.PrintLemmas.{kept, printed_more, less_after, less_before}

-- nothing is printed
pub none_printed : (a waited list : List ℕ) → length list ≡ 0 → HasPrinted a a waited (list_words list) waited
none_printed a waited [] none = kept a waited [] waited (sym (append-nil waited))
none_printed a waited (x ∷ xs) none = absurd (omega (arith, none))

-- ---- a text for each of some items

joined-append : (xs ys : List (List ℕ)) → joined (xs ++ ys) ≡ joined xs ++ joined ys
joined-append [] ys = refl
joined-append (x ∷ xs) ys = ap (λ (l : List ℕ). x ++ l) (joined-append xs ys) ∙ sym (append_assoc x (joined xs) (joined ys))

module _ {A : Type 0} (text : A → List ℕ) where
  -- another text, and then the texts of these items
  abbrev pub texts : List ℕ → List A → List ℕ
  texts front xs = front ++ joined (map text xs)

  texts_more : (front : List ℕ) (xs : List A) (i : ℕ) (d : A) → i < length xs → texts front (take (i + 1) xs) ≡ texts front (take i xs) ++ text (get_or xs i d)
  texts_more front xs i d lt =
      let x : A = get_or xs i d in
      ap (texts front) (take_more xs i d lt) ∙ ap (λ (ls : List (List ℕ)). front ++ joined ls) (map-append text (take i xs) (x ∷ []))
      ∙ ap (λ (l : List ℕ). front ++ l) (joined-append (map text (take i xs)) (text x ∷ []) ∙ ap (λ (l : List ℕ). joined (map text (take i xs)) ++ l) (append-nil (text x)))
      ∙ sym (append_assoc front (joined (map text (take i xs))) (text x))

  texts_split : (front : List ℕ) (xs : List A) (i : ℕ) → texts front xs ≡ texts front (take i xs) ++ joined (map text (drop i xs))
  texts_split front xs i =
      ap (texts front) (sym (take-append-drop i xs)) ∙ ap (λ (ls : List (List ℕ)). front ++ joined ls) (map-append text (take i xs) (drop i xs))
      ∙ ap (λ (l : List ℕ). front ++ l) (joined-append (map text (take i xs)) (map text (drop i xs)))
      ∙ sym (append_assoc front (joined (map text (take i xs))) (joined (map text (drop i xs))))

  -- one item more is printed
  pub item_printed : (a b c waited mid waits front : List ℕ) (xs : List A) (i : ℕ) (d : A) → i < length xs → HasPrinted a b waited (texts front (take i xs)) mid → HasPrinted b c mid (text (get_or xs i d)) waits
      → HasPrinted a c waited (texts front (take (i + 1) xs)) waits
  item_printed a b c waited mid waits front xs i d lt h g =
      subst (λ (t : List ℕ). HasPrinted a c waited t waits) (sym (texts_more front xs i d lt)) (printed_more a b c waited mid waits (texts front (take i xs)) (text (get_or xs i d)) h g)

  pub item_less : (a b c waited mid front : List ℕ) (xs : List A) (i : ℕ) (d : A) → i < length xs → HasPrinted a b waited (texts front (take i xs)) mid → HasPrintedLess b c mid (text (get_or xs i d))
      → HasPrintedLess a c waited (texts front xs)
  item_less a b c waited mid front xs i d lt h g =
      let more : HasPrintedLess a c waited (texts front (take (i + 1) xs)) =
      subst (λ (t : List ℕ). HasPrintedLess a c waited t) (sym (texts_more front xs i d lt)) (less_after a b c waited mid (texts front (take i xs)) (text (get_or xs i d)) h g) in
      subst (λ (t : List ℕ). HasPrintedLess a c waited t) (sym (texts_split front xs (i + 1))) (less_before a c waited (texts front (take (i + 1) xs)) (joined (map text (drop (i + 1) xs))) more)

  -- all items are printed
  pub all_printed : (a c waited waits front : List ℕ) (xs : List A) (i : ℕ) → length xs ≤ i
      → HasPrinted a c waited (texts front (take i xs)) waits → HasPrinted a c waited (texts front xs) waits
  all_printed a c waited waits front xs i past =
      subst (λ (l : List A). HasPrinted a c waited (texts front l) waits) (take_all i xs past)
