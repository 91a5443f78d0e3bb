-- Lines about numbers, one after the other.
use Rattle.std.proofs.Common.{◌≡◌, ℕ, ◌+◌, ◌<◌, List, [], ◌∷◌, ◌++◌, map, length, take, drop, get_or, refl, sym, ap, subst, ◌∙◌, append_assoc, append-nil}
use Rattle.std.proofs.lemmas.List.{take_more, take-append-drop}
use Rattle.wg_outside.specs.Puts.{joined}
use Rattle.wg_lines.specs.Printing.{HasPrinted, HasPrintedLess}
use Rattle.wg_lines.proofs.PrintLemmas.{printed_more, less_after, less_before}

module _ (line : ℕ → List ℕ) where
  abbrev lines : List ℕ → List ℕ
  lines xs = joined (map line xs)

  lines-append : (xs ys : List ℕ) → lines (xs ++ ys) ≡ lines xs ++ lines ys
  lines-append [] ys = refl
  lines-append (x ∷ xs) ys = ap (λ (l : List ℕ). line x ++ l) (lines-append xs ys) ∙ sym (append_assoc (line x) (lines xs) (lines ys))

  lines_more : (xs : List ℕ) (i : ℕ) → i < length xs → lines (take (i + 1) xs) ≡ lines (take i xs) ++ line (get_or xs i 0)
  lines_more xs i lt = ap lines (take_more xs i 0 lt) ∙ lines-append (take i xs) (get_or xs i 0 ∷ []) ∙ ap (λ (l : List ℕ). lines (take i xs) ++ l) (append-nil (line (get_or xs i 0)))

  -- the line of one number more at the end
  pub lines_end : (xs : List ℕ) (x : ℕ) → joined (map line (xs ++ x ∷ [])) ≡ joined (map line xs) ++ line x
  lines_end xs x = lines-append xs (x ∷ []) ∙ ap (λ (l : List ℕ). lines xs ++ l) (append-nil (line x))

  lines_split : (xs : List ℕ) (i : ℕ) → lines xs ≡ lines (take i xs) ++ lines (drop i xs)
  lines_split xs i = ap lines (sym (take-append-drop i xs)) ∙ lines-append (take i xs) (drop i xs)

  -- the next of some numbers is printed
  pub next_printed : (a b c waited mid waits given : List ℕ) (x : ℕ) → HasPrinted a b waited (joined (map line given)) mid → HasPrinted b c mid (line x) waits
      → HasPrinted a c waited (joined (map line (given ++ x ∷ []))) waits
  next_printed a b c waited mid waits given x h g =
      subst (λ (t : List ℕ). HasPrinted a c waited t waits) (sym (lines_end given x)) (printed_more a b c waited mid waits (lines given) (line x) h g)

  pub next_less : (a b c waited mid given rest xs : List ℕ) (x : ℕ) → xs ≡ given ++ x ∷ rest → HasPrinted a b waited (joined (map line given)) mid → HasPrintedLess b c mid (line x)
      → HasPrintedLess a c waited (joined (map line xs))
  next_less a b c waited mid given rest xs x is h g =
      subst (λ (t : List ℕ). HasPrintedLess a c waited t) (sym (ap lines is ∙ lines-append given (x ∷ rest)))
      (less_after a b c waited mid (lines given) (line x ++ lines rest) h (less_before b c mid (line x) (lines rest) g))

  -- one line more is printed
  pub line_printed : (a b c waited mid waits xs : List ℕ) (i : ℕ) → i < length xs → HasPrinted a b waited (joined (map line (take i xs))) mid → HasPrinted b c mid (line (get_or xs i 0)) waits
      → HasPrinted a c waited (joined (map line (take (i + 1) xs))) waits
  line_printed a b c waited mid waits xs i lt h g =
      subst (λ (t : List ℕ). HasPrinted a c waited t waits) (sym (lines_more xs i lt)) (printed_more a b c waited mid waits (lines (take i xs)) (line (get_or xs i 0)) h g)

  pub line_less : (a b c waited mid xs : List ℕ) (i : ℕ) → i < length xs → HasPrinted a b waited (joined (map line (take i xs))) mid → HasPrintedLess b c mid (line (get_or xs i 0))
      → HasPrintedLess a c waited (joined (map line xs))
  line_less a b c waited mid xs i lt h g =
      let more : HasPrintedLess a c waited (lines (take (i + 1) xs)) =
      subst (λ (t : List ℕ). HasPrintedLess a c waited t) (sym (lines_more xs i lt)) (less_after a b c waited mid (lines (take i xs)) (line (get_or xs i 0)) h g) in
      subst (λ (t : List ℕ). HasPrintedLess a c waited t) (sym (lines_split xs (i + 1))) (less_before a c waited (lines (take (i + 1) xs)) (lines (drop (i + 1) xs)) more)
