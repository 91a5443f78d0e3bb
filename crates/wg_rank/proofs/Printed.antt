-- The lines of a certificate, printed part by part.
use Rattle.std.proofs.Common.{◌≡◌, ℕ, zero, suc, ◌+◌, ◌<◌, ◌≤◌, List, [], ◌∷◌, ◌++◌, length, take, drop, get_or, refl, sym, ap, subst, ◌∙◌, arith, add-one, append_assoc, append-nil, Result, Ok, Err, OnOk, OnErr}
use Rattle.std.proofs.lemmas.List.{take_all}
use Rattle.wg_outside.specs.Outside.{Files, appended, content}
use Rattle.wg_outside.specs.Puts.{Puts}
use Rattle.wg_lines.specs.Printing.{HasPrinted, HasPrintedLess}
use Rattle.wg_outside.proofs.FilesLemmas.{file_grown}
use Rattle.wg_lines.proofs.PrintLemmas.{printed_more, less_after, less_before}
use Rattle.wg_rank.specs.CertificateText.{bound_line, bound_lines}

-- ---- the lines of bounds

more : (xs : List ℕ) (i : ℕ) → i < length xs → bound_lines (take (suc i) xs) ≡ bound_lines (take i xs) ++ bound_line (get_or xs i 0)
more [] i h = absurd (omega arith)
more (x ∷ xs) zero h = append-nil (bound_line x)
more (x ∷ xs) (suc i) h =
    ap (λ (l : List ℕ). bound_line x ++ l) (more xs i (omega arith)) ∙ sym (append_assoc (bound_line x) (bound_lines (take i xs)) (bound_line (get_or xs i 0)))

lines_more : (xs : List ℕ) (i : ℕ) → i < length xs → bound_lines (take (i + 1) xs) ≡ bound_lines (take i xs) ++ bound_line (get_or xs i 0)
lines_more xs i h = rw add-one (more xs i h)

lines_split : (xs : List ℕ) (i : ℕ) → bound_lines xs ≡ bound_lines (take i xs) ++ bound_lines (drop i xs)
lines_split [] zero = refl
lines_split [] (suc i) = refl
lines_split (x ∷ xs) zero = refl
lines_split (x ∷ xs) (suc i) =
    ap (λ (l : List ℕ). bound_line x ++ l) (lines_split xs i) ∙ sym (append_assoc (bound_line x) (bound_lines (take i xs)) (bound_lines (drop i xs)))

-- the line of one bound more is printed, or it is not
module _ (a b c waited mid xs : List ℕ) (i : ℕ) (there : i < length xs) (h : HasPrinted a b waited (bound_lines (take i xs)) mid) where
  pub bound_printed : (waits : List ℕ) → HasPrinted b c mid (bound_line (get_or xs i 0)) waits → HasPrinted a c waited (bound_lines (take (i + 1) xs)) waits
  bound_printed waits g = grind (arith, printed_more, bound_line, lines_more)

  pub bound_less : HasPrintedLess b c mid (bound_line (get_or xs i 0)) → HasPrintedLess a c waited (bound_lines xs)
  bound_less g =
      let front : HasPrintedLess a c waited (bound_lines (take (i + 1) xs)) =
      subst (λ (t : List ℕ). HasPrintedLess a c waited t) (sym (lines_more xs i there)) (less_after a b c waited mid (bound_lines (take i xs)) (bound_line (get_or xs i 0)) h g) in
      subst (λ (t : List ℕ). HasPrintedLess a c waited t) (sym (lines_split xs (i + 1))) (less_before a c waited (bound_lines (take (i + 1) xs)) (bound_lines (drop (i + 1) xs)) front)

-- the lines of all bounds are printed
pub lines_printed : (a b waited waits xs : List ℕ) (i : ℕ) → length xs ≤ i → HasPrinted a b waited (bound_lines (take i xs)) waits → HasPrinted a b waited (bound_lines xs) waits
lines_printed a b waited waits xs i le h = subst (λ (l : List ℕ). HasPrinted a b waited (bound_lines l) waits) (take_all i xs le) h

-- ---- what went into a file

-- text behind what the file held, and no other file
module _ (f f0 s h : Files) (name n0 n1 text : List ℕ) (same : f0 ≡ f) (named : n0 ≡ name) (kept : n1 ≡ n0) (last : h ≡ s)
    (more : (t : List ℕ) × (s ≡ appended f0 n0 t)) where
  all_of : (t : List ℕ) → content s n1 ≡ content f0 n0 ++ t → h ≡ appended f name t
  all_of t is = last ∙ file_grown f0 s n0 t more (ap (λ n. content s n) (sym kept) ∙ is) ∙ (λ i. appended (same i) (named i) t)

  pub put_all : {E : Type 0} (r : Result (Unit {0}) E) → Puts text (content f0 n0) (content s n1) r → OnOk r (h ≡ appended f name text)
  put_all (Ok done) put = all_of text put
  put_all (Err e) put = tt

  pub put_less : {E : Type 0} (r : Result (Unit {0}) E) → Puts text (content f0 n0) (content s n1) r
      → OnErr r ((k : ℕ) × (k < length text) × (h ≡ appended f name (take k text)))
  put_less (Ok done) put = tt
  put_less (Err e) put = (put.0, put.1, all_of (take put.0 text) put.2)
