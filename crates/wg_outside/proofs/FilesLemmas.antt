-- Files by their names, after several changes.
use Rattle.std.proofs.Common.{◌≡◌, ℕ, ◌≤◌, Bool, true, false, cond, List, [], ◌∷◌, ◌++◌, refl, sym, ◌∙◌, ap, arith, Option, Some, None, unwrap_or, ◌≢◌, true≢false, take, Result, Ok, Err}
use Rattle.std.specs.Ordering.{nat_cmp}
use Rattle.std.specs.Cmp.Lexicographic.{slice_cmp, pointwise, bytes_decides}
use Rattle.std.proofs.Math.Dec.{eqb}
use Rattle.std.proofs.lemmas.Map.Views.{tells_apart}
use Rattle.std.proofs.lemmas.Map.Lookups.{exact_bytes}
use Rattle.std.proofs.lemmas.List.{append-nil, append_cancel_left}
use Rattle.std.specs.Result.{IfOk, OnErr}
use Rattle.std.specs.FinMap.{get, insert, empty, get-empty}
use Rattle.wg_outside.specs.Outside.{Files, Counts, NonDecreasing, appended, content}
pub use Rattle.wg_outside.specs.FileLaws.{is_name, is_name_refl, get-insert_name, get-insert_same, same_files, insert-insert, appended-append}

-- counts that don't fall twice
pub none_falls-trans : (a b c : List ℕ → Counts) → NonDecreasing a b → NonDecreasing b c → NonDecreasing a c
none_falls-trans a b c ab bc = record {
  read_faults = λ n. omega (arith, ab.read_faults n, bc.read_faults n);
  write_faults = λ n. omega (arith, ab.write_faults n, bc.write_faults n);
  absences = λ n. omega (arith, ab.absences n, bc.absences n);
  wants = λ n. omega (arith, ab.wants n, bc.wants n);
}

-- one count for all names
pub none_falls_once : (a b : Counts) → a.read_faults ≤ b.read_faults → a.write_faults ≤ b.write_faults → a.absences ≤ b.absences → a.wants ≤ b.wants → NonDecreasing (λ _. a) (λ _. b)
none_falls_once a b r w s m = record { read_faults = λ _. r; write_faults = λ _. w; absences = λ _. s; wants = λ _. m }

-- names that the order does not tell apart are one
pub same_name : (q n : List ℕ) → is_name q n ≡ true → q ≡ n
same_name q n e = tells_apart exact_bytes q n e

not_taken : {A : Type 0} (t : Bool) (x y : A) → (t ≡ true → ⊥) → cond t x y ≡ y
not_taken true x y never = absurd (never refl)
not_taken false x y never = refl

-- another name holds what it held
pub get-insert_other : (f : Files) (n b q : List ℕ) → (q ≡ n → ⊥) → get (insert f n b) q ≡ get f q
get-insert_other f n b q apart = get-insert_name f n b q ∙ not_taken (is_name q n) (Some b) (get f q) (λ t. apart (same_name q n t))

-- texts that the test finds equal are one
pub texts_equal : (xs ys : List ℕ) (r : Bool) → r ≡ true → r ≡ pointwise eqb xs ys → xs ≡ ys
texts_equal xs ys r is test = (bytes_decides xs ys).0 (sym test ∙ is)

pub texts_differ : (xs ys : List ℕ) (r : Bool) → r ≡ false → r ≡ pointwise eqb xs ys → xs ≢ ys
texts_differ xs ys r is test same = absurd (true≢false (sym ((bytes_decides xs ys).1 same) ∙ sym test ∙ is))

-- a depot of one file
pub get-one_file : (n b q : List ℕ) → q ≡ n → get (insert (empty {R = slice_cmp nat_cmp}) n b) q ≡ Some b
get-one_file n b q is = ap (get (insert empty n b)) is ∙ get-insert_same empty n b

pub get-no_other_file : (n b q : List ℕ) → (q ≡ n → ⊥) → get (insert (empty {R = slice_cmp nat_cmp}) n b) q ≡ None
get-no_other_file n b q apart = get-insert_other empty n b q apart ∙ get-empty (slice_cmp nat_cmp) q

-- counts that are as they were
pub none_falls-refl : (a : List ℕ → Counts) → NonDecreasing a a
none_falls-refl a = record { read_faults = λ n. omega arith; write_faults = λ n. omega arith; absences = λ n. omega arith; wants = λ n. omega arith }

-- what a file holds with bytes more
pub content-appended : (f : Files) (n text : List ℕ) → content (appended f n text) n ≡ content f n ++ text
content-appended f n [] = sym (append-nil (content f n))
content-appended f n (b ∷ bs) = ap (λ (o : Option (List ℕ)). unwrap_or o []) (get-insert_same f n (content f n ++ b ∷ bs))

-- text at the end of a file is text behind what it held
pub more_content : {E : Type 0} (f h : Files) (n piece : List ℕ) (r : Result ℕ E) → IfOk r (λ count. h ≡ appended f n (take count piece)) → IfOk r (λ count. content h n ≡ content f n ++ take count piece)
more_content f h n piece (Ok count) is = ap (λ (d : Files). content d n) is ∙ content-appended f n (take count piece)
more_content f h n piece (Err e) is = tt

-- what one call adds, if anything
pub one_text : {E : Type 0} (f h : Files) (n piece : List ℕ) (r : Result ℕ E) → IfOk r (λ count. h ≡ appended f n (take count piece)) → OnErr r (h ≡ f) → (text : List ℕ) × (h ≡ appended f n text)
one_text f h n piece (Ok count) is err = (take count piece, is)
one_text f h n piece (Err e) is err = ([], err)

-- A text behind what the file held, and a text at its end, are one.
pub file_grown : (f h : Files) (n text : List ℕ) → (more : List ℕ) × (h ≡ appended f n more) → content h n ≡ content f n ++ text → h ≡ appended f n text
file_grown f h n text more is =
    let long : content f n ++ more.0 ≡ content f n ++ text = sym (content-appended f n more.0) ∙ ap (λ (d : Files). content d n) (sym more.1) ∙ is in
    more.1 ∙ ap (λ (l : List ℕ). appended f n l) (append_cancel_left (content f n) _ _ long)
