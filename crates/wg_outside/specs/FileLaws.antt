-- Files by their names, after several changes: what the laws of sinks and the lemmas on files rest on.
use Rattle.std.proofs.Common.{◌≡◌, ℕ, Bool, true, false, cond, List, [], ◌∷◌, ◌++◌, refl, sym, ◌∙◌, ap, append_assoc, Option, Some, unwrap_or}
use Rattle.std.specs.Ordering.{nat_cmp, eq_by_cmp}
use Rattle.std.specs.Cmp.{eq_by_cmp_equiv}
use Rattle.std.specs.Cmp.Lexicographic.{slice_cmp}
use Rattle.std.proofs.lemmas.Cmp.{nat_list_cmp_total}
use Rattle.std.proofs.lemmas.List.{append-nil}
use Rattle.std.specs.FinMap.{get, insert, get-insert, same_map, slice_cmp-IsAntisymmetric, nat_cmp-IsAntisymmetric}
use Rattle.wg_outside.specs.Outside.{Files, appended, content}

-- one name is another
abbrev pub is_name : List ℕ → List ℕ → Bool
is_name q n = eq_by_cmp (slice_cmp nat_cmp) q n

pub is_name_refl : (n : List ℕ) → is_name n n ≡ true
is_name_refl n = (eq_by_cmp_equiv nat_list_cmp_total).refl n

pub get-insert_name : (f : Files) (n b q : List ℕ) → get (insert f n b) q ≡ cond (is_name q n) (Some b) (get f q)
get-insert_name f n b q = get-insert nat_list_cmp_total f n b q

pub get-insert_same : (f : Files) (n b : List ℕ) → get (insert f n b) n ≡ Some b
get-insert_same f n b = get-insert_name f n b n ∙ ap (λ t. cond t (Some b) (get f n)) (is_name_refl n)

pub same_files : (f h : Files) → ((q : List ℕ) → get f q ≡ get h q) → f ≡ h
same_files f h each = same_map nat_list_cmp_total (slice_cmp-IsAntisymmetric nat_cmp-IsAntisymmetric) f h each

over : {A : Type 0} (t : Bool) (x y z : A) → cond t x (cond t y z) ≡ cond t x z
over true x y z = refl
over false x y z = refl

-- the later of two files of one name stays
pub insert-insert : (f : Files) (n a b : List ℕ) → insert (insert f n a) n b ≡ insert f n b
insert-insert f n a b =
    same_files _ _ (λ q. get-insert_name (insert f n a) n b q
    ∙ ap (cond (is_name q n) (Some b)) (get-insert_name f n a q) ∙ over (is_name q n) (Some b) (Some a) (get f q)
    ∙ sym (get-insert_name f n b q))

-- two pieces at the end of a file are one
pub appended-append : (f : Files) (n a b : List ℕ) → appended (appended f n a) n b ≡ appended f n (a ++ b)
appended-append f n [] b = refl
appended-append f n (x ∷ a) [] = ap (λ l. appended f n l) (sym (append-nil (x ∷ a)))
appended-append f n (x ∷ a) (y ∷ b) =
    let whole = content f n ++ x ∷ a in
    ap (λ (o : Option (List ℕ)). insert (insert f n whole) n (unwrap_or o [] ++ y ∷ b)) (get-insert_same f n whole)
    ∙ insert-insert f n whole (whole ++ y ∷ b)
    ∙ ap (λ (l : List ℕ). insert f n l) (append_assoc (content f n) (x ∷ a) (y ∷ b))
