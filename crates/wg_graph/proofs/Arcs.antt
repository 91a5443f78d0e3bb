-- The arcs of lists, one after the other.
use Rattle.std.proofs.Common.{◌≡◌, ℕ, zero, suc, ◌+◌, ◌-◌, ◌<◌, ◌≤◌, List, [], ◌∷◌, ◌++◌, map, length, take, drop, get_or, set, replicate, refl, sym, ap, ◌∙◌, arith, append_assoc, append-nil, length-append}
use Rattle.std.specs.List.{sum_by}
use Rattle.std.proofs.lemmas.List.{take_all, take_more, length-take-le, take-append-drop, set_at, map-append, length-map}
use Rattle.std.proofs.lemmas.List.Sums.{sum_by-cons}
use Rattle.wg_graph.specs.Growing.{padded, with_arc}
use Rattle.wg_graph.proofs.Prefixes.{padded_at, length-padded}
use Rattle.wg_graph.specs.Arcs.{arcs_from}

pub arcs_from-append : (u : ℕ) (xs ys : List (List ℕ)) → arcs_from u (xs ++ ys) ≡ arcs_from u xs ++ arcs_from (u + length xs) ys
arcs_from-append u [] ys = ap (λ (k : ℕ). arcs_from k ys) (omega arith)
arcs_from-append u (x ∷ xs) ys =
    let at : u + 1 + length xs ≡ u + length (x ∷ xs) = omega arith in
    ap (λ (l : List (ℕ × ℕ)). map (λ v. (u, v)) x ++ l) (arcs_from-append (u + 1) xs ys ∙ ap (λ (k : ℕ). arcs_from (u + 1) xs ++ arcs_from k ys) at)
    ∙ sym (append_assoc (map (λ v. (u, v)) x) (arcs_from (u + 1) xs) (arcs_from (u + length (x ∷ xs)) ys))

-- one page more
pub arcs_from_more : (lists : List (List ℕ)) (i : ℕ) → i < length lists → arcs_from 0 (take (i + 1) lists) ≡ arcs_from 0 (take i lists) ++ map (λ v. (i, v)) (get_or lists i [])
arcs_from_more lists i lt =
    let here : List ℕ = get_or lists i [] in
    let at : 0 + length (take i lists) ≡ i = omega (arith, length-take-le i lists (omega arith)) in
    ap (arcs_from 0) (take_more lists i [] lt) ∙ arcs_from-append 0 (take i lists) (here ∷ []) ∙ ap (λ (k : ℕ). arcs_from 0 (take i lists) ++ arcs_from k (here ∷ [])) at ∙ ap (λ (l : List (ℕ × ℕ)). arcs_from 0 (take i lists) ++ l) (append-nil (map (λ v. (i, v)) here))

-- the pages up to one, and the rest
pub arcs_from_split : (lists : List (List ℕ)) (i : ℕ) → (rest : List (ℕ × ℕ)) × (arcs_from 0 lists ≡ arcs_from 0 (take i lists) ++ rest)
arcs_from_split lists i = (arcs_from (0 + length (take i lists)) (drop i lists), ap (arcs_from 0) (sym (take-append-drop i lists)) ∙ arcs_from-append 0 (take i lists) (drop i lists))

-- ---- one arc more

no_arcs_from : (u k : ℕ) → arcs_from u (replicate k []) ≡ []
no_arcs_from u zero = refl
no_arcs_from u (suc k) = no_arcs_from (u + 1) k

pub padded_arcs_from : (n : ℕ) (lists : List (List ℕ)) → arcs_from 0 (padded n lists) ≡ arcs_from 0 lists
padded_arcs_from n lists =
    let k : ℕ = n - length lists in
    arcs_from-append 0 lists (replicate k []) ∙ ap (λ (l : List (ℕ × ℕ)). arcs_from 0 lists ++ l) (no_arcs_from (0 + length lists) k) ∙ append-nil (arcs_from 0 lists)

-- lists whose last page is m
pub last_list : (init : List (List ℕ)) (list : List ℕ) (m : ℕ) → length init ≡ m → arcs_from 0 (init ++ list ∷ []) ≡ arcs_from 0 init ++ map (λ v. (m, v)) list
last_list init list m size =
    let at : 0 + length init ≡ m = omega arith in
    arcs_from-append 0 init (list ∷ []) ∙ ap (λ (k : ℕ). arcs_from 0 init ++ arcs_from k (list ∷ [])) at ∙ ap (λ (l : List (ℕ × ℕ)). arcs_from 0 init ++ l) (append-nil (map (λ v. (m, v)) list))

-- all but the last of some lists, and the last
pub split_last : (lists : List (List ℕ)) (m : ℕ) → length lists ≡ m + 1 → lists ≡ take m lists ++ get_or lists m [] ∷ []
split_last lists m size = sym (take_all (m + 1) lists (omega arith)) ∙ take_more lists m [] (omega arith)

pub with_arc_arcs : (lists : List (List ℕ)) (x v : ℕ) → length lists ≤ x + 1 → arcs_from 0 (with_arc lists x v) ≡ arcs_from 0 lists ++ (x, v) ∷ []
with_arc_arcs lists x v le =
    let whole : List (List ℕ) = padded (x + 1) lists in
    let size : length whole ≡ x + 1 = length-padded (x + 1) lists le in
    let init : List (List ℕ) = take x whole in
    let old : List ℕ = get_or lists x [] in
    let front : length init ≡ x = length-take-le x whole (omega arith) in
    let parts : whole ≡ init ++ old ∷ [] = split_last whole x size ∙ ap (λ (l : List ℕ). init ++ l ∷ []) (padded_at (x + 1) lists x) in
    let new : with_arc lists x v ≡ init ++ (old ++ v ∷ []) ∷ [] = ap (λ (ls : List (List ℕ)). set ls x (old ++ v ∷ [])) parts ∙ set_at init old [] (old ++ v ∷ []) x front in
    ap (arcs_from 0) new ∙ last_list init (old ++ v ∷ []) x front ∙ ap (λ (l : List (ℕ × ℕ)). arcs_from 0 init ++ l) (map-append (λ (w : ℕ). (x, w)) old (v ∷ []))
    ∙ sym (append_assoc (arcs_from 0 init) (map (λ w. (x, w)) old) ((x, v) ∷ []))
    ∙ ap (λ (l : List (ℕ × ℕ)). l ++ (x, v) ∷ []) (sym (last_list init old x front) ∙ ap (arcs_from 0) (sym parts) ∙ padded_arcs_from (x + 1) lists)

pub length-arcs_from : (u : ℕ) (lists : List (List ℕ)) → length (arcs_from u lists) ≡ sum_by (λ (l : List ℕ). length l) lists
length-arcs_from u [] = refl
length-arcs_from u (list ∷ lists) =
    let rest = length-arcs_from (u + 1) lists in
    omega (arith, length-append (map (λ v. (u, v)) list) (arcs_from (u + 1) lists), length-map {B = ℕ × ℕ} list (λ (v : ℕ). (u, v)), sum_by-cons (λ (l : List ℕ). length l) list lists)
