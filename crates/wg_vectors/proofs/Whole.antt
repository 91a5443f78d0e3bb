-- All lists of a generated graph.
use Rattle.std.proofs.Common.{◌≡◌, ℕ, zero, suc, ◌+◌, ◌<◌, ◌≤◌, List, [], ◌∷◌, ◌++◌, length, refl, subst, ◌∙◌, arith, length-append}
use Rattle.std.specs.Prelude.{All}
use Rattle.std.proofs.lemmas.List.Elements.{All-nil, All-push, All-weaker}
use Rattle.wg_graph.specs.Ascending.{Ascends, Below}
use Rattle.wg_vectors.specs.Generated.{Drafted, drafted, lists_on, generated}
use Rattle.wg_vectors.specs.Laws.{GeneratedIsProper, GeneratedIsSparse}
use Rattle.wg_vectors.proofs.Steps.{Fits, drafted_fits}

-- ---- laws

on_fits : (n k : ℕ) (lists : List (List ℕ)) (s : ℕ) → 0 < n → All (Fits n 78) lists → All (Fits n 78) (lists_on n k lists s)
on_fits n zero lists s some h = h
on_fits n (suc k) lists s some h =
    let d : Drafted = drafted n lists s in
    let one = drafted_fits n lists s some (All-weaker (Fits n 78) (Below n) (λ l f. f.below) lists h) in
    on_fits n k (lists ++ d.list ∷ []) d.state some (All-push (Fits n 78) lists d.list h one)

length-lists_on : (n k : ℕ) (lists : List (List ℕ)) (s : ℕ) → length (lists_on n k lists s) ≡ length lists + k
length-lists_on n zero lists s = omega arith
length-lists_on n (suc k) lists s =
    let d : Drafted = drafted n lists s in
    length-lists_on n k (lists ++ d.list ∷ []) d.state ∙ omega (arith, length-append lists (d.list ∷ []))

all_fit : (seed n : ℕ) → All (Fits n 78) (generated seed n).lists
unfolding generated
all_fit seed zero = All-nil (Fits 0 78)
all_fit seed (suc n) = on_fits (suc n) (suc n) [] seed (omega arith) (All-nil (Fits (suc n) 78))

counted_lists : (seed n : ℕ) → length (generated seed n).lists ≡ (generated seed n).nodes
unfolding generated
counted_lists seed n = length-lists_on n n [] seed ∙ omega arith

nodes_are : (seed n : ℕ) → n ≡ (generated seed n).nodes
unfolding generated
nodes_are seed n = refl

pub generated_is_proper : GeneratedIsProper
generated_is_proper seed n =
    let lists : List (List ℕ) = (generated seed n).lists in
    record {
      counted = counted_lists seed n;
      ascending = All-weaker (Fits n 78) (Ascends 0) (λ l f. f.ascends) lists (all_fit seed n);
      below = subst (λ (m : ℕ). All (Below m) lists) (nodes_are seed n) (All-weaker (Fits n 78) (Below n) (λ l f. f.below) lists (all_fit seed n));
    }

pub generated_is_sparse : GeneratedIsSparse
generated_is_sparse seed n = All-weaker (Fits n 78) (λ (l : List ℕ). length l ≤ 78) (λ l f. f.few) (generated seed n).lists (all_fit seed n)
