-- One turn of each loop that draws.
use Rattle.std.proofs.Common.{◌≡◌, ℕ, suc, ◌+◌, ◌-◌, ◌%◌, ◌<◌, ◌≤◌, List, [], ◌∷◌, ◌++◌, length, replicate, Result, Ok, Err, refl, ap, ◌∙◌, arith}
use Rattle.std.specs.Prelude.{IfOk}
use Rattle.std.proofs.lemmas.List.{append-nil}
use Rattle.wg_graph.specs.Digraph.{Digraph}
use Rattle.wg_graph.specs.Growing.{padded}
use Rattle.wg_vectors.specs.Generated.{Drafted, drawn, after_draw, with_number, with_successor, begun, scattering, scattered, with_numbers, extended, drafted, lists_on, generated}

pub scatters_on : (n c k y : ℕ) (d next : Drafted) → k < c → y ≡ drawn d.state % n → next ≡ with_successor y (after_draw d) → scattering n (c - (k + 1)) next ≡ scattering n (c - k) d
scatters_on n c k y d next lt y_is next_is = let e : c - k ≡ suc (c - (k + 1)) = omega arith in rw (next_is, y_is, e) refl

pub numbers_on : (e y : ℕ) (list next : List ℕ) → y < e → next ≡ with_number y list → with_numbers (y + 1) (e - (y + 1)) next ≡ with_numbers y (e - y) list
numbers_on e y list next lt next_is = let s : e - y ≡ suc (e - (y + 1)) = omega arith in rw (next_is, s) refl

pub lists_next : (n x s : ℕ) (lists next : List (List ℕ)) (d : Drafted) → x < n → d ≡ drafted n lists s → next ≡ lists ++ d.list ∷ [] → lists_on n (n - (x + 1)) next d.state ≡ lists_on n (n - x) lists s
lists_next n x s lists next d lt d_is next_is = let e : n - x ≡ suc (n - (x + 1)) = omega arith in rw (next_is, d_is, e) refl

pub lists_all : (n x s seed : ℕ) (lists : List (List ℕ)) (g : Digraph) → n ≤ x → length lists ≡ x → lists_on n (n - x) lists s ≡ lists_on n n [] seed → g.nodes ≡ n → g.lists ≡ padded n lists → g ≡ generated seed n
unfolding generated
lists_all n x s seed lists g past count rest nodes_is lists_is = grind (arith, replicate, append-nil)

pub is_drafted : (n pages s : ℕ) (lists : List (List ℕ)) (first second third : Drafted) → pages ≡ n → first ≡ begun lists s → second ≡ scattered pages first → third ≡ extended pages second → third ≡ drafted n lists s
unfolding drafted
is_drafted n pages s lists first second third same first_is second_is third_is = grind arith

pub finished : {E : Type 0} (r : Result Digraph E) (n x s seed : ℕ) (b : Digraph) → n ≤ x → length b.lists ≡ x → b.nodes ≡ n → lists_on n (n - x) b.lists s ≡ lists_on n n [] seed →
    IfOk r (λ g. g.nodes ≡ b.nodes) → IfOk r (λ g. g.lists ≡ padded b.nodes b.lists) → IfOk r (λ g. g ≡ generated seed n)
finished (Ok g) n x s seed b past count same rest nodes lists = lists_all n x s seed b.lists g past count rest (nodes ∙ same) (lists ∙ ap (λ (m : ℕ). padded m b.lists) same)
finished (Err e) n x s seed b past count same rest nodes lists = tt
