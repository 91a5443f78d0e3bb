-- What flows into each page from the pages below u, as a loop over the pages gathers it.
use Rattle.std.specs.Int.{div_ceil}
use Rattle.std.proofs.Common.{ℕ, All, ◌*◌, ◌≡◌, ◌≢◌, ◌+◌, ◌^◌, ◌<◌, ◌≤◌, ◌==◌, List, length, get_or, Bool, cond, ap, arith, ◌∙◌, add-one}
use Rattle.std.proofs.lemmas.List.{nil_from_length}
use Rattle.std.proofs.lemmas.List.Elements.{All-from_get_or}
use Rattle.wg_rank.specs.Sum.{sum_below}
use Rattle.wg_graph.specs.Arcs.{has_arc}
use Rattle.wg_graph.specs.Digraph.{Digraph, successors, outdegree}
use Rattle.wg_graph.specs.Numbers.{is_in}
use Rattle.wg_params.specs.declared.limits.TheConstants.{MOST_PAGES}
use Rattle.wg_rank.specs.declared.limits.TheConstants.{UNITS}
use Rattle.wg_rank.proofs.Sums.{sum_le, sum_const}

-- xs has what flows into each page from the pages below u, where page w gives x w to each successor
pub record Gathered (g : Digraph) (n u : ℕ) (x : ℕ → ℕ) (xs : List ℕ) : Type 0 where
  pub each : (v : ℕ) → v < n → get_or xs v 0 ≡ sum_below u (λ w. cond (has_arc g w v) (x w) 0)

-- d is what the pages below u without successors hold
pub record Dangling (g : Digraph) (u : ℕ) (x : ℕ → ℕ) (d : ℕ) : Type 0 where
  pub total : d ≡ sum_below u (λ w. cond (outdegree g w == 0) (x w) 0)

pub le_both : (x y z : ℕ) → x ≤ y → y ≤ z → x ≤ z
le_both x y z h k = omega arith

cond_le : (t : Bool) (x m : ℕ) → x ≤ m → cond t x 0 ≤ m
cond_le t x m h = grind arith

pub flow_le : (u m : ℕ) (t : ℕ → Bool) (x : ℕ → ℕ) → ((w : ℕ) → w < u → x w ≤ m) → sum_below u (λ w. cond (t w) (x w) 0) ≤ u * m
flow_le u m t x h =
    omega (arith, sum_le u (λ w. cond (t w) (x w) 0) (λ _. m) (λ w i. cond_le (t w) (x w) m (h w i)), sum_const u m)

pub gathered_room : (g : Digraph) (n u : ℕ) (x : ℕ → ℕ) (xs : List ℕ) (s : ℕ) → u ≤ MOST_PAGES → length xs ≡ n
    → ((w : ℕ) → w < u → x w ≤ UNITS) → s ≤ UNITS → Gathered g n u x xs → All (λ y. y + s < 2 ^ 128) xs
gathered_room g n u x xs s few e h i p =
    All-from_get_or (λ y. y + s < 2 ^ 128) xs 0
    (λ v w. omega (arith, p.each v (omega arith), flow_le u UNITS (λ w. has_arc g w v) x h))

pub dangling_room : (g : Digraph) (u : ℕ) (x : ℕ → ℕ) (d s : ℕ) → u ≤ MOST_PAGES
    → ((w : ℕ) → w < u → x w ≤ UNITS) → s ≤ UNITS → Dangling g u x d → d + s < 2 ^ 128
dangling_room g u x d s few h i p = omega (arith, p.total, flow_le u UNITS (λ w. outdegree g w == 0) x h)

pub gathered_none : (g : Digraph) (n : ℕ) (x : ℕ → ℕ) (xs : List ℕ) → All (λ y. y ≡ 0) xs → length xs ≡ n → Gathered g n 0 x xs
gathered_none g n x xs h e = record { each = λ v w. h v 0 (omega arith) }

pub gathered_more : (g : Digraph) (n u : ℕ) (x : ℕ → ℕ) (xs ys : List ℕ) → length xs ≡ n → Gathered g n u x xs
    → ((v : ℕ) → v < length xs → get_or ys v 0 ≡ get_or xs v 0 + cond (is_in v (successors g u)) (x u) 0) → Gathered g n (u + 1) x ys
gathered_more g n u x xs ys e p s = record { each = λ v w. rw add-one (s v (omega arith) ∙ ap (λ y. y + cond (has_arc g u v) (x u) 0) (p.each v w)) }

pub gathered_same : (g : Digraph) (n u : ℕ) (x : ℕ → ℕ) (xs : List ℕ) → outdegree g u ≡ 0 → Gathered g n u x xs → Gathered g n (u + 1) x xs
gathered_same g n u x xs e p = grind (arith, nil_from_length)

pub dangling_more : (g : Digraph) (u : ℕ) (x : ℕ → ℕ) (d : ℕ) → outdegree g u ≡ 0 → Dangling g u x d → Dangling g (u + 1) x (d + x u)
dangling_more g u x d e p = grind arith

pub dangling_same : (g : Digraph) (u : ℕ) (x : ℕ → ℕ) (d : ℕ) → outdegree g u ≢ 0 → Dangling g u x d → Dangling g (u + 1) x d
dangling_same g u x d e p = grind arith

-- a part rounded up is no more than the whole
pub div_ceil_le : (x d : ℕ) → div_ceil x d ≤ x
div_ceil_le x d = grind arith

pub gathered_within : (g : Digraph) (n u : ℕ) (x : ℕ → ℕ) (xs : List ℕ) → u ≤ MOST_PAGES → length xs ≡ n
    → ((w : ℕ) → w < u → x w ≤ UNITS) → Gathered g n u x xs → All (λ y. y ≤ MOST_PAGES * UNITS) xs
gathered_within g n u x xs few e h p =
    All-from_get_or (λ y. y ≤ MOST_PAGES * UNITS) xs 0
    (λ v w. omega (arith, p.each v (omega arith), flow_le u UNITS (λ w. has_arc g w v) x h))

pub dangling_within : (g : Digraph) (u : ℕ) (x : ℕ → ℕ) (d : ℕ) → u ≤ MOST_PAGES
    → ((w : ℕ) → w < u → x w ≤ UNITS) → Dangling g u x d → d ≤ MOST_PAGES * UNITS
dangling_within g u x d few h p = omega (arith, p.total, flow_le u UNITS (λ w. outdegree g w == 0) x h)
