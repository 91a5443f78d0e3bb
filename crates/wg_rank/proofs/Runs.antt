-- Sums along runs of pages, as differences of the sums of all pages below.
use Rattle.std.specs.List.{sum_by, range_with_len}
use Rattle.std.specs.Simd.Lanes.{zip2}
use Rattle.std.proofs.Common.{ℕ, zero, suc, ◌≡◌, ◌≢◌, ◌+◌, ◌-◌, ◌*◌, ◌/◌, ◌%◌, ◌^◌, ◌<◌, ◌≤◌, All, List, [], ◌∷◌, length, take, get_or, get_or-set_same, get_or-set_other, set, Bool, cond, refl, ap, arith, sym, ◌∙◌, add-one, inl, inr}
use Rattle.std.proofs.Math.Nat.{mod-eq_of_lt}
use Rattle.std.proofs.lemmas.Bool.{cases_Bool, cases_eq, ne_eqb, eq-eqb}
use Rattle.std.proofs.lemmas.List.{nil_from_length, length-set, length-take-le, get_or-take}
use Rattle.std.proofs.lemmas.List.Elements.{All-nil, All-cons}
use Rattle.std.proofs.lemmas.List.Sums.{sum_by-cons, sum_by-append}
use Rattle.wg_params.specs.declared.limits.TheConstants.{MOST_PAGES}
use Rattle.wg_graph.specs.Arcs.{has_arc}
use Rattle.wg_graph.specs.Digraph.{Digraph, outdegree}
use Rattle.wg_graph.specs.Numbers.{numbers_where}
use Rattle.wg_transpose.specs.Transposed.{predecessors}
use Rattle.wg_transpose.specs.declared.run.PageRun.{PageRun}
use Rattle.wg_transpose.specs.Runs.{numbers_of, numbers_of_all, StandApart}
use Rattle.wg_rank.specs.Sum.{sum_below}
use Rattle.wg_rank.specs.Rank.{sum_in}
use Rattle.wg_rank.specs.Pulling.{given, along}
use Rattle.wg_rank.specs.Lanes.{low_bits, high_bits, in_lanes, run_lane, page_lane, AreSummed, AreWritten, AreRunsTo}
use Rattle.wg_rank.specs.Shares.{AreShares}
use Rattle.wg_rank.specs.declared.limits.TheConstants.{UNITS}
use Rattle.wg_rank.proofs.Sums.{sum_same}
use Rattle.wg_rank.proofs.LaneSums.{low_bits_small, high_bits_small, lanes_none, lanes_of_page, lanes_sum, bits_join}
use Rattle.wg_rank.proofs.Flow.{flow_le}

-- ---- sums over lists of pages

-- pages that follow one another add their sum to that of all pages below
run_sum : (s : ℕ → ℕ) (a k : ℕ) → sum_below a s + sum_by s (range_with_len a k) ≡ sum_below (a + k) s
run_sum s a zero = let e : sum_below (a + 0) s ≡ sum_below a s = ap (λ (m : ℕ). sum_below m s) (omega arith) in omega (arith, e)
run_sum s a (suc k) =
    let e1 : sum_below (a + 1) s ≡ sum_below a s + s a = rw add-one refl in
    let e2 : sum_below (a + 1 + k) s ≡ sum_below (a + suc k) s = ap (λ (m : ℕ). sum_below m s) (omega arith) in
    omega (arith, sum_by-cons s a (range_with_len (a + 1) k), run_sum s (a + 1) k, e1, e2)

-- the numbers that pass a test add up to as much as all, if the others count 0
where_sum : (s : ℕ → ℕ) (t : ℕ → Bool) (n k : ℕ)
    → sum_below n (λ u. cond (t u) (s u) 0) + sum_by s (numbers_where t n k) ≡ sum_below (n + k) (λ u. cond (t u) (s u) 0)
where_sum s t n zero = grind arith
where_sum s t n (suc k) =
    let f : ℕ → ℕ = λ u. cond (t u) (s u) 0 in
    let e1 : sum_below (n + 1) f ≡ sum_below n f + f n = rw add-one refl in
    let e2 : sum_below (n + 1 + k) f ≡ sum_below (n + suc k) f = ap (λ (m : ℕ). sum_below m f) (omega arith) in
    let rest : sum_below (n + 1) f + sum_by s (numbers_where t (n + 1) k) ≡ sum_below (n + 1 + k) f = where_sum s t (n + 1) k in
    elim (cases_Bool (t n)) [
      | inl yes_it_is ↦
          let v : f n ≡ s n = ap (λ (b : Bool). cond b (s n) 0) yes_it_is in
          rw yes_it_is (omega (arith, sum_by-cons s n (numbers_where t (n + 1) k), rest, e1, e2, v))
      | inr no_it_is ↦
          rw no_it_is (omega (arith, rest, e1, e2, (ap (λ (b : Bool). cond b (s n) 0) no_it_is)))
    ]

-- the predecessors of a page, as a sum over all pages
pub before_sum : (g : Digraph) (s : ℕ → ℕ) (v : ℕ) → sum_by s (predecessors g v) ≡ sum_in g s v
before_sum g s v = grind (arith, where_sum)

-- ---- what pages give

pub given_none : (g : Digraph) (x : ℕ → ℕ) (u : ℕ) → outdegree g u ≡ 0 → given g x u ≡ 0
given_none g x u e = ap (λ (b : Bool). cond b 0 (x u)) (eq-eqb (outdegree g u) 0 e)

pub given_some : (g : Digraph) (x : ℕ → ℕ) (u : ℕ) → outdegree g u ≢ 0 → given g x u ≡ x u
given_some g x u e = ap (λ (b : Bool). cond b 0 (x u)) (ne_eqb (outdegree g u) 0 e)

pub given_le : (g : Digraph) (x : ℕ → ℕ) (u m : ℕ) → x u ≤ m → given g x u ≤ m
given_le g x u m h = grind arith

-- what flows to a page is what its predecessors give
pub in_sum : (g : Digraph) (x : ℕ → ℕ) (v : ℕ) → sum_by (given g x) (predecessors g v) ≡ sum_in g x v
in_sum g x v = grind (arith, given, sum_same, before_sum, nil_from_length, given_some, cases_eq)

-- ---- one page more

pub sums_more_none : (g : Digraph) (x y : ℕ → ℕ) (u : ℕ) (sums : List ℕ) → outdegree g u ≡ 0 → sums ≡ in_lanes (sum_below u) (given g x) (given g y)
    → sums ≡ in_lanes (sum_below (u + 1)) (given g x) (given g y)
sums_more_none g x y u sums e h = rw add-one (h ∙ lanes_none (given g x) (given g y) u (given_none g x u e) (given_none g y u e))

pub sums_more_some : (g : Digraph) (x y : ℕ → ℕ) (u p q : ℕ) (sums : List ℕ) → outdegree g u ≢ 0 → sums ≡ in_lanes (sum_below u) (given g x) (given g y)
    → p ≡ x u → q ≡ y u → p ≤ UNITS → q ≤ UNITS
    → zip2 (λ (a b : ℕ). (a + b) % 2 ^ 64) sums (p % 2 ^ 40 ∷ p / 2 ^ 40 ∷ q % 2 ^ 40 ∷ q / 2 ^ 40 ∷ []) ≡ in_lanes (sum_below (u + 1)) (given g x) (given g y)
sums_more_some g x y u p q sums e h j k m n =
    let low : ℕ → ℕ = given g x in
    let high : ℕ → ℕ = given g y in
    rw add-one
    (ap (λ (l : List ℕ). zip2 (λ (a b : ℕ). (a + b) % 2 ^ 64) l (p % 2 ^ 40 ∷ p / 2 ^ 40 ∷ q % 2 ^ 40 ∷ q / 2 ^ 40 ∷ [])) h
    ∙ ap (λ (l : List ℕ). zip2 (λ (a b : ℕ). (a + b) % 2 ^ 64) (in_lanes (sum_below u) low high) l)
    (lanes_of_page low high u p q (j ∙ sym (given_some g x u e)) (k ∙ sym (given_some g y u e)) m n)
    ∙ lanes_sum (sum_below u) (λ (s : ℕ → ℕ). s u) low high)

-- behind the last page it is written what all of them give
pub written_end : (lane : (ℕ → ℕ) → (ℕ → ℕ) → ℕ → List ℕ) (n m u : ℕ) (low high : ℕ → ℕ) (total : List ℕ) (xs : List (List ℕ)) → u ≡ n → m ≡ n → length xs ≡ n + 1
    → total ≡ in_lanes (sum_below u) low high → ((w : ℕ) → w < u → get_or xs w [] ≡ lane low high w) → ((w : ℕ) → w < n → low w ≤ UNITS) → ((w : ℕ) → w < n → high w ≤ UNITS)
    → AreWritten lane n low high (set xs m total)
written_end lane n m u low high total xs e f count here below small above = grind (arith, get_or-set_same, get_or-set_other, length-set)

-- what stands there then, if it was written for runs, and for pages one by one
module _ (n : ℕ) (low high : ℕ → ℕ) (lanes : List (List ℕ)) where
  pub summed_from : AreWritten run_lane n low high lanes → AreSummed n low high lanes
  summed_from h = grind arith

  pub shares_from : (k : ℕ) → k ≡ n → AreWritten page_lane n low high lanes → AreShares n low high (take k lanes)
  shares_from k is h = grind (arith, length-take-le, get_or-take)

-- ---- along runs

run_rise : (s : ℕ → ℕ) (r : PageRun) → r.from ≤ r.to → sum_below r.from s + sum_by s (numbers_of r) ≡ sum_below r.to s
run_rise s r le = run_sum s r.from (r.to - r.from) ∙ ap (λ (m : ℕ). sum_below m s) (omega arith)

along_sum : (s : ℕ → ℕ) (k : ℕ) (runs : List PageRun) → StandApart k runs → along (λ u. sum_below u s) runs ≡ sum_by s (numbers_of_all runs)
along_sum s k [] apart = refl
along_sum s k (r ∷ rs) apart =
    omega (
      arith,
      sum_by-cons (λ (r : PageRun). sum_below r.to s - sum_below r.from s) r rs,
      sum_by-append s (numbers_of r) (numbers_of_all rs),
      (run_rise s r (omega (arith, apart.1))),
      along_sum s (suc r.to) rs apart.2,
    )

ordered_from : (k : ℕ) (runs : List PageRun) → StandApart k runs → All (λ r. r.from ≤ r.to) runs
ordered_from k [] apart = All-nil (λ r. r.from ≤ r.to)
ordered_from k (r ∷ rs) apart = All-cons (λ r. r.from ≤ r.to) r rs (omega (arith, apart.1)) (ordered_from (suc r.to) rs apart.2)

module _ (g : Digraph) (v : ℕ) (runs : List PageRun) (h : AreRunsTo g v runs) where
  pub ordered : All (λ r. r.from ≤ r.to) runs
  ordered = ordered_from 0 runs h.apart

  -- along the runs of the pages that link to a page, the sums rise by what these give
  pub flow_sum : (s : ℕ → ℕ) → along (λ u. sum_below u s) runs ≡ sum_by s (predecessors g v)
  flow_sum s = along_sum s 0 runs h.apart ∙ ap (sum_by s) h.numbers

  flow_small : (s : ℕ → ℕ) (m : ℕ) → ((u : ℕ) → u < g.nodes → s u ≤ m) → along (λ u. sum_below u s) runs ≤ g.nodes * m
  flow_small s m small = omega (arith, flow_sum s, before_sum g s v, flow_le g.nodes m (λ u. has_arc g u v) s small)

  pub flow_room : (s : ℕ → ℕ) → g.nodes ≤ MOST_PAGES → ((u : ℕ) → u < g.nodes → s u ≤ UNITS) → along (λ u. sum_below u s) runs ≤ MOST_PAGES * UNITS
  flow_room s few small = omega (arith, flow_small s UNITS small)

  -- of at most 2^24 pages nothing is lost in lanes
  pub flow_joins : (s : ℕ → ℕ) → g.nodes ≤ 2 ^ 24 → ((u : ℕ) → u < g.nodes → s u ≤ UNITS)
      → along (λ u. sum_below u (low_bits s)) runs % 2 ^ 64 + along (λ u. sum_below u (high_bits s)) runs % 2 ^ 64 * 2 ^ 40 ≡ sum_by s (predecessors g v)
  flow_joins s few small =
      let low : along (λ u. sum_below u (low_bits s)) runs ≤ g.nodes * (2 ^ 40 - 1) = flow_small (low_bits s) (2 ^ 40 - 1) (λ u w. low_bits_small s u) in
      let high : along (λ u. sum_below u (high_bits s)) runs ≤ g.nodes * (2 ^ 40 - 1) =
      flow_small (high_bits s) (2 ^ 40 - 1) (λ u w. high_bits_small s u (small u w)) in
      let a : along (λ u. sum_below u (low_bits s)) runs % 2 ^ 64 ≡ sum_by (low_bits s) (predecessors g v) = mod-eq_of_lt (omega arith) ∙ flow_sum (low_bits s) in
      let b : along (λ u. sum_below u (high_bits s)) runs % 2 ^ 64 ≡ sum_by (high_bits s) (predecessors g v) = mod-eq_of_lt (omega arith) ∙ flow_sum (high_bits s) in
      rw (a, b) (bits_join s (predecessors g v))
