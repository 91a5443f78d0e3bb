-- What the pages share out, as loops over the pages leave it.
use Rattle.std.specs.Int.{div_ceil}
use Rattle.std.proofs.Common.{ℕ, ◌≡◌, ◌+◌, ◌*◌, ◌/◌, ◌^◌, ◌<◌, ◌≤◌, ◌==◌, All, List, length, get_or, cond, replicate, refl, ap, ◌∙◌, arith}
use Rattle.std.proofs.Math.Nat.{div-le_self}
use Rattle.std.proofs.lemmas.List.Elements.{All-replicate}
use Rattle.wg_params.specs.declared.limits.TheConstants.{MOST_PAGES}
use Rattle.wg_graph.specs.Digraph.{Digraph, outdegree}
use Rattle.wg_rank.specs.Sum.{sum_below}
use Rattle.wg_rank.specs.Rank.{sum_dangling}
use Rattle.wg_rank.specs.Intervals.{by_page}
use Rattle.wg_rank.specs.Inflows.{low_flows, high_flows, AreFlows}
use Rattle.wg_rank.specs.declared.limits.TheConstants.{UNITS}
use Rattle.wg_rank.proofs.Flow.{Gathered, Dangling, le_both, gathered_room, gathered_within, dangling_room, dangling_within, div_ceil_le}
use Rattle.wg_rank.proofs.SideBySide.{low_count, high_count}

-- the loop has gone through all pages
pub all_pages : (u n m : ℕ) → m ≡ n → u ≤ n → n ≤ u → u ≡ m
all_pages u n m e le ge = omega (arith, e, le, ge)

-- room that holds 0 everywhere
pub all_none : (n : ℕ) (xs : List ℕ) → xs ≡ replicate n 0 → All (λ x. x ≡ 0) xs
all_none n xs e = rw e (All-replicate (λ x. x ≡ 0) n 0 refl)

-- no bound, and no share of one, is more than 1
pub units_below : (n u : ℕ) (xs : List ℕ) → length xs ≡ n → u ≤ n → All (λ x. x ≤ UNITS) xs → (w : ℕ) → w < u → get_or xs w 0 ≤ UNITS
units_below n u xs e le h w i = h w 0 (omega (arith, e, le, i))

low_below : (g : Digraph) (n u : ℕ) (xs : List ℕ) → length xs ≡ n → u ≤ n → All (λ x. x ≤ UNITS) xs → (w : ℕ) → w < u → get_or xs w 0 / outdegree g w ≤ UNITS
low_below g n u xs e le h w i = le_both _ _ UNITS (div-le_self _ _) (units_below n u xs e le h w i)

high_below : (g : Digraph) (n u : ℕ) (xs : List ℕ) → length xs ≡ n → u ≤ n → All (λ x. x ≤ UNITS) xs → (w : ℕ) → w < u → div_ceil (get_or xs w 0) (outdegree g w) ≤ UNITS
high_below g n u xs e le h w i = le_both _ _ UNITS (div_ceil_le _ _) (units_below n u xs e le h w i)

pub low_unit : (n u by s : ℕ) (xs : List ℕ) → length xs ≡ n → u < n → All (λ x. x ≤ UNITS) xs → s ≡ get_or xs u 0 / by → s ≤ UNITS
low_unit n u by s xs e lt h is = omega (arith, is, div-le_self (get_or xs u 0) by, h u 0 (omega (arith, e, lt)))

pub high_unit : (n u by s : ℕ) (xs : List ℕ) → length xs ≡ n → u < n → All (λ x. x ≤ UNITS) xs → s ≡ div_ceil (get_or xs u 0) by → s ≤ UNITS
high_unit n u by s xs e lt h is = omega (arith, is, div_ceil_le (get_or xs u 0) by, h u 0 (omega (arith, e, lt)))

-- ---- what dangling pages hold

-- one page more leaves a sum that fits
pub dangling_fits : (g : Digraph) (n u : ℕ) (xs : List ℕ) (d : ℕ) → n ≤ MOST_PAGES → length xs ≡ n → u < n → All (λ x. x ≤ UNITS) xs
    → Dangling g u (λ w. get_or xs w 0) d → d + get_or xs u 0 < 2 ^ 128
dangling_fits g n u xs d few e lt h p =
    dangling_room g u (λ w. get_or xs w 0) d (get_or xs u 0) (omega (arith, few, lt)) (units_below n u xs e (omega (arith, lt)) h) (h u 0 (omega (arith, e, lt))) p

-- in the end it is what all of them hold
pub dangling_all : (g : Digraph) (u : ℕ) (xs : List ℕ) (d : ℕ) → u ≡ g.nodes → Dangling g u (λ w. get_or xs w 0) d → d ≡ sum_dangling g (by_page xs)
dangling_all g u xs d e p = p.total ∙ ap (λ (k : ℕ). sum_below k (λ w. cond (outdegree g w == 0) (get_or xs w 0) 0)) e

-- which is no more than 1 for each page
pub dangling_small : (g : Digraph) (n : ℕ) (xs : List ℕ) (d : ℕ) → n ≤ MOST_PAGES → g.nodes ≡ n → length xs ≡ n → All (λ x. x ≤ UNITS) xs
    → d ≡ sum_dangling g (by_page xs) → d ≤ MOST_PAGES * UNITS
dangling_small g n xs d few m e h is = grind (arith, dangling_within, units_below)

-- ---- what flows along arcs

-- the room for two sums of each page stays as long
pub twice_pages : (n : ℕ) (xs ys zs : List ℕ) → length xs ≡ length ys → length ys ≡ length zs → length zs ≡ 2 * n → length xs ≡ 2 * n
twice_pages n xs ys zs e h k = e ∙ h ∙ k

-- no sum of shares leaves its 128 bits when one more comes to it
pub low_sums_fit : (g : Digraph) (n u by s : ℕ) (low xs : List ℕ) → n ≤ MOST_PAGES → length low ≡ n → length xs ≡ 2 * n → u < n → All (λ x. x ≤ UNITS) low
    → s ≡ get_or low u 0 / by → Gathered g n u (λ w. get_or low w 0 / outdegree g w) (low_flows xs) → All (λ y. y + s < 2 ^ 128) (low_flows xs)
low_sums_fit g n u by s low xs few e m lt h is p =
    gathered_room g n u (λ w. get_or low w 0 / outdegree g w) (low_flows xs) s (omega (arith, few, lt)) (low_count n xs m) (low_below g n u low e (omega (arith, lt)) h)
    (low_unit n u by s low e lt h is) p

pub high_sums_fit : (g : Digraph) (n u by s : ℕ) (high xs : List ℕ) → n ≤ MOST_PAGES → length high ≡ n → length xs ≡ 2 * n → u < n → All (λ x. x ≤ UNITS) high
    → s ≡ div_ceil (get_or high u 0) by → Gathered g n u (λ w. div_ceil (get_or high w 0) (outdegree g w)) (high_flows xs) → All (λ y. y + s < 2 ^ 128) (high_flows xs)
high_sums_fit g n u by s high xs few e m lt h is p =
    gathered_room g n u (λ w. div_ceil (get_or high w 0) (outdegree g w)) (high_flows xs) s (omega (arith, few, lt)) (high_count xs ∙ low_count n xs m)
    (high_below g n u high e (omega (arith, lt)) h) (high_unit n u by s high e lt h is) p

-- when the shares of all pages are in, the sums are what flows to each page
pub flows_end : (g : Digraph) (n u : ℕ) (low high xs : List ℕ) → n ≤ MOST_PAGES → g.nodes ≡ n → u ≡ g.nodes → length low ≡ n → length high ≡ n → length xs ≡ 2 * n
    → All (λ x. x ≤ UNITS) low → All (λ x. x ≤ UNITS) high
    → Gathered g n u (λ w. get_or low w 0 / outdegree g w) (low_flows xs) → Gathered g n u (λ w. div_ceil (get_or high w 0) (outdegree g w)) (high_flows xs)
    → AreFlows g (by_page low) (by_page high) xs
flows_end g n u low high xs few m e a b c h i p q =
    let pages : length (low_flows xs) ≡ n = low_count n xs c in
    let le : u ≤ n = omega (arith, m, e) in
    record {
      low = record { counted = low_count g.nodes xs (omega (arith, c, m)); each = λ v w. rw (← e) (p.each v (omega (arith, m, w))) };
      high = record { counted = high_count xs ∙ low_count g.nodes xs (omega (arith, c, m)); each = λ v w. rw (← e) (q.each v (omega (arith, m, w))) };
      low_room = gathered_within g n u (λ w. get_or low w 0 / outdegree g w) (low_flows xs) (omega (arith, le, few)) pages (low_below g n u low a le h) p;
      high_room = gathered_within g n u (λ w. div_ceil (get_or high w 0) (outdegree g w)) (high_flows xs) (omega (arith, le, few)) (high_count xs ∙ pages) (high_below g n u high b le i) q;
    }
