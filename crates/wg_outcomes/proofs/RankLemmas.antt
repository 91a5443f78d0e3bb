-- Bounds that were made are those of the validation, and so is their ranking; and what is proved of it.
use Rattle.std.proofs.Common.{◌≡◌, ℕ, List, length, take, min, true, refl, sym, ◌∙◌, ap}
use Rattle.std.proofs.{lemmas.List.take_min, lemmas.List.Sorted.length_permutation}
use Rattle.std.proofs.lemmas.List.FromFn.{length-range_with_len}
use Rattle.wg_rank.specs.{Rank.low, Rank.high, Intervals.Intervals, Intervals.AreBounds, Rounds.bounds_after}
use Rattle.wg_rank.proofs.{Certificates.certified, After.are_bounds, After.bounds_hold}
use Rattle.wg_order.specs.Order.{IsRanking, Positions}
use Rattle.wg_order.proofs.Surely.{surely_from}
use Rattle.wg_outcomes.specs.Readings.{Readings}
use Rattle.wg_outcomes.specs.Ranked.{RankingIsProven, pages_of, positions_of, rank_lines, ranking_text}

-- a ranking has each page once
counted : (low high pages : List ℕ) → IsRanking low high pages → length pages ≡ length low
counted low high pages is = length_permutation _ _ is.all ∙ length-range_with_len 0 (length low)

-- ---- the first pages of the ranking by bounds

-- a line tells bounds and positions, and the order of the pages does not matter for them
same_lines : (s : Positions) (low high pages all : List ℕ) → s.low ≡ low → s.high ≡ high → s.pages ≡ pages
    → rank_lines s s.pages ≡ rank_lines (record { filled = true; low = low; high = high; pages = all }) pages
same_lines s low high pages all e f h = λ i. rank_lines (record { filled = true; low = e i; high = f i; pages = all }) (h i)

-- of as many pages as are asked for, or of all
pub first_text : (b : Intervals) (s : Positions) (count : ℕ) → s.low ≡ b.low → s.high ≡ b.high
    → ((ranked : List ℕ) → IsRanking b.low b.high ranked → s.pages ≡ take count ranked)
    → (r : Readings) (top : ℕ) → count ≡ min top (length b.low) → rank_lines s s.pages ≡ ranking_text r b top
first_text b s count e f h r top k =
    let all : List ℕ = pages_of r b in
    let is : IsRanking b.low b.high all = r.ranking.reads b.low b.high in
    let size : length all ≡ length b.low = counted b.low b.high all is in
    let cut : take count all ≡ take top all =
    ap (λ (n : ℕ). take n all) k ∙ ap (λ (n : ℕ). take (min top n) all) (sym size) ∙ take_min top all in
    same_lines s b.low b.high (take top all) all e f (h all is ∙ cut)

pub proven : (r : Readings) (rounds damping : ℕ) → RankingIsProven r rounds damping
proven r rounds damping few damped g ok small given are =
    let b : Intervals = bounds_after g given damping rounds in
    let bounds : AreBounds b = are_bounds g given rounds damping few damped small are in
    record {
      certified = certified b g ok bounds (bounds_hold g given rounds damping);
      surely = surely_from (positions_of r b) b g ok bounds (bounds_hold g given rounds damping) refl refl;
    }
