-- What a verified certificate says of stationary vectors, and of bounds that rounds have found.
use Rattle.std.proofs.Common.{ℕ, ◌≡◌, ◌-◌, ◌<◌, List, length, Option, MatchOption, Result, Ok, Err, IfOk, refl, sym, subst, arith}
use Rattle.wg_graph.specs.Digraph.{Digraph, IsGraph}
use Rattle.wg_rank.specs.Sum.{sum_below}
use Rattle.wg_rank.specs.Rank.{lower, gap, EnclosesStationary}
use Rattle.wg_rank.specs.Intervals.{Intervals, AreBounds, AreBoundsOf, by_page}
use Rattle.wg_rank.specs.Weights.{AreWeights, weights_or_ones}
use Rattle.wg_rank.specs.Claims.{Claim, IsClaim, claim_of_bounds, AreAtMost, Rises, FallsFirst, IsJudged}
use Rattle.wg_rank.specs.declared.limits.TheConstants.{UNITS}
use Rattle.wg_rank.specs.declared.fault.JudgeError.{JudgeError}
use Rattle.wg_rank.specs.declared.fault.JudgeError.TheVariants as errors
use Rattle.wg_rank.proofs.Certificates.{enclosing, complete}

pub judged_same : (g : Digraph) (c : Claim) (a : ℕ) (l ws vs : List ℕ) (r : Result ℕ JudgeError) → a ≡ c.damping → l ≡ c.low
    → weights_or_ones (length l) vs ≡ ws → IsJudged g (record { damping = a; low = l }) (by_page (weights_or_ones (length l) vs)) r → IsJudged g c (by_page ws) r
judged_same g c a l ws vs r e f h t =
    let same : ◌≡◌ {A = Claim} (record { damping = a; low = l }) c = λ i. record { damping = e i; low = f i } in
    rw (← same, ← h) t

pub judged_encloses : (g : Digraph) (c : Claim) (ws : List ℕ) (r : Result ℕ JudgeError) → IsGraph g → IsClaim c → g.nodes ≡ length c.low
    → AreWeights (length c.low) ws → IsJudged g c (by_page ws) r
    → IfOk r (EnclosesStationary g c.damping (by_page ws) (by_page c.low))
judged_encloses g c ws (Ok left) ok claim n heavy h = λ p d t fixed. rw h.1
    (enclosing g c.damping (by_page ws) (by_page c.low) ok claim.damped (λ so. subst (λ k. 0 < sum_below k (by_page ws)) (sym n) (heavy.some (omega arith))) h.0 p d t fixed)
judged_encloses g c ws (Err e) ok claim n heavy h = tt

pub judged_complete : (g : Digraph) (c : Claim) (ws : List ℕ) (r : Result ℕ JudgeError) → IsGraph g → IsJudged g c (by_page ws) r
    → (b : Intervals) → AreBounds b → AreBoundsOf b g → claim_of_bounds b ≡ c → b.weights ≡ ws → (page : ℕ) → r ≡ Err (errors.Falls page) → ⊥
judged_complete g c ws r ok h b p o d e page is =
    let f = rw (is, ← d, ← e) at h in
    omega (arith, f.falls, (complete b g ok p o).0 page f.there)

-- the first page whose bound is greater than the next one falls
pub first_of_round : (g : Digraph) (a n : ℕ) (w next : ℕ → ℕ) (low : List ℕ) (r : Option ℕ) → g.nodes ≡ n
    → ((v : ℕ) → v < g.nodes → next v ≡ lower g a w (by_page low) v)
    → MatchOption r (AreAtMost n (by_page low) next) (λ x. (x < n) × (next x < by_page low x) × AreAtMost x (by_page low) next)
    → MatchOption r (Rises g a w (by_page low)) (FallsFirst g a w (by_page low))
first_of_round g a n w next low r h h2 h3 = grind arith

-- what bounds leave of 1
pub left_of : (g : Digraph) (xs : List ℕ) (t : ℕ) → t ≡ sum_below (length xs) (by_page xs) → g.nodes ≡ length xs → UNITS - t ≡ gap g (by_page xs)
left_of g xs t is m = rw (is, m) refl
