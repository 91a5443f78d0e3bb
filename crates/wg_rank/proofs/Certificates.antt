-- What bounds certify that hold of a graph.
use Rattle.std.proofs.Common.{ℕ, ◌≡◌, ◌+◌, ◌-◌, ◌*◌, ◌<◌, ◌≤◌, All, List, length, arith, ap, sym, ◌∙◌, add-one, inl, inr}
use Rattle.std.proofs.lemmas.List.FromFn.{fill_by_all}
use Rattle.wg_graph.specs.Digraph.{Digraph, IsGraph, arc_count}
use Rattle.wg_params.specs.declared.limits.TheConstants.{MOST_PAGES, MOST_DAMPING, MOST_ROUNDS}
use Rattle.wg_rank.specs.Sum.{sum_below}
use Rattle.wg_rank.specs.Rank.{total, gap, low, high, IsStationary, Encloses}
use Rattle.wg_rank.specs.Intervals.{Intervals, AreBounds, IsTable, AreBoundsOf, next_low, next_high, by_page}
use Rattle.wg_rank.specs.Certified.{IsCertified}
use Rattle.wg_rank.specs.Weights.{AreWeights}
use Rattle.wg_rank.specs.BoundsInside.{intervals_of, AreKept}
use Rattle.wg_rank.specs.declared.bounds.Bounds.TheInside.{Inside}
use Rattle.wg_rank.specs.declared.limits.TheConstants.{UNITS}
use Rattle.wg_rank.proofs.Sums.{sum_same}
use Rattle.wg_rank.proofs.Pageranks.{numerators_total, gap_shrinks, encloses_iterates, encloses_stationary, low_le_high, within_gap, width_is, low_rises, high_falls, low_total, rising_encloses}
use Rattle.wg_rank.proofs.Rounds.{lower_same, holds_more}
use Rattle.wg_rank.specs.Claims.{Rises}
use Rattle.std.proofs.lemmas.Bool.{cases_lt}

-- bounds within the limits
pub are_bounds : (b : Intervals) → length b.low ≤ MOST_PAGES → b.damping ≤ MOST_DAMPING → b.rounds ≤ MOST_ROUNDS → length b.high ≡ length b.low
    → AreWeights (length b.low) b.weights → AreBounds b
are_bounds b few damped counted high weighed = grind arith

-- the fields of bounds are within them
pub kept_bounds : (b : Inside) → AreKept b → AreBounds (intervals_of b)
kept_bounds b k = are_bounds (intervals_of b) k.few k.damped k.counted k.high_pages k.weighed

-- and stay so in a round
pub kept_round : (b c : Inside) → AreKept b → c.damping ≡ b.damping → c.rounds ≡ b.rounds + 1 → b.rounds < MOST_ROUNDS → c.weights ≡ b.weights
    → length c.low.items ≡ length b.low.items → length c.high.items ≡ length b.high.items → length c.inflows.items ≡ length b.inflows.items
    → (old low high : List ℕ) → old ≡ b.low.items → c.low.items ≡ low → c.high.items ≡ high → sum_below (length old) (by_page low) ≤ UNITS → All (λ x. x ≤ UNITS) high → AreKept c
kept_round b c k d r more w l h i old low high e m q t u = grind arith

-- ---- what they certify

pub gap_of : (b : Intervals) (g : Digraph) → AreBoundsOf b g → gap g (by_page b.low) ≡ gap g (low g b.damping (by_page b.weights) b.rounds)
gap_of b g o = ap (λ x. UNITS - x) (sum_same g.nodes (by_page b.low) (low g b.damping (by_page b.weights) b.rounds) o.low_is.each)

some_weight : (b : Intervals) (g : Digraph) → AreBounds b → AreBoundsOf b g → 0 < g.nodes → 0 < total g (by_page b.weights)
some_weight b g p o so = grind arith

pub certified : (b : Intervals) (g : Digraph) → IsGraph g → AreBounds b → AreBoundsOf b g → IsCertified b g
certified b g ok p o =
    let w : ℕ → ℕ = by_page b.weights in
    let da : b.damping ≤ 1000 = omega (arith, p.damped) in
    let heavy = some_weight b g p o in
    record {
      iterates = λ j h v i. rw (o.low_is.each v i, o.high_is.each v i) (encloses_iterates g b.damping w ok da (omega arith) (heavy (omega arith)) b.rounds j h v i);
      stationary = λ q z t s v i. rw (o.low_is.each v i, o.high_is.each v i) (encloses_stationary g b.damping w ok da (omega arith) (heavy (omega arith)) q z t s b.rounds v i);
      sums = λ so t. numerators_total g b.damping w ok da so (heavy so) t;
      ordered = λ v i. rw (o.low_is.each v i, o.high_is.each v i) (low_le_high g b.damping w ok da (omega arith) (heavy (omega arith)) b.rounds v i);
      within_gap = λ v i. rw (gap_of b g o, o.low_is.each v i, o.high_is.each v i) (omega (arith, within_gap g b.damping w ok da (omega arith) (heavy (omega arith)) b.rounds v));
      width = λ v i. rw (o.low_is.each v i, o.high_is.each v i) (width_is g b.damping w ok da (omega arith) (heavy (omega arith)) b.rounds v);
    }

module _ (b c : Intervals) (g : Digraph) (ok : IsGraph g) (p : AreBounds b) (o : AreBoundsOf b g) (q : AreBoundsOf c g)
    (d : c.damping ≡ b.damping) (e : c.weights ≡ b.weights) (k : c.rounds ≡ b.rounds + 1) where
  pub nested : (v : ℕ) → v < g.nodes → (by_page b.low v ≤ by_page c.low v) × (by_page c.high v ≤ by_page b.high v)
  nested v i =
      let l = rw (d, e, k) at (q.low_is.each v i) in
      let h = rw (d, e, k) at (q.high_is.each v i) in
      let da : b.damping ≤ 1000 = omega (arith, p.damped) in (
        rw (l, o.low_is.each v i) (low_rises g b.damping (by_page b.weights) ok da (omega arith) (some_weight b g p o (omega arith)) b.rounds v),
        rw (h, o.high_is.each v i) (high_falls g b.damping (by_page b.weights) ok da (omega arith) (some_weight b g p o (omega arith)) b.rounds v),
      )

  pub gap_less : 0 < g.nodes
      → 1000 * gap g (by_page c.low) ≤ b.damping * gap g (by_page b.low) + b.damping * arc_count g + 3 * 1000 * g.nodes
  gap_less so =
      let f = rw (d, e, k) at (gap_of c g q) in
      rw (f, gap_of b g o) (gap_shrinks g b.damping (by_page b.weights) ok (omega (arith, p.damped)) so (some_weight b g p o so) b.rounds)

-- what a round does to bounds: they hold again, are certified, and lie within those before, whose gap they narrow
pub record IsNext (b c : Intervals) (g : Digraph) : Type 0 where
  pub holds : AreBoundsOf b g → AreBoundsOf c g
  pub certified : AreBoundsOf b g → IsCertified c g
  pub nested : AreBoundsOf b g → (v : ℕ) → v < length b.low → (by_page b.low v ≤ by_page c.low v) × (by_page c.high v ≤ by_page b.high v)
  pub gap : AreBoundsOf b g → 0 < g.nodes
      → 1000 * gap g (by_page c.low) ≤ b.damping * gap g (by_page b.low) + b.damping * arc_count g + 3 * 1000 * g.nodes

pub round_done : (b c : Intervals) (g : Digraph) → IsGraph g → AreBounds b → AreBounds c → g.nodes ≡ length b.low → c.damping ≡ b.damping → c.weights ≡ b.weights
    → c.rounds ≡ b.rounds + 1 → IsTable c.low g.nodes (next_low g b) → IsTable c.high g.nodes (next_high g b) → IsNext b c g
round_done b c g ok p q n d e k l h = record {
  holds = holds_more b c g d e k l h;
  certified = λ o. certified c g ok q (holds_more b c g d e k l h o);
  nested = λ o v i. nested b c g ok p o (holds_more b c g d e k l h o) d e k v (omega (arith, n, i));
  gap = λ o so. gap_less b c g ok p o (holds_more b c g d e k l h o) d e k so;
}

-- ---- tables of one function are one list

tables_same : (xs ys : List ℕ) (n : ℕ) (f : ℕ → ℕ) → IsTable xs n f → IsTable ys n f → xs ≡ ys
tables_same xs ys n f t u = fill_by_all f xs n 0 t.counted t.each ∙ sym (fill_by_all f ys n 0 u.counted u.each)

pub one_only : (b c : Intervals) (g : Digraph) → AreBoundsOf b g → AreBoundsOf c g → c.damping ≡ b.damping → c.weights ≡ b.weights → c.rounds ≡ b.rounds
    → (c.low ≡ b.low) × (c.high ≡ b.high)
one_only b c g o q d e k =
    let l = rw (d, e, k) at q.low_is in
    let h = rw (d, e, k) at q.high_is in (
      tables_same c.low b.low g.nodes (low g b.damping (by_page b.weights) b.rounds) l o.low_is,
      tables_same c.high b.high g.nodes (high g b.damping (by_page b.weights) b.rounds) h o.high_is,
    )

-- ---- lower bounds that a round does not lower

pub enclosing : (g : Digraph) (a : ℕ) (w l : ℕ → ℕ) → IsGraph g → a ≤ MOST_DAMPING → (0 < g.nodes → 0 < total g w) → Rises g a w l
    → (p : ℕ → ℕ) (d : ℕ) → total g p ≡ d → IsStationary g a w p d → Encloses g l (λ v. l v + gap g l) p d
enclosing g a w l ok da heavy rises p d t fixed v i =
    let so : 0 < g.nodes = omega arith in
    rising_encloses g a w ok (omega (arith, da)) so (heavy so) (omega (arith, da)) l p d rises t fixed v i

pub complete : (b : Intervals) (g : Digraph) → IsGraph g → AreBounds b → AreBoundsOf b g
    → Rises g b.damping (by_page b.weights) (by_page b.low) × (total g (by_page b.low) ≤ UNITS)
complete b g ok p o =
    let w : ℕ → ℕ = by_page b.weights in
    let l : ℕ → ℕ = low g b.damping w b.rounds in
    let da : b.damping ≤ 1000 = omega (arith, p.damped) in (
      λ v i.
          let e = lower_same g b.damping w (by_page b.low) l v o.low_is.each in
          let r = rw add-one at (low_rises g b.damping w ok da (omega arith) (some_weight b g p o (omega arith)) b.rounds v) in
          rw (e, o.low_is.each v i) r,
      elim (cases_lt 0 g.nodes) [
        | inl so ↦ omega (arith, sum_same g.nodes (by_page b.low) l o.low_is.each, low_total g b.damping w ok da so (some_weight b g p o so) b.rounds)
        | inr z ↦ let e : g.nodes ≡ 0 = omega arith in rw e (omega arith)
      ],
    )
