use Rattle.std.proofs.Common.{ℕ, ◌≡◌, ◌-◌, ◌+◌, min, arith, length, get_or, ap, sym, ◌∙◌}
use Rattle.wg_graph.specs.Digraph.{Digraph}
use Rattle.wg_rank.specs.Intervals.{by_page}
use Rattle.wg_rank.specs.Weights.{weights_or_ones}
use Rattle.wg_rank.specs.declared.limits.TheConstants.{UNITS}
use Rattle.wg_rank.proofs.Rounds.{all_within_total, settled_table, settled_total, clipped_at, least_within}
use Rattle.wg_rank.proofs.advancing.advance.Goals as goal

pub share-dangling-requires : goal.share-dangling-requires
share-dangling-requires g c = record {
  few = c.requires.few;
  pages = c.requires.pages;
  high_pages = c.requires.high_pages;
  inflow_pages = c.requires.inflow_pages;
  low_units = all_within_total UNITS c.args.low.now c.requires.low_total;
  high_units = c.requires.high_units;
}

pub settle-requires : goal.settle-requires
settle-requires g c = record {
  pages = ap (λ (d : Digraph). d.nodes) c.share-dangling.ensures.graph ∙ c.requires.pages;
  damped = c.requires.damped;
  few = c.requires.few;
  high_pages = c.requires.high_pages;
  below_room = c.share-dangling.ensures.low_dangling_room;
  above_room = c.share-dangling.ensures.high_dangling_room;
  weights = c.requires.weights;
  shared = (by_page c.args.low.now, by_page c.args.high.now, c.share-dangling.ensures.shared);
}

pub total-requires-clause-units : goal.total-requires-clause-units
total-requires-clause-units g c = all_within_total UNITS c.settle.new.low
    (settled_total (g.G.Gather.graph c.args.source.now) c.args.damping (length c.args.low.now) c.args.weights.now (by_page c.args.low.now) c.settle.new.low
    c.share-dangling.ensures.proper (omega arith) c.requires.weights (omega arith) c.requires.low_total
    (settled_table (g.G.Gather.graph c.args.source.now) c.args.damping (length c.args.low.now) c.args.weights.now (by_page c.args.low.now) c.settle.new.low
    c.share-dangling.result.0 (omega arith) (omega arith) c.share-dangling.ensures.low_dangling
    (rw c.share-dangling.ensures.graph at (c.settle.ensures.low (by_page c.args.low.now) (by_page c.args.high.now) c.share-dangling.ensures.shared))))

pub overflow_sub-total : goal.overflow_sub-total
overflow_sub-total g c = omega (
  arith,
  c.total.ensures,
  settled_total (g.G.Gather.graph c.args.source.now) c.args.damping (length c.args.low.now) c.args.weights.now (by_page c.args.low.now) c.settle.new.low
      c.share-dangling.ensures.proper (omega arith) c.requires.weights (omega arith) c.requires.low_total
      (settled_table (g.G.Gather.graph c.args.source.now) c.args.damping (length c.args.low.now) c.args.weights.now (by_page c.args.low.now) c.settle.new.low
      c.share-dangling.result.0 (omega arith) (omega arith) c.share-dangling.ensures.low_dangling
      (rw c.share-dangling.ensures.graph at (c.settle.ensures.low (by_page c.args.low.now) (by_page c.args.high.now) c.share-dangling.ensures.shared))),
)

pub cut-requires-clause-low_room : goal.cut-requires-clause-low_room
cut-requires-clause-low_room g c = all_within_total UNITS c.settle.new.low
    (settled_total (g.G.Gather.graph c.args.source.now) c.args.damping (length c.args.low.now) c.args.weights.now (by_page c.args.low.now) c.settle.new.low
    c.share-dangling.ensures.proper (omega arith) c.requires.weights (omega arith) c.requires.low_total
    (settled_table (g.G.Gather.graph c.args.source.now) c.args.damping (length c.args.low.now) c.args.weights.now (by_page c.args.low.now) c.settle.new.low
    c.share-dangling.result.0 (omega arith) (omega arith) c.share-dangling.ensures.low_dangling
    (rw c.share-dangling.ensures.graph at (c.settle.ensures.low (by_page c.args.low.now) (by_page c.args.high.now) c.share-dangling.ensures.shared))))

pub returns-clause-low : goal.returns-clause-low
returns-clause-low g c =
    settled_table (g.G.Gather.graph c.args.source.now) c.args.damping (length c.args.low.now) c.args.weights.now (by_page c.args.low.now) c.settle.new.low
    c.share-dangling.result.0 (omega arith) (omega arith) c.share-dangling.ensures.low_dangling
    (rw c.share-dangling.ensures.graph at (c.settle.ensures.low (by_page c.args.low.now) (by_page c.args.high.now) c.share-dangling.ensures.shared))

pub returns-clause-high : goal.returns-clause-high
returns-clause-high g c =
    let graph = g.G.Gather.graph c.args.source.now in
    let n : ℕ = length c.args.low.now in
    let new = rw c.share-dangling.ensures.graph at (c.settle.ensures.high (by_page c.args.low.now) (by_page c.args.high.now) c.share-dangling.ensures.shared) in
    record {
      counted = omega arith;
      each = λ v i.
          clipped_at graph c.args.damping (by_page (weights_or_ones n c.args.weights.now)) (by_page c.args.low.now) (by_page c.args.high.now) c.settle.new.low
          c.share-dangling.result.1 n _ (get_or c.settle.new.high v 0) c.total.result v (sym c.requires.pages) (returns-clause-low g c) c.share-dangling.ensures.high_dangling i
          (c.cut.ensures v (omega arith)) c.total.ensures (new v (omega arith));
    }

pub returns-clause-low_total : goal.returns-clause-low_total
returns-clause-low_total g c =
    let e : length c.settle.new.low ≡ length c.args.low.now = omega arith in
    rw (← e)
    (settled_total (g.G.Gather.graph c.args.source.now) c.args.damping (length c.args.low.now) c.args.weights.now (by_page c.args.low.now) c.settle.new.low
    c.share-dangling.ensures.proper (omega arith) c.requires.weights (omega arith) c.requires.low_total (returns-clause-low g c))

pub returns-clause-high_units : goal.returns-clause-high_units
returns-clause-high_units g c =
    let new = c.settle.ensures.high (by_page c.args.low.now) (by_page c.args.high.now) c.share-dangling.ensures.shared in
    let gap : ℕ = UNITS - c.total.result in
    least_within c.args.high.now c.cut.new.high _ (λ v. get_or c.settle.new.low v 0 + gap) UNITS (omega arith) c.requires.high_units
    (λ v i. c.cut.ensures v (omega arith) ∙ ap (λ x. min x (get_or c.settle.new.low v 0 + gap)) (new v (omega arith)))
