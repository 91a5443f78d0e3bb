use Rattle.std.proofs.Common.{◌+◌, ◌<◌, length, refl, ap, sym, subst, ◌∙◌}
use Rattle.std.specs.Vec.{with_items}
use Rattle.std.proofs.lemmas.List.{with_items_is}
use Rattle.wg_params.specs.declared.limits.TheConstants.{MOST_ROUNDS}
use Rattle.wg_rank.specs.Intervals.{Intervals, AreBounds, IsTable, next_low, next_high}
use Rattle.wg_rank.specs.Weights.{weights_or_ones}
use Rattle.wg_rank.proofs.Rounds.{lower_table, clipped_table}
use Rattle.wg_rank.proofs.Certificates.{kept_bounds, kept_round, round_done}
use Rattle.wg_rank.proofs.bounds.Bounds.pull.Goals as goal

pub advance-requires : goal.advance-requires
advance-requires g c =
    let k = c.self.invariant in
    rw (c.deref_mut.ensures.value, c.deref_mut-2.ensures.value, c.deref_mut-3.ensures.value, c.as_slice.ensures) record {
      pages = c.requires.pages ∙ sym (ap (λ b. length b.low) c.self.view_is);
      few = k.few;
      damped = k.damped;
      high_pages = k.high_pages;
      inflow_pages = k.inflow_pages;
      weights = k.weighed;
      low_total = k.low_total;
      high_units = k.high_units;
    }

pub invariant_of-self : goal.invariant_of-self
invariant_of-self g c =
    let low = with_items_is c.self.inside.low c.advance.new.low (c.advance.auto.low ∙ c.deref_mut.ensures.len) in
    let high = with_items_is c.self.inside.high c.advance.new.high (c.advance.auto.high ∙ c.deref_mut-2.ensures.len) in
    let flows = with_items_is c.self.inside.inflows c.advance.new.inflows (c.advance.auto.inflows ∙ c.deref_mut-3.ensures.len) in
    kept_round c.self.inside _ c.self.invariant refl refl (subst (λ (b : Intervals). b.rounds < MOST_ROUNDS) (sym c.self.view_is) c.requires.more) refl
    (ap length low ∙ c.advance.auto.low ∙ ap length c.deref_mut.ensures.value)
    (ap length high ∙ c.advance.auto.high ∙ ap length c.deref_mut-2.ensures.value)
    (ap length flows ∙ c.advance.auto.inflows ∙ ap length c.deref_mut-3.ensures.value)
    c.deref_mut.result.now c.advance.new.low c.advance.new.high c.deref_mut.ensures.value low high c.advance.ensures.low_total c.advance.ensures.high_units

pub returns : goal.returns
returns g c =
    let graph = g.G.Gather.graph c.args.source.now in
    let view = c.self.view_is in
    let low = subst (λ (b : Intervals). IsTable (with_items c.self.inside.low c.advance.new.low).items graph.nodes (next_low graph b)) view
    (lower_table graph c.self.inside.damping _ c.advance.new.low c.self.inside.low.items c.deref_mut.result.now c.self.inside.weights c.as_slice.result.now
    (with_items_is c.self.inside.low c.advance.new.low (c.advance.auto.low ∙ c.deref_mut.ensures.len))
    c.deref_mut.ensures.value c.as_slice.ensures c.advance.ensures.low) in
    let high = subst (λ (b : Intervals). IsTable (with_items c.self.inside.high c.advance.new.high).items graph.nodes (next_high graph b)) view
    (clipped_table graph c.self.inside.damping _ c.advance.new.high c.self.inside.low.items c.deref_mut.result.now c.self.inside.high.items c.deref_mut-2.result.now
    c.self.inside.weights c.as_slice.result.now
    (with_items_is c.self.inside.high c.advance.new.high (c.advance.auto.high ∙ c.deref_mut-2.ensures.len))
    c.deref_mut.ensures.value c.deref_mut-2.ensures.value c.as_slice.ensures c.advance.ensures.high) in
    let weights = ap (λ n. weights_or_ones n c.self.inside.weights) (low.counted ∙ c.requires.pages ∙ sym (ap (λ b. length b.low) view)) ∙ ap (λ b. b.weights) view in
    let next = round_done c.args.self.now _ graph c.advance.ensures.proper (subst (λ (b : Intervals). AreBounds b) view (kept_bounds c.self.inside c.self.invariant))
    (kept_bounds _ (invariant_of-self g c)) c.requires.pages (ap (λ b. b.damping) view) weights (ap (λ b. b.rounds + 1) view) low high in
    record {
      graph = c.advance.ensures.graph;
      damping = ap (λ b. b.damping) view;
      weights = weights;
      rounds = ap (λ b. b.rounds + 1) view;
      low = low;
      high = high;
      holds = next.holds;
      certified = next.certified;
      nested = next.nested;
      gap = next.gap;
    }
