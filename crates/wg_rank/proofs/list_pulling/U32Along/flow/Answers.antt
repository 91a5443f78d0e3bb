use Rattle.std.specs.List.{sum_by}
use Rattle.std.proofs.Common.{◌≡◌, ◌-◌, ◌<◌, ◌≤◌, ℕ, All, length, sym, ap, subst, ◌∙◌, arith}
use Rattle.wg_params.specs.declared.limits.TheConstants.{MOST_PAGES}
use Rattle.wg_rank.proofs.Runs.{shares_from}
use Rattle.wg_rank.proofs.Listed.{shares_room}
use Rattle.wg_rank.proofs.list_pulling.U32Along.flow.Goals as goal

pub flow_from-requires : goal.flow_from-requires
flow_from-requires c =
    let r = c.requires.written in
    let few : r.0.nodes ≤ MOST_PAGES = omega (arith, r.6.pages, c.requires.few) in
    let h = shares_from r.0.nodes r.2 r.3 c.args.lanes.now _ (omega (arith, r.6.pages)) r.6 in
    record {
      within = subst (λ (n : ℕ). All (λ u. u < n) c.args.arcs.now) (sym h.pages) r.5;
      shares = (
        r.0.nodes,
        r.2,
        r.3,
        h,
        shares_room r.0 r.1 r.2 c.args.arcs.now few r.4 h.low_small,
        shares_room r.0 r.1 r.3 c.args.arcs.now few r.4 h.high_small,
      );
    }

pub returns : goal.returns
returns c = record {
  low = λ g v low high numbers proper h.
      let last : length c.args.lanes.now - 1 ≡ g.nodes = omega (arith, h.pages) in
      c.flow_from.ensures.low g.nodes low high (shares_from g.nodes low high c.args.lanes.now _ last h) ∙ ap (sum_by low) numbers;
  high = λ g v low high numbers proper h.
      let last : length c.args.lanes.now - 1 ≡ g.nodes = omega (arith, h.pages) in
      c.flow_from.ensures.high g.nodes low high (shares_from g.nodes low high c.args.lanes.now _ last h) ∙ ap (sum_by high) numbers;
}
