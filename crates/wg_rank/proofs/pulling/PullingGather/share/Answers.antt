use Rattle.std.proofs.Common.{ℕ, ◌≡◌, ◌+◌, length, refl, ap, subst, ◌∙◌}
use Rattle.std.proofs.lemmas.List.{with_items_is}
use Rattle.wg_graph.specs.Digraph.{IsGraph}
use Rattle.wg_rank.specs.Rank.{sum_dangling}
use Rattle.wg_rank.specs.Intervals.{by_page}
use Rattle.wg_rank.specs.Pulling.{Pulled}
use Rattle.wg_rank.proofs.Shared.{dangling_small}
use Rattle.wg_rank.proofs.pulling.PullingGather.share.Goals as goal

pub returns : goal.returns
returns g c =
    let d = c.self.inside.arcs in
    let n : ℕ = length c.args.low.now in
    let r = c.requires in
    let e = c.share_out.ensures in
    let pages : d.nodes ≡ n = ap (λ (p : Pulled). p.graph.nodes) c.self.view_is ∙ r.pages in
    let same = with_items_is c.self.inside.lanes c.share_out.new.lanes (c.share_out.auto.lanes ∙ c.deref_mut.ensures.len) in
    record {
      graph = ap (λ (p : Pulled). p.graph) c.self.view_is;
      proper = subst (λ (p : Pulled). IsGraph p.graph) c.self.view_is c.nodes-pages.ensures.proper;
      shared = rw same e.written;
      low_dangling = subst (λ (p : Pulled). c.share_out.result.0 ≡ sum_dangling p.graph (by_page c.args.low.now)) c.self.view_is e.low_dangling;
      high_dangling = subst (λ (p : Pulled). c.share_out.result.1 ≡ sum_dangling p.graph (by_page c.args.high.now)) c.self.view_is e.high_dangling;
      low_dangling_room = dangling_small d n c.args.low.now c.share_out.result.0 r.few pages refl r.low_units e.low_dangling;
      high_dangling_room = dangling_small d n c.args.high.now c.share_out.result.1 r.few pages r.high_pages r.high_units e.high_dangling;
    }

pub share_out-requires : goal.share_out-requires
share_out-requires g c =
    let pages : c.self.inside.arcs.nodes ≡ length c.args.low.now = ap (λ (p : Pulled). p.graph.nodes) c.self.view_is ∙ c.requires.pages in
    record {
      few = c.requires.few;
      pages = pages;
      high_pages = c.requires.high_pages;
      lane_pages = ap length c.deref_mut.ensures.value ∙ c.self.invariant ∙ ap (λ (k : ℕ). k + 1) pages;
      low_units = c.requires.low_units;
      high_units = c.requires.high_units;
    }

pub invariant_of-self : goal.invariant_of-self
invariant_of-self g c =
    ap length (with_items_is c.self.inside.lanes c.share_out.new.lanes (c.share_out.auto.lanes ∙ c.deref_mut.ensures.len))
    ∙ c.share_out.auto.lanes ∙ ap length c.deref_mut.ensures.value ∙ c.self.invariant
