use Rattle.std.proofs.Common.{arith, ℕ, ◌≡◌, ◌≤◌, ◌*◌, ◌∙◌, length, drop, refl, sym, ap, subst}
use Rattle.wg_params.specs.declared.limits.TheConstants.{MOST_PAGES}
use Rattle.wg_order.proofs.Fronts.{take_front}
use Rattle.wg_order.proofs.Surely.{surely_from}
use Rattle.wg_order.proofs.ranking.Ranking.of.Goals as goal

pub arrange-requires : goal.arrange-requires
arrange-requires c =
    let e = c.into_parts-low.ensures in
    let pages = sym (ap length (c.deref.ensures.value ∙ e.low)) in
    record {
      high_pages = ap length (c.deref-2.ensures.value ∙ e.high) ∙ e.proper.high_pages ∙ pages;
      sorted_pages = c.deref_mut.ensures.len ∙ e.room ∙ ap (λ (n : ℕ). 2 * n) pages;
    }

pub invariant_of-result : goal.invariant_of-result
invariant_of-result c =
    let e = c.into_parts-low.ensures in
    let sorted = c.arrange.new.sorted in
    let pages = sym (ap length e.low) in
    let size : length sorted ≡ c.into_parts-low.result.2.len = omega (arith, c.arrange.auto.sorted, c.deref_mut.ensures.len) in
    rw (take_front sorted (drop (length sorted) c.into_parts-low.result.2.items) c.into_parts-low.result.2.len size) record {
      few = subst (λ (n : ℕ). n ≤ MOST_PAGES) pages e.proper.few;
      high_pages = ap length e.high ∙ e.proper.high_pages ∙ pages;
      sorted_pages = size ∙ e.room ∙ ap (λ (n : ℕ). 2 * n) pages;
      ranked = λ filled. rw (c.deref.ensures.value, c.deref-2.ensures.value) at c.arrange.ensures.ranking;
      risen = λ filled. rw (c.deref.ensures.value, c.deref-2.ensures.value) at c.arrange.ensures.rising;
    }

pub returns : goal.returns
returns c =
    let e = c.into_parts-low.ensures in
    let sorted = c.arrange.new.sorted in
    let size : length sorted ≡ c.into_parts-low.result.2.len = omega (arith, c.arrange.auto.sorted, c.deref_mut.ensures.len) in
    rw (take_front sorted (drop (length sorted) c.into_parts-low.result.2.items) c.into_parts-low.result.2.len size) record {
      filled = refl;
      low = e.low;
      high = e.high;
      within = rw (sym e.low, sym e.high) at e.within;
      ranking = rw (c.deref.ensures.value, c.deref-2.ensures.value) at c.arrange.ensures.ranking;
      surely = λ g ok o. surely_from _ c.args.bounds g ok e.proper o e.low e.high;
    }
