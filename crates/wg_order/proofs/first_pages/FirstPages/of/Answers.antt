use Rattle.std.proofs.Common.{arith, ℕ, ◌≡◌, ◌≤◌, ◌*◌, ◌∙◌, List, length, take, drop, sym, ap, subst}
use Rattle.wg_params.specs.declared.limits.TheConstants.{MOST_PAGES}
use Rattle.wg_order.specs.Front.{first_in}
use Rattle.wg_order.proofs.Fronts.{first_is, length-first_in, take_front}
use Rattle.wg_order.proofs.Surely.{surely_from}
use Rattle.wg_order.proofs.first_pages.FirstPages.of.Goals as goal

pub arrange_first-requires : goal.arrange_first-requires
arrange_first-requires c =
    let e = c.into_parts-low.ensures in
    let low = c.deref.ensures.value ∙ e.low in
    let pages = sym (ap length low) in
    record {
      high_pages = ap length (c.deref-2.ensures.value ∙ e.high) ∙ e.proper.high_pages ∙ pages;
      room_pages = c.deref_mut.ensures.len ∙ e.room ∙ ap (λ (n : ℕ). 2 * n) pages;
      few = subst (λ (n : ℕ). c.args.count ≤ n) pages c.requires.few;
    }

pub invariant_of-result : goal.invariant_of-result
invariant_of-result c =
    let e = c.into_parts-low.ensures in
    let room = c.arrange_first.new.room in
    let pages = sym (ap length e.low) in
    let size : length room ≡ c.into_parts-low.result.2.len = omega (arith, c.arrange_first.auto.room, c.deref_mut.ensures.len) in
    rw (take_front room (drop (length room) c.into_parts-low.result.2.items) c.into_parts-low.result.2.len size) record {
      few = subst (λ (n : ℕ). n ≤ MOST_PAGES) pages e.proper.few;
      high_pages = ap length e.high ∙ e.proper.high_pages ∙ pages;
      room_pages = size ∙ e.room ∙ ap (λ (n : ℕ). 2 * n) pages;
      counted = subst (λ (n : ℕ). c.args.count ≤ n) pages c.requires.few;
      front = rw (c.deref.ensures.value, c.deref-2.ensures.value) at c.arrange_first.ensures.front;
      lower = rw (c.deref.ensures.value, c.deref-2.ensures.value) at c.arrange_first.ensures.lower;
      within = rw (sym e.low, sym e.high) at e.within;
    }

pub returns : goal.returns
returns c =
    let e = c.into_parts-low.ensures in
    let room = c.arrange_first.new.room in
    let count = c.args.count in
    let n : ℕ = length c.args.bounds.low in
    let size : length room ≡ c.into_parts-low.result.2.len = omega (arith, c.arrange_first.auto.room, c.deref_mut.ensures.len) in
    let whole = take_front room (drop (length room) c.into_parts-low.result.2.items) c.into_parts-low.result.2.len size in
    let first = ap (λ (k : List ℕ). first_in count (length c.into_parts-low.result.0.items) k) whole ∙ ap (λ (k : List ℕ). first_in count (length k) room) e.low in
    let counted = length-first_in count n room (size ∙ e.room) c.requires.few in
    record {
      count = ap length first ∙ counted;
      low = e.low;
      high = e.high;
      pages = λ ranked r.
          let front = rw (c.deref.ensures.value ∙ e.low, c.deref-2.ensures.value ∙ e.high) at c.arrange_first.ensures.front in
          first ∙ first_is c.args.bounds.low c.args.bounds.high (first_in count n room) ranked front r ∙ ap (λ (k : ℕ). take k ranked) counted;
      surely = λ g ok o. surely_from _ c.args.bounds g ok e.proper o e.low e.high;
    }
