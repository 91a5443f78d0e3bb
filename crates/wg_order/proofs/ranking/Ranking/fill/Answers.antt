use Rattle.std.proofs.Common.{arith, ℕ, ◌≡◌, ◌≤◌, ◌*◌, ◌∙◌, length, drop, refl, sym, ap, subst}
use Rattle.wg_params.specs.declared.limits.TheConstants.{MOST_PAGES}
use Rattle.wg_order.proofs.Fronts.{take_front}
use Rattle.wg_order.proofs.Surely.{surely_from}
use Rattle.wg_order.proofs.ranking.Ranking.fill.Goals as goal

pub copy_from_slice-requires-2 : goal.copy_from_slice-requires-2
copy_from_slice-requires-2 c = omega (arith, c.lower.ensures.proper.high_pages, ap length c.upper.ensures, ap (λ s. length s.low) c.self.view_is)

pub arrange-requires : goal.arrange-requires
arrange-requires c =
    let proper = c.lower.ensures.proper in
    let low = c.deref.ensures.value ∙ c.copy_from_slice.ensures.items ∙ c.lower.ensures.value in
    let pages = sym (ap length low) in
    record {
      high_pages = ap length (c.deref-2.ensures.value ∙ c.copy_from_slice-2.ensures.items ∙ c.upper.ensures) ∙ proper.high_pages ∙ pages;
      sorted_pages = ap length c.deref_mut.ensures.value ∙ c.self.invariant.sorted_pages ∙ ap (λ (n : ℕ). 2 * n) (ap (λ s. length s.low) c.self.view_is ∙ sym c.requires.pages ∙ pages);
    }

pub invariant_of-self : goal.invariant_of-self
invariant_of-self c =
    let proper = c.lower.ensures.proper in
    let sorted = c.arrange.new.sorted in
    let pages = sym (ap length (c.copy_from_slice.ensures.items ∙ c.lower.ensures.value)) in
    let size : length sorted ≡ c.self.inside.sorted.len = omega (arith, c.arrange.auto.sorted, c.deref_mut.ensures.len) in
    let kept : length sorted ≡ length c.self.inside.sorted.items = omega (arith, c.arrange.auto.sorted, ap length c.deref_mut.ensures.value) in
    rw (take_front sorted (drop (length sorted) c.self.inside.sorted.items) c.self.inside.sorted.len size) record {
      few = subst (λ (n : ℕ). n ≤ MOST_PAGES) pages proper.few;
      high_pages = ap length (c.copy_from_slice-2.ensures.items ∙ c.upper.ensures) ∙ proper.high_pages ∙ pages;
      sorted_pages = kept ∙ c.self.invariant.sorted_pages ∙ ap (λ (n : ℕ). 2 * n) (ap (λ s. length s.low) c.self.view_is ∙ sym c.requires.pages ∙ pages);
      ranked = λ filled. rw (c.deref.ensures.value, c.deref-2.ensures.value) at c.arrange.ensures.ranking;
      risen = λ filled. rw (c.deref.ensures.value, c.deref-2.ensures.value) at c.arrange.ensures.rising;
    }

pub returns : goal.returns
returns c =
    let low = c.copy_from_slice.ensures.items ∙ c.lower.ensures.value in
    let high = c.copy_from_slice-2.ensures.items ∙ c.upper.ensures in
    let sorted = c.arrange.new.sorted in
    let size : length sorted ≡ c.self.inside.sorted.len = omega (arith, c.arrange.auto.sorted, c.deref_mut.ensures.len) in
    rw (take_front sorted (drop (length sorted) c.self.inside.sorted.items) c.self.inside.sorted.len size) record {
      filled = refl;
      low = low;
      high = high;
      ranking = rw (c.deref.ensures.value, c.deref-2.ensures.value) at c.arrange.ensures.ranking;
      surely = λ g ok o. surely_from _ c.args.bounds.now g ok c.lower.ensures.proper o low high;
    }
