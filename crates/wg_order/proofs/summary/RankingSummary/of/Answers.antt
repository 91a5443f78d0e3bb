use Rattle.std.proofs.Common.{true, [], sym, ◌∙◌}
use Rattle.wg_order.specs.Summary.{sure_pages}
use Rattle.wg_order.proofs.Surely.{surely_from}
use Rattle.wg_order.proofs.summary.RankingSummary.of.Goals as goal

pub returns : goal.returns
returns c = record {
  is = λ s low_is high_is ranked.
      let low = c.into_parts-low.ensures.low ∙ sym low_is in
      let high = c.into_parts-low.ensures.high ∙ sym high_is in
      let low3 = c.deref-3.ensures.value ∙ low in
      let high4 = c.deref-4.ensures.value ∙ high in
      let low5 = c.deref-5.ensures.value ∙ low in
      let high6 = c.deref-6.ensures.value ∙ high in
      let sure = c.count_sure.ensures ∙ (λ i. sure_pages (record { filled = true; low = low5 i; high = high6 i; pages = [] })) in
      λ i. record { first = c.first_page.ensures s.pages (rw (low3, high4) ranked) i; sure = sure i };
  surely = λ g ok o s low_is high_is. surely_from s c.args.bounds g ok c.into_parts-low.ensures.proper o low_is high_is;
}
