use Rattle.std.proofs.Common.{ℕ, ◌+◌, ◌-◌, ◌∙◌}
use Rattle.std.proofs.lemmas.List.{with_items_is}
use borrow.Rule.Slice.PartMut.{put_mid}
use Rattle.wg_transpose.proofs.Next.{next_counted, next_few, next_held, next_least, next_length, next_numbers, next_sum}
use Rattle.wg_transpose.proofs.ranges.Ranges.advance.Goals as goal

pub lists_with-lists-requires : goal.lists_with-lists-requires
lists_with-lists-requires g c = record { few = next_sum c.self.view_is c.requires.holds c.deref.ensures.value }

pub fill-requires : goal.fill-requires
fill-requires g c =
    let r = c.lists_with-lists.ensures in
    let size = c.deref_mut-2.ensures.len ∙ c.in_ok-self-inside.ensures.len in
    record {
      counted = next_counted c.self.view_is c.requires.holds c.deref.ensures.value r.within c.deref_mut.ensures.value;
      room = next_numbers c.self.view_is c.requires.holds c.deref.ensures.value r.within c.deref_mut.ensures.value _ _ r.total size;
      few = next_few c.self.view_is c.requires.holds c.deref.ensures.value r.within c.deref_mut.ensures.value _ _ r.total size;
    }

pub returns-clause-holds : goal.returns-clause-holds
returns-clause-holds g c =
    let i = c.self.inside in
    let within = c.lists_with-lists.ensures.within in
    let p : ℕ = c.lists_with-lists.result.0 in
    let is = c.self.view_is in
    let same = c.deref.ensures.value in
    let same_ends = c.deref_mut.ensures.value in
    let long = next_length is c.requires.holds same within same_ends c.fill.new.ends c.fill.auto.ends ∙ c.deref_mut.ensures.len in
    let written = with_items_is i.ends (put_mid i.to (i.to + p - i.to) c.deref_mut.result.now c.fill.new.ends) long in
    let placed = with_items_is c.in_ok-self-inside.field-0 c.fill.new.all (c.fill.auto.all ∙ c.deref_mut-2.ensures.len) in
    next_held is c.requires.holds same within same_ends c.fill.new.ends c.fill.auto.ends _ _ _ written placed c.fill.ensures.placed

pub returns-clause-least : goal.returns-clause-least
returns-clause-least g c = next_least c.self.view_is c.requires.holds c.deref.ensures.value c.lists_with-lists.ensures.within _ c.lists_with-lists.ensures.least
