use Rattle.std.proofs.Common.{◌≡◌, ◌+◌, suc, Bool, List, length, ap, subst, ◌∙◌, arith}
use Rattle.wg_bits.specs.Bits.{Position}
use Rattle.wg_decoder.specs.Proper.Headed.{IsReadHead}
use Rattle.wg_stream.specs.AllRecords.{known_at, offset_at}
use Rattle.wg_stream.specs.References.{below_at}
use Rattle.wg_stream.proofs.AllRecords.{offset_within}
use Rattle.wg_stream.proofs.SweepLemmas.{next_record, back_reach, found_below}
use Rattle.wg_stream.proofs.sweep.decode_page.Goals as goal

pub new-cursor-requires : goal.new-cursor-requires
new-cursor-requires c =
    let n = c.requires.next in
    omega (arith, offset_within _ _ n.0 c.args.page c.requires.page, n.1.begins, ap (λ (b : List Bool). length b) c.of.ensures)

pub read_head-head-requires : goal.read_head-head-requires
read_head-head-requires c =
    let n = c.requires.next in
    let is = c.new-cursor.ensures ∙ ap (λ (b : List Bool). record { bits = b; at = c.args.at }) c.of.ensures in
    let g = next_record c.args.archive.now.params _ n.0 c.args.page c.args.at c.args.turn c.args.kept.now c.again.result c.requires.page (c.again.ensures ∙ is) n.1 in
    (c.args.page, below_at n.0.records c.args.page g.back, (known_at n.0.records c.args.page).list, g.proper)

pub list_back-below-requires-clause-reach : goal.list_back-below-requires-clause-reach
list_back-below-requires-clause-reach c =
    let n = c.requires.next in
    let is = c.new-cursor.ensures ∙ ap (λ (b : List Bool). record { bits = b; at = c.args.at }) c.of.ensures in
    let g = next_record c.args.archive.now.params _ n.0 c.args.page c.args.at c.args.turn c.args.kept.now c.again.result c.requires.page (c.again.ensures ∙ is) n.1 in
    back_reach c.args.archive.now.params _ n.0 c.args.page c.args.at c.args.turn c.args.kept.now c.again.result c.read_head-head.result.reference c.requires.page c.read_head-head.ensures.reference n.1 g

pub decode_behind-requires-clause-ascends : goal.decode_behind-requires-clause-ascends
decode_behind-requires-clause-ascends c =
    let n = c.requires.next in
    let is = c.new-cursor.ensures ∙ ap (λ (b : List Bool). record { bits = b; at = c.args.at }) c.of.ensures in
    (found_below c.args.archive.now.params _ n.0 c.args.page c.args.at c.args.turn c.args.kept.now c.new-cursor.result c.again.result c.read_head-head.result.reference _ c.requires.page is c.again.ensures c.read_head-head.ensures.reference n.1 (c.list_back-below.ensures.below n.0.records c.args.page)).ascends

pub decode_behind-requires-clause-proper : goal.decode_behind-requires-clause-proper
decode_behind-requires-clause-proper c =
    let n = c.requires.next in
    let is = c.new-cursor.ensures ∙ ap (λ (b : List Bool). record { bits = b; at = c.args.at }) c.of.ensures in
    let g = found_below c.args.archive.now.params _ n.0 c.args.page c.args.at c.args.turn c.args.kept.now c.new-cursor.result c.again.result c.read_head-head.result.reference _ c.requires.page is c.again.ensures c.read_head-head.ensures.reference n.1 (c.list_back-below.ensures.below n.0.records c.args.page) in
    ((known_at n.0.records c.args.page).list, g.proper, n.2)

pub returns-clause-list : goal.returns-clause-list
returns-clause-list c r n =
    let is = c.new-cursor.ensures ∙ ap (λ (b : List Bool). record { bits = b; at = c.args.at }) c.of.ensures in
    let g = found_below c.args.archive.now.params _ r c.args.page c.args.at c.args.turn c.args.kept.now c.new-cursor.result c.again.result c.read_head-head.result.reference _ c.requires.page is c.again.ensures c.read_head-head.ensures.reference n (c.list_back-below.ensures.below r.records c.args.page) in
    c.decode_behind.ensures.list (known_at r.records c.args.page).list g.proper

pub returns-clause-end : goal.returns-clause-end
returns-clause-end c r n =
    let is = c.new-cursor.ensures ∙ ap (λ (b : List Bool). record { bits = b; at = c.args.at }) c.of.ensures in
    let g = found_below c.args.archive.now.params _ r c.args.page c.args.at c.args.turn c.args.kept.now c.new-cursor.result c.again.result c.read_head-head.result.reference _ c.requires.page is c.again.ensures c.read_head-head.ensures.reference n (c.list_back-below.ensures.below r.records c.args.page) in
    let next : suc c.args.page ≡ c.args.page + 1 = omega arith in
    c.at.ensures.offset ∙ c.decode_behind.ensures.end (known_at r.records c.args.page).list g.proper ∙ g.end ∙ ap (offset_at r.records) next

pub decode_behind-requires-clause-head : goal.decode_behind-requires-clause-head
decode_behind-requires-clause-head c = subst (λ (q : Position). IsReadHead c.args.archive.now.params q c.read_head-head.result) c.again.ensures c.read_head-head.ensures.head
