use Rattle.std.proofs.Common.{arith, rules, ◌≡◌, length, ap, sym, subst}
use Rattle.std.proofs.lemmas.List.FromFn.{length-range_with_len}
use Rattle.wg_order.specs.Front.{AreFirst}
use Rattle.wg_order.proofs.Fronts.{front_of_all, front_of_none}
use Rattle.wg_order.proofs.sorting.rank_first.Goals as goal

pub part-requires-clause-few : goal.part-requires-clause-few
part-requires-clause-few c = omega (arith, ap length c.requires.all, length-range_with_len 0 (length c.args.low.now), c.requires.few, c.if-first-pages.false)

pub returns-then-first-pages : goal.returns-then-first-pages
returns-then-first-pages c =
    subst (AreFirst c.args.low.now c.args.high.now) (sym c.copy_from_slice.ensures.after) (front_of_all c.args.low.now c.args.high.now c.rank.new.pages c.rank.ensures)

pub returns-else-not-is_empty : goal.returns-else-not-is_empty
returns-else-not-is_empty c =
    let none : length c.args.first.now ≡ 0 = search rules in front_of_none c.args.low.now c.args.high.now c.args.first.now none
