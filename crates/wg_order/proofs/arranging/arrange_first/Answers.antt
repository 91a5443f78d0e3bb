use Rattle.std.proofs.Common.{arith, ℕ, ◌≡◌, ◌<◌, ◌≤◌, ◌++◌, ◌∙◌, List, length, get_or, drop, ap, sym, subst}
use Rattle.std.proofs.lemmas.List.{get_or_append_left, length-append, length-drop, length-take}
use Rattle.wg_rank.specs.Intervals.{by_page}
use Rattle.wg_order.specs.Front.{AreFirst, count_lower}
use Rattle.wg_order.proofs.Fronts.{first_falls, first_in_room, take_front}
use Rattle.wg_order.proofs.arranging.arrange_first.Goals as goal

pub count_lower-requires-clause-falls : goal.count_lower-requires-clause-falls
count_lower-requires-clause-falls c =
    let low = c.args.low.now in
    let first = c.rank_first.new.first in
    let back = c.split_at_mut-pages.result.1.now in
    let size : length first ≡ c.args.count = omega (arith, c.rank_first.auto.first, length-take c.args.count back, c.split_at_mut-pages.ensures.back_len, c.requires) in
    subst (λ (p : List ℕ). (i j : ℕ) → i ≤ j → j < length p → by_page low (get_or p j 0) ≤ by_page low (get_or p i 0))
    (sym (take_front first (drop c.args.count back) c.args.count size)) (first_falls low c.args.high.now first c.rank_first.ensures)

pub returns-clause-front : goal.returns-clause-front
returns-clause-front c =
    let first = c.rank_first.new.first in
    let back = c.split_at_mut-pages.result.1.now in
    let pages = c.rank_first.new.pages in
    let counts = c.count_lower.new.counts in
    let n = length c.args.low.now in
    let size : length first ≡ c.args.count = omega (arith, c.rank_first.auto.first, length-take c.args.count back, c.split_at_mut-pages.ensures.back_len, c.requires) in
    let work : length (counts ++ drop c.args.count pages) ≡ n =
    omega (
      arith,
      length-append counts (drop c.args.count pages),
      length-drop c.args.count pages,
      c.count_lower.auto.counts,
      length-take c.args.count pages,
      c.rank_first.auto.pages,
      c.number.auto.pages,
      c.split_at_mut-pages.ensures.front_len,
      c.requires,
    ) in
    subst (AreFirst c.args.low.now c.args.high.now) (sym (first_in_room (counts ++ drop c.args.count pages) first (drop c.args.count back) c.args.count n work size)) c.rank_first.ensures

pub returns-clause-lower : goal.returns-clause-lower
returns-clause-lower c = λ i w.
    let first = c.rank_first.new.first in
    let back = c.split_at_mut-pages.result.1.now in
    let pages = c.rank_first.new.pages in
    let counts = c.count_lower.new.counts in
    let n = length c.args.low.now in
    let size : length first ≡ c.args.count = omega (arith, c.rank_first.auto.first, length-take c.args.count back, c.split_at_mut-pages.ensures.back_len, c.requires) in
    let here : length counts ≡ c.args.count =
    omega (arith, c.count_lower.auto.counts, length-take c.args.count pages, c.rank_first.auto.pages, c.number.auto.pages, c.split_at_mut-pages.ensures.front_len, c.requires) in
    let work : length (counts ++ drop c.args.count pages) ≡ n =
    omega (
      arith,
      length-append counts (drop c.args.count pages),
      length-drop c.args.count pages,
      here,
      c.rank_first.auto.pages,
      c.number.auto.pages,
      c.split_at_mut-pages.ensures.front_len,
      c.requires,
    ) in
    let front = take_front first (drop c.args.count back) c.args.count size in
    let stands = first_in_room (counts ++ drop c.args.count pages) first (drop c.args.count back) c.args.count n work size in
    get_or_append_left (counts ++ drop c.args.count pages) (first ++ drop c.args.count back) 0 i (omega (arith, w, work, c.requires))
    ∙ get_or_append_left counts (drop c.args.count pages) 0 i (omega (arith, w, here))
    ∙ c.count_lower.ensures i (omega (arith, w, ap length front, size))
    ∙ ap (λ (p : List ℕ). count_lower c.args.low.now c.args.high.now (get_or p i 0)) (front ∙ sym stands)
