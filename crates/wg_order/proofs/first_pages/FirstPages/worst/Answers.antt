use Rattle.std.proofs.Common.{arith, ℕ, ◌≡◌, ◌-◌, ◌<◌, ◌∙◌, nat_lt, length, get_or, ap}
use Rattle.std.proofs.lemmas.List.{get_or_read}
use Rattle.std.proofs.lemmas.List.Sums.{count_by-le-length}
use Rattle.wg_rank.specs.Intervals.{by_page}
use Rattle.wg_order.specs.Front.{first_in}
use Rattle.wg_order.specs.Order.{worst}
use Rattle.wg_order.proofs.Fronts.{length-first_in}
use Rattle.wg_order.proofs.first_pages.FirstPages.worst.Goals as goal

pub overflow_sub-result : goal.overflow_sub-result
overflow_sub-result c =
    let s = c.self.inside in
    let k = c.self.invariant in
    let n = length s.low.items in
    let place : c.args.i < s.count = omega (arith, c.requires, ap (λ s. length s.pages) c.self.view_is, length-first_in s.count n s.room.items k.room_pages k.counted) in
    let read = get_or_read s.room.items c.args.i c.index.result.now (omega (arith, place, k.room_pages, k.counted)) c.index.ensures 0 in
    let most = count_by-le-length (λ h. nat_lt h (by_page s.low.items (get_or (first_in s.count n s.room.items) c.args.i 0))) s.high.items in
    omega (arith, read, k.lower c.args.i place, most, k.high_pages)

pub returns : goal.returns
returns c =
    let s = c.self.inside in
    let k = c.self.invariant in
    let n = length s.low.items in
    let place : c.args.i < s.count = omega (arith, c.requires, ap (λ s. length s.pages) c.self.view_is, length-first_in s.count n s.room.items k.room_pages k.counted) in
    let read = get_or_read s.room.items c.args.i c.index.result.now (omega (arith, place, k.room_pages, k.counted)) c.index.ensures 0 in
    let size : c.len.result ≡ n = omega arith in
    ap (λ (m : ℕ). m - c.index.result.now) size ∙ ap (λ (m : ℕ). n - m) (read ∙ k.lower c.args.i place) ∙ ap (λ s. worst s (get_or s.pages c.args.i 0)) c.self.view_is
