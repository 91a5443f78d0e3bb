-- What a ranking comes to.
use Rattle.std.specs.Prelude.{ℕ, Bool, nat_eq, length, slice_get}
use Rattle.std.specs.List.{count_by, range_with_len}
use Rattle.wg_order.specs.Order.{Positions, best, worst}
use Rattle.wg_order.specs.declared.summary.RankingSummary.{RankingSummary}

-- whether the bounds leave one position alone to page v
abbrev pub is_sure : Positions → ℕ → Bool
is_sure s v = nat_eq (best s v) (worst s v)

-- how many pages have one position alone
abbrev pub sure_pages : Positions → ℕ
sure_pages s = count_by (is_sure s) (range_with_len 0 (length s.low))

-- its first page, and how many pages have one position alone
abbrev pub summary_of : Positions → RankingSummary
summary_of s = record { first = slice_get s.pages 0; sure = sure_pages s }
