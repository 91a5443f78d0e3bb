-- How pages compare in a ranking.
use Rattle.std.specs.Prelude.{ℕ, List}
use Rattle.std.specs.Ordering.{ordering_then, nat_cmp}
use Rattle.std.specs.declared.cmp.Ordering.{Ordering}
use Rattle.wg_rank.specs.Intervals.{by_page}

-- less if page u comes before page v: by lower bounds falling, then by upper bounds falling, then by numbers rising
abbrev pub compared : List ℕ → List ℕ → ℕ → ℕ → Ordering
compared low high u v =
    ordering_then (ordering_then (nat_cmp (by_page low v) (by_page low u))
    (nat_cmp (by_page high v) (by_page high u))) (nat_cmp u v)
