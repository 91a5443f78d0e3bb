-- Which numbers of an ascending list stand in intervals. By the WebGraph paper an interval is a maximal run of
-- consecutive numbers that is not shorter than the archive's least length; all other numbers are residuals.
use Rattle.std.specs.Prelude.{ℕ, ◌+◌, ◌-◌, Bool, not, ◌&&◌, ◌||◌, ◌==◌, nat_lt, nat_le, List, [], ◌∷◌, ◌++◌, map, filter}
use Rattle.std.specs.List.{range_with_len, flat_map, zip}
use Rattle.wg_graph.specs.Numbers.{is_in}
use Rattle.wg_intervals.specs.declared.run.Run.{Run}

-- the members with no member right before them
abbrev pub firsts : List ℕ → List ℕ
firsts xs = filter (λ y. y == 0 || not (is_in (y - 1) xs)) xs

-- the members with no member right after them
abbrev pub lasts : List ℕ → List ℕ
lasts xs = filter (λ y. not (is_in (y + 1) xs)) xs

-- The maximal runs of consecutive members: each goes from one of the firsts to one of the lasts, in their order.
unfoldable pub runs_of : List ℕ → List Run
runs_of xs = map (λ ends. record { left = ends.0; length = ends.1 + 1 - ends.0 }) (zip (firsts xs) (lasts xs))

-- a run that is long enough for an interval; 0 is for no intervals
abbrev pub is_long : ℕ → Run → Bool
is_long least run = nat_lt 0 least && nat_le least run.length

-- the numbers of a run
abbrev pub numbers_of : Run → List ℕ
numbers_of run = range_with_len run.left run.length

abbrev pub intervals_of : ℕ → List ℕ → List Run
intervals_of least xs = filter (is_long least) (runs_of xs)

abbrev pub residuals_of : ℕ → List ℕ → List ℕ
residuals_of least xs = flat_map numbers_of (filter (λ run. not (is_long least run)) (runs_of xs))

-- left end and length of each run, one after the other
abbrev pub ends_and_lengths : List Run → List ℕ
ends_and_lengths runs = flat_map (λ run. run.left ∷ run.length ∷ []) runs

-- the runs from this one on, if these numbers follow
abbrev pub runs_from : Run → List ℕ → List Run
runs_from run xs = runs_of (numbers_of run ++ xs)
