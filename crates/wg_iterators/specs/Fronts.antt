-- The copied members of a record, as the list that is still to come.
use Rattle.std.specs.Prelude.{ℕ, List}
use Rattle.wg_graph.specs.Copied.{is_copied, at_positions}

-- of the members that are still to come below, those that the blocks copy
abbrev pub copied_of : List ℕ → List ℕ → List ℕ
copied_of blocks xs = at_positions (is_copied blocks) 0 xs
