-- The words of a line.
use Rattle.std.specs.Prelude.{ℕ, ◌==◌, not, List, length, filter}
use Rattle.std.specs.List.{slice_split}
use Rattle.wg_num.specs.Lines.{is_blank}

-- parted by blanks, which may also stand at both ends
unfoldable pub words_of : List ℕ → List (List ℕ)
words_of line = filter (λ word. not (length word == 0)) (slice_split is_blank line)
