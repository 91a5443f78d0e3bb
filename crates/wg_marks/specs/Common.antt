-- What two lists have in common, as sets of bits.
use Rattle.std.specs.Prelude.{◌≡◌, ℕ, ◌<◌, ◌≤◌, false, List, filter, not, length}
use Rattle.wg_graph.specs.Numbers.{is_in}
use Rattle.wg_blocks.specs.Canonical.{mask_of}
use Rattle.wg_marks.specs.declared.marked.Common.{Common}
use Rattle.wg_marks.specs.Masks.{mask_bits}
use Rattle.wg_marks.specs.Spans.{IsWithoutRows}

-- a set of places is one word, and not empty
pub record IsShort (list : List ℕ) : Type 0 where
  pub some : 0 < length list
  pub most : length list ≤ 64

pub record IsCommon (list referenced : List ℕ) (common : Common) : Type 0 where
  pub short : IsShort list
  pub few : IsShort referenced
  pub theirs : mask_bits (length referenced) common.theirs ≡ mask_of list referenced
  pub ours : mask_bits (length list) common.ours ≡ mask_of referenced list
  pub rows : common.rows ≡ false → IsWithoutRows (filter (λ y. not (is_in y referenced)) list)
