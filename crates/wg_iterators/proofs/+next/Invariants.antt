use Rattle.std.proofs.Common.{◌≡◌, length}
use Rattle.wg_iterators.specs.Fronts.{copied_of}
use Rattle.wg_iterators.specs.Below.{depth_on, list_on}
use Rattle.wg_iterators.proofs.+next.Given as goal

abbrev pub invariant-successors::next_copied-members : goal.invariant-successors::next_copied-members
invariant-successors::next_copied-members l = record {
  copied : copied_of l.fn.mask (list_on l.fn.below) ≡ copied_of l.mask (list_on l.below);
  depth : depth_on l.fn.below ≡ depth_on l.below;
}

abbrev pub decreases-successors::next_copied-members : goal.decreases-successors::next_copied-members
decreases-successors::next_copied-members l = length (list_on l.below)
