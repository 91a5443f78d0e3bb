use Rattle.std.proofs.Common.{◌≡◌, ◌<◌, ◌≤◌, ◌+◌, All, length}
use Rattle.wg_num.specs.Lines.{lines_of}
use Rattle.wg_arcs.specs.Numbers.{numbers_from, numbers_of}
use Rattle.wg_arcs.proofs.ReadNumbers.{after_these}
use Rattle.wg_arcs.proofs.numbers.read_numbers.Given as goal

abbrev pub invariant-lines : goal.invariant-lines
invariant-lines l = record {
  so_far : numbers_of l.n l.limit l.fn.bytes ≡ after_these l.numbers (numbers_from l.n l.limit (l.line + 1) (length l.numbers) (lines_of l.rest));
  few : length l.numbers ≤ l.n;
  below : All (λ v. v < l.limit) l.numbers;
  short : l.line + length l.rest ≤ length l.fn.bytes;
}

abbrev pub decreases-lines : goal.decreases-lines
decreases-lines l = length l.rest
