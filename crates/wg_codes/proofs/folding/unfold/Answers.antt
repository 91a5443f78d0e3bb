use Rattle.std.proofs.Common.{arith}
use Rattle.std.proofs.lemmas.Int.{ints}
use Rattle.wg_codes.proofs.folding.unfold.Goals as goal

pub overflow_sub-result : goal.overflow_sub-result
overflow_sub-result c = omega (arith, ints)

pub overflow_sub-result-else-v-eq0 : goal.overflow_sub-result-else-v-eq0
overflow_sub-result-else-v-eq0 c = omega (arith, ints)
