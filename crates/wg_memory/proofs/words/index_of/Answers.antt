use Rattle.std.proofs.Common.{◌+◌, refl, arith}
use Rattle.wg_codes.proofs.Highest.{highest_below}
use Rattle.wg_codes.proofs.Lengths.{length-gamma}
use Rattle.wg_memory.proofs.words.index_of.Goals as goal

pub overflow_cast-result : goal.overflow_cast-result
overflow_cast-result c =
    let low = highest_below (c.args.v + 1) 49 (omega arith) (omega (arith, c.requires)) (omega arith) in
    omega (arith, c.length.ensures, length-gamma c.args.v _ refl, low)

pub returns-clause-index : goal.returns-clause-index
returns-clause-index c = omega (arith, c.length.ensures, length-gamma c.args.v _ refl)

pub returns-clause-low : goal.returns-clause-low
returns-clause-low c =
    let low = highest_below (c.args.v + 1) 49 (omega arith) (omega (arith, c.requires)) (omega arith) in
    omega (arith, c.length.ensures, length-gamma c.args.v _ refl, low)
