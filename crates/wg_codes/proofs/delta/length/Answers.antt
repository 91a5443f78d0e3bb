use Rattle.std.proofs.Common.{arith}
use Rattle.wg_codes.proofs.Lengths.{length-delta}
use Rattle.wg_codes.proofs.delta.length.Goals as goal

pub returns : goal.returns
returns c =
    let d = length-delta c.args.v c.highest_one-index.result c.highest_one-index.ensures.index in
    omega arith
