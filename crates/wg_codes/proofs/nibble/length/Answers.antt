use Rattle.std.proofs.Common.{sym}
use Rattle.wg_codes.proofs.Lengths.{length-nibble}
use Rattle.wg_codes.proofs.nibble.length.Goals as goal

pub returns : goal.returns
returns c = sym (length-nibble c.args.v c.highest_one.result c.requires c.highest_one.ensures.index)
