use Rattle.std.proofs.Common.{subst}
use Rattle.wg_bits.specs.Bits.{Position}
use Rattle.wg_decoder.specs.Proper.Headed.{IsReadHead}
use Rattle.wg_decoder.proofs.proper.decoding.decode_into.Goals as goal

pub decode_behind-requires-clause-head : goal.decode_behind-requires-clause-head
decode_behind-requires-clause-head c = subst (λ (q : Position). IsReadHead c.args.params.now q c.read_head-head.result) c.again.ensures c.read_head-head.ensures.head
