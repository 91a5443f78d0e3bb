use Rattle.std.proofs.Common.{◌^◌, ◌-◌, arith}
use Rattle.wg_encoder.proofs.Fewer.{fewer_all}
use Rattle.wg_encoder.proofs.list_encoder.ListEncoder.size.Goals as goal

pub returns : goal.returns
returns c = fewer_all (2 ^ 64 - 1) _ c.size_below.result c.size_below.ensures.fewer (λ n is. let low = c.size_below.ensures.short n is in omega arith)
