use Rattle.std.proofs.Common.{◌∙◌}
use Rattle.wg_encoder.proofs.Choosing.{alone_is}
use Rattle.wg_encoder.proofs.list_encoder.ListEncoder.alone.Goals as goal

pub returns : goal.returns
returns c = c.size.ensures ∙ alone_is c.args.self.now.params c.args.self.now.next c.args.list.now c.limits.ensures.within c.requires.page c.requires.list
