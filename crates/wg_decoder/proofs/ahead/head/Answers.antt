use Rattle.std.proofs.Common.{refl}
use Rattle.wg_grammar.proofs.ErrorLemmas.{fault_is}
use Rattle.wg_decoder.proofs.ahead.head.Goals as goal

pub returns-in-Ok-clause-stands : goal.returns-in-Ok-clause-stands
returns-in-Ok-clause-stands c = λ behind. (c.head_from.new.source.at, c.in-Ok.ensures.stands c.args.cursor.bits refl behind)

pub returns-in-Fault-clause-fault : goal.returns-in-Fault-clause-fault
returns-in-Fault-clause-fault c = λ behind. fault_is c.in-Err.unread c.in-Fault.fault _ c.in-Fault.is (c.in-Err.ensures.fault c.args.cursor.bits refl behind)
