use Rattle.wg_grammar.proofs.OneRecord.{record_one}
use Rattle.wg_grammar.proofs.SomeRecord.{record_some}
use Rattle.wg_grammar.proofs.laws.one_record.Goals as goal

pub returns-clause-one : goal.returns-clause-one
returns-clause-one c = λ p context bits start w x limits. record_one p limits context bits start w x

pub returns-clause-some : goal.returns-clause-some
returns-clause-some c = λ p context bits start limits. record_some p limits context bits start
