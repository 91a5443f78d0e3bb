use Rattle.std.proofs.Common.{sym, ◌∙◌}
use Rattle.wg_encoder.proofs.Dues.{long_written, short_written}
use Rattle.wg_encoder.proofs.extras.ExtraTally.add_run.Goals as goal

pub returns-then-is_long-clause-fields : goal.returns-then-is_long-clause-fields
returns-then-is_long-clause-fields c = λ found runs. long_written c.args.self.now c.add.new.self c.args.room c.add.result found c.args.run runs (sym c.is_long.ensures ∙ c.if-is_long.true) c.add.ensures.same c.add.ensures.fields

pub returns-clause-fields : goal.returns-clause-fields
returns-clause-fields c = λ found runs. short_written c.args.self.now c.add_run.new.self c.args.room c.add_run.result found c.args.run runs (sym c.is_long.ensures ∙ c.if-is_long.false) c.add_run.ensures.fields
