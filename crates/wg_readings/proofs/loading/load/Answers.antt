use Rattle.std.proofs.Common.{rules, refl}
use Rattle.wg_outside.proofs.PutsLemmas.{is_that_err}
use Rattle.wg_outcomes.specs.Names.{file_of}
use Rattle.wg_readings.proofs.LoadLemmas.{loads_none}
use Rattle.wg_readings.proofs.loading.load.Goals as goal

pub returns-in_err-name : goal.returns-in_err-name
returns-in_err-name g c = rw (is_that_err c.from_residual.result _ c.from_residual.ensures.1) (loads_none _ _ _ _ _ _ refl)

pub returns : goal.returns
returns g c = c.load_file.ensures (file_of c.args.base.now) (search rules)
