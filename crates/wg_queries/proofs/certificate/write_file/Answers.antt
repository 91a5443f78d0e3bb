use Rattle.std.proofs.{Common.ap, Common.inl, Common.inr, lemmas.Result.IfErr-weaker}
use Rattle.std.specs.FinMap as map
use Rattle.wg_outside.specs.Outside.{Files}
use Rattle.wg_outcomes.proofs.WritingLemmas.{if_that_err, touches_exit, touches_twice}
use Rattle.wg_queries.proofs.certificate.write_file.Goals as goal

pub returns-in_err-create_file-clause-err : goal.returns-in_err-create_file-clause-err
returns-in_err-create_file-clause-err g c = λ t.
    if_that_err _ _ _ c.from_residual.ensures.1 (inl (ap (λ (x : Files). map.get x c.args.name.now) c.in_err-create_file.ensures.err))

pub returns-in_err-create_file-clause-touches : goal.returns-in_err-create_file-clause-touches
returns-in_err-create_file-clause-touches g c = touches_exit _ _ _ _ _ _ _ _ _ c.from_residual.ensures.1 c.in_err-create_file.ensures.touches

pub returns-clause-ok : goal.returns-clause-ok
returns-clause-ok g c = λ t. c.append.ensures.ok t (c.in_ok-create_file.ensures.ok t)

pub returns-clause-err : goal.returns-clause-err
returns-clause-err g c = λ t. IfErr-weaker c.append.result _ _ (λ e less. inr less) (c.append.ensures.err t (c.in_ok-create_file.ensures.ok t))

pub returns-clause-touches : goal.returns-clause-touches
returns-clause-touches g c = touches_twice _ _ _ _ _ _ _ _ _ c.append.result c.in_ok-create_file.ensures.touches c.append.ensures.touches
