use Rattle.std.proofs.Common.{refl}
use Rattle.wg_outside.proofs.PutsLemmas.{is_that_err}
use Rattle.wg_writing.specs.Writing.{whole}
use Rattle.wg_writing.proofs.FileSteps.{and_then, none_written, writes_exit}
use Rattle.wg_writing.proofs.writing.write_archive.Goals as goal

pub returns-in_err-names : goal.returns-in_err-names
returns-in_err-names g c =
    rw (is_that_err c.from_residual.result _ c.from_residual.ensures.1)
    (none_written c.args.base.now c.args.archive.now.files _ (whole c.args.archive.now.files) _ _ _ refl)

pub returns-in_err-create_files : goal.returns-in_err-create_files
returns-in_err-create_files g c =
    writes_exit c.args.base.now c.args.archive.now.files _ _ _ _ _ _ _ _ _ _ c.from_residual-in_err-create_files.ensures.1
    (c.in_err-create_files.ensures c.args.archive.now.files c.args.base.now c.in_ok-names.ensures)

pub returns : goal.returns
returns g c =
    let a = c.args.archive.now.files in
    let base = c.args.base.now in
    let made = c.in_ok-create_files.ensures a base c.in_ok-names.ensures in
    and_then base a _ _ _ _ _ _ _ _ _ _ c.fill_files.result made (c.fill_files.ensures base _ c.in_ok-names.ensures made.ok)
