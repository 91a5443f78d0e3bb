use Rattle.std.proofs.Common.{Ok, Err, ap, ◌∙◌, sym}
use Rattle.std.proofs.lemmas.Result.{err_from_is_err_and}
use Rattle.wg_num.specs.Lines.{lines_of}
use Rattle.wg_rank.specs.declared.fault.CertError.TheVariants as error
use Rattle.wg_rank.specs.declared.fault.CertFault.TheVariants as fault
use Rattle.wg_rank.proofs.CertificateLines.{stands}
use Rattle.wg_rank.proofs.ReadBounds.{not_within, no_damping, no_pages, no_bounds, with_bounds, within_one, past_one}
use Rattle.wg_rank.proofs.reading.read_certificate.Goals as goal

pub returns-in_err-damping-clause-read : goal.returns-in_err-damping-clause-read
returns-in_err-damping-clause-read c =
    let p = err_from_is_err_and c.from_residual.result c.from_residual.ensures.1 in
    rw (p.1, p.2) (no_damping c.args.n c.args.bytes.now c.in_err-damping.field-0.0 c.in_err-damping.ensures.err)

pub returns-in_err-rest-clause-read : goal.returns-in_err-rest-clause-read
returns-in_err-rest-clause-read c =
    let p = err_from_is_err_and c.from_residual-in_err-rest.result c.from_residual-in_err-rest.ensures.1 in
    rw (p.1, p.2) (no_pages c.args.n c.args.bytes.now c.in_ok-damping.damping (lines_of c.in_ok-damping.rest.now) c.in_ok-damping.ensures.ok c.in_ok-damping.ensures.rest
    c.in_err-rest.field-0.0 c.in_err-rest.ensures.err)

pub returns-in_err-low-clause-read : goal.returns-in_err-low-clause-read
returns-in_err-low-clause-read c =
    let p = err_from_is_err_and c.from_residual-in_err-low.result c.from_residual-in_err-low.ensures.1 in
    rw (p.1, p.2)
    (no_bounds c.args.n c.args.bytes.now c.in_ok-damping.damping (lines_of c.in_ok-damping.rest.now) c.in_ok-damping.ensures.ok c.in_ok-damping.ensures.rest
    (lines_of c.in_ok-rest.rest.now) c.in_ok-rest.ensures.ok c.in_ok-rest.ensures.rest
    c.in_err-low.field-0.0 c.in_err-low.ensures.read)

pub returns-in-Some-clause-read : goal.returns-in-Some-clause-read
returns-in-Some-clause-read c =
    with_bounds c.args.n c.args.bytes.now c.in_ok-damping.damping (lines_of c.in_ok-damping.rest.now) c.in_ok-damping.ensures.ok c.in_ok-damping.ensures.rest
    (lines_of c.in_ok-rest.rest.now) c.in_ok-rest.ensures.ok c.in_ok-rest.ensures.rest
    c.in_ok-low.low.items c.in_ok-low.ensures.read
    ∙ within_one c.in_ok-damping.damping c.in_ok-low.low.items c.in-Some.ensures.0 ∙ ap Ok (sym c.in-Some.ensures.1)

pub returns-in-None-clause-read : goal.returns-in-None-clause-read
returns-in-None-clause-read c =
    with_bounds c.args.n c.args.bytes.now c.in_ok-damping.damping (lines_of c.in_ok-damping.rest.now) c.in_ok-damping.ensures.ok c.in_ok-damping.ensures.rest
    (lines_of c.in_ok-rest.rest.now) c.in_ok-rest.ensures.ok c.in_ok-rest.ensures.rest
    c.in_ok-low.low.items c.in_ok-low.ensures.read
    ∙ past_one c.in_ok-damping.damping c.in_ok-low.low.items (not_within _ c.in-None.ensures)

pub returns-in_err-damping-clause-stands : goal.returns-in_err-damping-clause-stands
returns-in_err-damping-clause-stands c = stands c.args.n c.args.bytes.now c.from_residual.result (returns-in_err-damping-clause-read c)

pub returns-in_err-rest-clause-stands : goal.returns-in_err-rest-clause-stands
returns-in_err-rest-clause-stands c = stands c.args.n c.args.bytes.now c.from_residual-in_err-rest.result (returns-in_err-rest-clause-read c)

pub returns-in_err-low-clause-stands : goal.returns-in_err-low-clause-stands
returns-in_err-low-clause-stands c = stands c.args.n c.args.bytes.now c.from_residual-in_err-low.result (returns-in_err-low-clause-read c)

pub returns-in-Some-clause-stands : goal.returns-in-Some-clause-stands
returns-in-Some-clause-stands c = stands c.args.n c.args.bytes.now (Ok c.in-Some.certificate) (returns-in-Some-clause-read c)

pub returns-in-None-clause-stands : goal.returns-in-None-clause-stands
returns-in-None-clause-stands c = stands c.args.n c.args.bytes.now (Err (error.Fault fault.Sum)) (returns-in-None-clause-read c)
