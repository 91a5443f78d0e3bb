use Rattle.std.proofs.Common.{refl}
use Rattle.wg_readings.proofs.JobSteps.{does_exit}
use Rattle.wg_transforms.proofs.UnionJobs.{no_first, no_second, no_union, second_read, unites}
use Rattle.wg_transforms.proofs.union.union.Goals as goal

pub returns-in_err-one : goal.returns-in_err-one
returns-in_err-one g c =
    does_exit _ _ _ _ _ _ _ _ g.met.O.Sink.stays c.from_residual.ensures.1
    (no_first c.args.first.now c.args.second.now c.args.output.now c.args.layout.now _ _ _ _ _ refl c.in_err-one.ensures)

pub returns-in_err-other : goal.returns-in_err-other
returns-in_err-other g c =
    let read = c.in_err-other.ensures in
    does_exit _ _ _ _ _ _ _ _ g.met.O.Sink.stays c.from_residual-in_err-other.ensures.1
    (no_second c.args.first.now c.args.second.now c.args.output.now c.args.layout.now _ _ _ c.in_ok-one.one _ _ c.in_ok-one.ensures _ read.0 _ refl read.1 read.2)

pub united-requires-clause-second : goal.united-requires-clause-second
united-requires-clause-second g c =
    let read = c.in_ok-other.ensures in
    let loaded = second_read _ _ _ _ _ _ read.0 c.in_ok-other.other read.1 read.2 in
    (loaded.goes.0, loaded.goes.1)

pub returns-in_err-params : goal.returns-in_err-params
returns-in_err-params g c =
    let read = c.in_ok-other.ensures in
    let one = c.in_ok-one.ensures in
    let other = second_read _ _ _ _ _ _ read.0 c.in_ok-other.other read.1 read.2 in
    let e = c.in_err-params.ensures in
    does_exit _ _ _ _ _ _ _ _ g.met.O.Sink.stays c.from_residual-in_err-params.ensures.1
    (no_union c.args.first.now c.args.second.now c.args.output.now c.args.layout.now _ _ _ c.in_ok-one.one _ _ one c.in_ok-other.other _ _ other
    _ _ _ refl e.only (e.too_many one.goes.0 other.goes.0 one.goes.1 other.goes.1))

pub returns : goal.returns
returns g c =
    let read = c.in_ok-other.ensures in
    let one = c.in_ok-one.ensures in
    let other = second_read _ _ _ _ _ _ read.0 c.in_ok-other.other read.1 read.2 in
    let u = c.in_ok-params.ensures in
    let made = u.made one.goes.0 other.goes.0 one.goes.1 other.goes.1 in
    record {
      does = unites c.args.first.now c.args.second.now c.args.output.now c.args.layout.now _ _ _ c.in_ok-one.one _ _ one c.in_ok-other.other _ _ other
          (u.few one.goes.0 other.goes.0 one.goes.1 other.goes.1) _ c.build_archive.result (c.build_archive.ensures.builds c.args.layout.now _ made.0 made.1);
      later = c.build_archive.ensures.later;
    }
