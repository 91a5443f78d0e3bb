use Rattle.std.proofs.Common.{◌≡◌, ◌*◌, length, arith}
use Rattle.wg_offsets.specs.declared.samples.TheConstants.{SAMPLED}
use Rattle.wg_offsets.proofs.SamplesLemmas.{samples_more}
use Rattle.wg_offsets.proofs.samples.keep_sample.Goals as goal

pub returns-in_ok-push-2-clause-each : goal.returns-in_ok-push-2-clause-each
returns-in_ok-push-2-clause-each c = λ code file before samples read.
    let places = c.args.places.now.items in
    let here : SAMPLED * length places ≡ c.args.page = omega (arith, c.requires.places) in
    rw (c.in_ok-push.ensures.items, c.in_ok-push-2.ensures.items)
    (samples_more code file places c.args.bits.now.items c.args.place c.args.bit c.args.page before c.requires.bits here samples read)
