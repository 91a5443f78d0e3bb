use Rattle.std.proofs.Common.{length}
use Rattle.wg_outside.proofs.PutsLemmas.{is_that_err}
use Rattle.wg_memory.proofs.WritingLemmas.{holds, no_room}
use Rattle.wg_memory.proofs.writing.write_offsets.Goals as goal

pub returns-in_err-sound-clause-why : goal.returns-in_err-sound-clause-why
returns-in_err-sound-clause-why c =
    rw (is_that_err c.from_residual.result _ c.from_residual.ensures.1) (c.in_err-sound.ensures.why c.args.code (length c.args.file.now))

pub returns-in-Some-clause-written : goal.returns-in-Some-clause-written
returns-in-Some-clause-written c =
    let ok = c.in_ok-sound.ensures in
    holds c.args.code c.args.n c.args.places.now c.args.file.now c.put_all.new.file c.in-Some.held c.requires.code c.requires.many
    ok.first ok.climbs c.in-Some.ensures.puts c.in-Some.ensures.whole

pub returns-in-None-clause-why : goal.returns-in-None-clause-why
returns-in-None-clause-why c = no_room c.args.file.now c.put_all.new.file _ c.in-None.ensures.puts
