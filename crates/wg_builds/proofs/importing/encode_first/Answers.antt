use Rattle.std.proofs.Common.{◌++◌, []}
use Rattle.wg_num.specs.Lines.{lines_of}
use Rattle.wg_outcomes.proofs.WritingLemmas.{if_that_err}
use Rattle.wg_builds.proofs.importing.encode_first.Goals as goal

pub returns-in_err-lines-clause-fault : goal.returns-in_err-lines-clause-fault
returns-in_err-lines-clause-fault c = λ later end.
    if_that_err _ _ _ c.from_residual.ensures.1 (c.in_err-lines.ensures.fault later end)

pub returns-clause-begins : goal.returns-clause-begins
returns-clause-begins c =
    let go = c.in_ok-encoder-2.ensures.goes_on [] c.in_ok-encoder.ensures.encoded in
    record { lists = go.lists; encoded = go.encoded; reads = λ later. go.reads (lines_of c.args.text.now ++ later) later (c.in_ok-lines.ensures.read later) }
