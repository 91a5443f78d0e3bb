use Rattle.std.proofs.lemmas.Result.{err_from_is_err_and}
use Rattle.wg_encoder.proofs.Stopped.{begun}
use Rattle.wg_encoder.proofs.list_encoder.ListEncoder.new.Goals as goal

pub returns-in_err-kept : goal.returns-in_err-kept
returns-in_err-kept c =
    let e = err_from_is_err_and c.from_residual.result c.from_residual.ensures.1 in
    rw e.1 record { params = tt; written = tt; begun = tt; waits = tt }

pub returns-in_err-graph_writer : goal.returns-in_err-graph_writer
returns-in_err-graph_writer c =
    let e = err_from_is_err_and c.from_residual-in_err-graph_writer.result c.from_residual-in_err-graph_writer.ensures.1 in
    rw e.1 record { params = tt; written = tt; begun = tt; waits = tt }

pub returns-in_err-offsets_writer : goal.returns-in_err-offsets_writer
returns-in_err-offsets_writer c =
    let e = err_from_is_err_and c.from_residual-in_err-offsets_writer.result c.from_residual-in_err-offsets_writer.ensures.1 in
    rw e.1 record { params = tt; written = tt; begun = tt; waits = tt }

pub returns-in_err-params : goal.returns-in_err-params
returns-in_err-params c =
    let e = err_from_is_err_and c.from_residual-in_err-params.result c.from_residual-in_err-params.ensures.1 in
    rw e.1 record { params = tt; written = tt; begun = tt; waits = tt }

pub returns-in_err-marks : goal.returns-in_err-marks
returns-in_err-marks c =
    let e = err_from_is_err_and c.from_residual-in_err-marks.result c.from_residual-in_err-marks.ensures.1 in
    rw e.1 record { params = tt; written = tt; begun = tt; waits = tt }

pub returns-clause-begun : goal.returns-clause-begun
returns-clause-begun c files base graph offsets = begun c.in_ok-params.params.value files base _ _ c.in_ok-graph_writer.ensures.bits c.in_ok-offsets_writer.ensures.bits graph offsets
