use Rattle.wg_writing.proofs.FileSteps.{and_then, graph_filled, offsets_filled, properties_filled, writes_exit}
use Rattle.wg_writing.proofs.writing.fill_files.Goals as goal

pub returns-in_err-fill_file : goal.returns-in_err-fill_file
returns-in_err-fill_file g c = λ base first is empty.
    let a = c.args.archive.now.files in
    let e = c.in_err-fill_file.ensures in
    writes_exit base a first _ _ _ _ _ _ _ _ _ c.from_residual.ensures.1
    (graph_filled base a c.args.names.now is first _ _ _ _ _ _ c.graph.result.now c.graph.ensures empty e.ok e.err e.touches)

pub returns-in_err-fill_file-2 : goal.returns-in_err-fill_file-2
returns-in_err-fill_file-2 g c = λ base first is empty.
    let a = c.args.archive.now.files in
    let p = c.in_ok-fill_file.ensures in
    let one = graph_filled base a c.args.names.now is first _ _ _ _ _ _ c.graph.result.now c.graph.ensures empty p.ok p.err p.touches in
    let e = c.in_err-fill_file-2.ensures in
    writes_exit base a first _ _ _ _ _ _ _ _ _ c.from_residual-in_err-fill_file-2.ensures.1
    (and_then base a first _ _ _ _ _ _ _ _ _ _ one
    (offsets_filled base a c.args.names.now is first _ _ _ _ _ _ c.offsets.result.now c.offsets.ensures one.ok e.ok e.err e.touches))

pub returns : goal.returns
returns g c = λ base first is empty.
    let a = c.args.archive.now.files in
    let p = c.in_ok-fill_file.ensures in
    let one = graph_filled base a c.args.names.now is first _ _ _ _ _ _ c.graph.result.now c.graph.ensures empty p.ok p.err p.touches in
    let q = c.in_ok-fill_file-2.ensures in
    let two = offsets_filled base a c.args.names.now is first _ _ _ _ _ _ c.offsets.result.now c.offsets.ensures one.ok q.ok q.err q.touches in
    let o = c.fill_file-3.ensures in
    and_then base a first _ _ _ _ _ _ _ _ _ _ one
    (and_then base a first _ _ _ _ _ _ _ _ _ _ two
    (properties_filled base a c.args.names.now is first _ _ _ _ _ c.fill_file-3.result c.properties.result.now c.properties.ensures two.ok o.ok o.err o.touches))
