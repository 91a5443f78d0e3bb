use Rattle.std.proofs.Common.{refl}
use Rattle.wg_writing.proofs.FileSteps.{and_then, graph_created, offsets_created, properties_created, writes_exit}
use Rattle.wg_writing.proofs.writing.create_files.Goals as goal

pub returns-in_err-create_file : goal.returns-in_err-create_file
returns-in_err-create_file g c = λ a base is.
    let e = c.in_err-create_file.ensures in
    writes_exit base a _ _ _ _ _ _ _ _ _ _ c.from_residual.ensures.1
    (properties_created base a c.args.names.now is _ _ _ _ _ _ _ (λ t. refl) e.ok e.err e.touches)

pub returns-in_err-create_file-2 : goal.returns-in_err-create_file-2
returns-in_err-create_file-2 g c = λ a base is.
    let p = c.in_ok-create_file.ensures in
    let one = properties_created base a c.args.names.now is _ _ _ _ _ _ _ (λ t. refl) p.ok p.err p.touches in
    let e = c.in_err-create_file-2.ensures in
    writes_exit base a _ _ _ _ _ _ _ _ _ _ c.from_residual-in_err-create_file-2.ensures.1
    (and_then base a _ _ _ _ _ _ _ _ _ _ _ one
    (graph_created base a c.args.names.now is _ _ _ _ _ _ _ one.ok e.ok e.err e.touches))

pub returns : goal.returns
returns g c = λ a base is.
    let p = c.in_ok-create_file.ensures in
    let one = properties_created base a c.args.names.now is _ _ _ _ _ _ _ (λ t. refl) p.ok p.err p.touches in
    let q = c.in_ok-create_file-2.ensures in
    let two = graph_created base a c.args.names.now is _ _ _ _ _ _ _ one.ok q.ok q.err q.touches in
    let o = c.create_file-3.ensures in
    and_then base a _ _ _ _ _ _ _ _ _ _ _ one
    (and_then base a _ _ _ _ _ _ _ _ _ _ _ two
    (offsets_created base a c.args.names.now is _ _ _ _ _ _ c.create_file-3.result two.ok o.ok o.err o.touches))
