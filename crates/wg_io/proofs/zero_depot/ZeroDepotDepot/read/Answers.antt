use Rattle.std.proofs.Common.{ap, ◌∙◌, sym, replicate}
use Rattle.std.specs.FinMap.{get}
use Rattle.wg_io.specs.Memory.{OneFile, files_of_zeros}
use Rattle.wg_outside.proofs.FilesLemmas.{texts_equal, texts_differ, get-one_file, get-no_other_file}
use Rattle.wg_outside.proofs.PieceLemmas.{reads_piece, reads_absent}
use Rattle.wg_io.proofs.zero_depot.ZeroDepotDepot.read.Goals as goal

pub returns-then-eq-clause-bytes : goal.returns-then-eq-clause-bytes
returns-then-eq-clause-bytes c =
    let name = c.args.name.now in
    let own = c.self.inside.name.now in
    let file = replicate c.self.inside.length 0 in
    let held = ap (λ (d : OneFile). get (files_of_zeros d) name) (sym c.self.view_is) ∙ get-one_file own file name (texts_equal name own c.eq.result c.if-eq.true c.eq.ensures) in
    reads_piece (get (files_of_zeros c.args.self.now) name) file c.args.at c.fill_piece.new.buf c.fill_piece.result held c.fill_piece.ensures.bytes

pub returns-clause-bytes : goal.returns-clause-bytes
returns-clause-bytes c =
    let name = c.args.name.now in
    let own = c.self.inside.name.now in
    let file = replicate c.self.inside.length 0 in
    let none = ap (λ (d : OneFile). get (files_of_zeros d) name) (sym c.self.view_is) ∙ get-no_other_file own file name (texts_differ name own c.eq.result c.if-eq.false c.eq.ensures) in
    reads_absent (get (files_of_zeros c.args.self.now) name) c.args.at c.args.buf.now none
