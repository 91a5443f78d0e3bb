use Rattle.wg_random.proofs.ArchiveLemmas.{same_nodes, stands_back, record_here, refers_back, refers_here}
use Rattle.wg_bits.specs.Bits.{bits_of}
use Rattle.wg_random.specs.Checked.{CheckedRecords}
use Rattle.wg_stream.proofs.AcceptedRecords.{read_of}
use Rattle.wg_random.proofs.archive.Archive.reference.Goals as goal

pub reference-requires : goal.reference-requires
reference-requires c =
    let lt = same_nodes _ _ c.self.view_is c.args.page c.requires in
    let h : CheckedRecords = record { params = c.self.inside.params; bits = bits_of c.self.inside.bytes.now; offsets = c.self.inside.offsets.now } in
    record_here h c.args.page c.cursor.result lt (read_of c.self.inside.params (bits_of c.self.inside.bytes.now) _ c.self.invariant.1.1).reading
    (stands_back h _ c.self.view_is c.args.page c.cursor.result c.cursor.ensures)

pub returns-clause-refers : goal.returns-clause-refers
returns-clause-refers c =
    let lt = same_nodes _ _ c.self.view_is c.args.page c.requires in
    let h : CheckedRecords = record { params = c.self.inside.params; bits = bits_of c.self.inside.bytes.now; offsets = c.self.inside.offsets.now } in
    refers_back h _ c.self.view_is c.args.page c.cursor.result c.reference.result lt c.cursor.ensures c.reference.ensures

pub returns-clause-near : goal.returns-clause-near
returns-clause-near c =
    let lt = same_nodes _ _ c.self.view_is c.args.page c.requires in
    let h : CheckedRecords = record { params = c.self.inside.params; bits = bits_of c.self.inside.bytes.now; offsets = c.self.inside.offsets.now } in
    (refers_here h c.args.page c.cursor.result c.reference.result lt (stands_back h _ c.self.view_is c.args.page c.cursor.result c.cursor.ensures) c.reference.ensures
    (read_of c.self.inside.params (bits_of c.self.inside.bytes.now) _ c.self.invariant.1.1).reading).near
