use Rattle.std.proofs.Common.{List, Bool, ap, ◌∙◌, arith}
use Rattle.wg_bits.specs.Bits.{bits_of}
use Rattle.wg_stream.proofs.AcceptedRecords.{read_of}
use Rattle.wg_random.proofs.Readings.{offset_is}
use Rattle.wg_stream.proofs.AllRecords.{offset_within, offsets_count}
use Rattle.wg_random.proofs.ArchiveLemmas.{cursor_is, same_nodes}
use Rattle.wg_random.proofs.archive.Archive.cursor.Goals as goal

pub place-requires : goal.place-requires
place-requires c =
    let g = read_of c.self.inside.params (bits_of c.self.inside.bytes.now) _ c.self.invariant.1.1 in
    let lt = same_nodes _ _ c.self.view_is c.args.page c.requires in
    omega (arith, lt, offsets_count _ _ g.reading c.self.inside.offsets.now g.places)

pub new-requires : goal.new-requires
new-requires c =
    let g = read_of c.self.inside.params (bits_of c.self.inside.bytes.now) _ c.self.invariant.1.1 in
    let lt = same_nodes _ _ c.self.view_is c.args.page c.requires in
    rw (c.of.ensures, c.place.ensures.value, offset_is c.self.inside.offsets.now g.reading.records c.args.page g.places) (offset_within _ _ g.reading c.args.page lt)

pub returns : goal.returns
returns c =
    let g = read_of c.self.inside.params (bits_of c.self.inside.bytes.now) _ c.self.invariant.1.1 in
    cursor_is _ _ c.self.view_is c.args.page c.nodes.ensures.limits g.reading c.self.inside.offsets.now g.places c.place.result c.place.ensures.value c.new.result
    (c.new.ensures ∙ ap (λ (b : List Bool). record { bits = b; at = c.place.result }) c.of.ensures)
