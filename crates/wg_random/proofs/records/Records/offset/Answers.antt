use Rattle.std.proofs.Common.{length, ap, subst, arith}
use Rattle.wg_bits.specs.Bits.{bits_of}
use Rattle.wg_random.specs.Checked.{CheckedRecords, StandsForGraph}
use Rattle.wg_stream.proofs.AcceptedRecords.{read_of}
use Rattle.wg_stream.proofs.AllRecords.{offsets_count}
use Rattle.wg_random.proofs.records.Records.offset.Goals as goal

pub place-requires : goal.place-requires
place-requires c =
    let g = read_of c.self.inside.params (bits_of c.self.inside.bytes.now) _ c.self.invariant.1.1 in
    omega (arith, c.requires, ap (λ (h : CheckedRecords). h.params.nodes) c.self.view_is, offsets_count c.self.inside.params (bits_of c.self.inside.bytes.now) g.reading _ g.places)

pub returns-clause-count : goal.returns-clause-count
returns-clause-count c =
    let g = read_of c.self.inside.params (bits_of c.self.inside.bytes.now) _ c.self.invariant.1.1 in
    omega (
      arith,
      ap (λ (h : CheckedRecords). h.params.nodes) c.self.view_is,
      ap (λ (h : CheckedRecords). length h.offsets) c.self.view_is,
      offsets_count
          c.self.inside.params (bits_of c.self.inside.bytes.now) g.reading _ g.places,
    )

pub returns-clause-stands : goal.returns-clause-stands
returns-clause-stands c = let h = c.self.invariant.1 in subst (λ (v : CheckedRecords). StandsForGraph v) c.self.view_is (h.0, h.1)
