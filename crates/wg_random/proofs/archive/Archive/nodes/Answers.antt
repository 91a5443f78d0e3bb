use Rattle.std.proofs.Common.{subst}
use Rattle.wg_bits.specs.Bits.{bits_of}
use Rattle.wg_random.specs.Checked.{CheckedRecords, StandsForGraph}
use Rattle.wg_stream.specs.AllRecords.{AllRecords}
use Rattle.wg_stream.proofs.AcceptedRecords.{read_of}
use Rattle.wg_random.proofs.archive.Archive.nodes.Goals as goal

pub returns-clause-stands : goal.returns-clause-stands
returns-clause-stands c = subst (λ (v : CheckedRecords). StandsForGraph v) c.self.view_is c.self.invariant.1

pub returns-clause-records : goal.returns-clause-records
returns-clause-records c =
    subst (λ (v : CheckedRecords). AllRecords v.params v.bits) c.self.view_is (read_of c.self.inside.params (bits_of c.self.inside.bytes.now) _ c.self.invariant.1.1).reading
