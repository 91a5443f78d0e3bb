use Rattle.std.proofs.Common.{ap}
use Rattle.std.specs.Prelude.{option_copied}
use Rattle.wg_bits.specs.Bits.{bits_of}
use Rattle.wg_iterators.specs.Coming.{Coming}
use Rattle.wg_random.specs.Checked.{CheckedRecords}
use Rattle.wg_stream.proofs.AcceptedRecords.{read_of}
use Rattle.wg_random.proofs.ArchiveLemmas.{proper_back, whole_back}
use Rattle.wg_random.proofs.archive.Archive.stand_on.Goals as goal

pub begin_on-requires-clause-proper : goal.begin_on-requires-clause-proper
begin_on-requires-clause-proper c =
    let h : CheckedRecords = record { params = c.self.inside.params; bits = bits_of c.self.inside.bytes.now; offsets = c.self.inside.offsets.now } in
    proper_back h _ c.self.view_is c.args.page c.cursor.result (option_copied c.args.below) c.cursor.ensures c.requires.ready
    (read_of c.self.inside.params (bits_of c.self.inside.bytes.now) _ c.self.invariant.1.1).reading

pub returns : goal.returns
returns c r =
    let h : CheckedRecords = record { params = c.self.inside.params; bits = bits_of c.self.inside.bytes.now; offsets = c.self.inside.offsets.now } in
    ap (λ (x : Coming). x.list) (whole_back h _ c.self.view_is c.args.page c.cursor.result (option_copied c.args.below) 0 c.begin_on.result c.cursor.ensures c.requires.ready c.begin_on.ensures r)
