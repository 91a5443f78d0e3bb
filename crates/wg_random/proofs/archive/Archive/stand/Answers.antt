use Rattle.wg_bits.specs.Bits.{bits_of}
use Rattle.wg_iterators.specs.Below.{depth_of, listed}
use Rattle.wg_random.specs.Checked.{CheckedRecords}
use Rattle.wg_stream.proofs.AcceptedRecords.{read_of}
use Rattle.wg_random.proofs.ArchiveLemmas.{proper_back, whole_back, fresh_back, depth_back}
use Rattle.wg_random.proofs.archive.Archive.stand.Goals as goal

pub begin-requires-clause-proper : goal.begin-requires-clause-proper
begin-requires-clause-proper c =
    let h : CheckedRecords = record { params = c.self.inside.params; bits = bits_of c.self.inside.bytes.now; offsets = c.self.inside.offsets.now } in
    proper_back h _ c.self.view_is c.args.page c.cursor.result (listed c.args.below) c.cursor.ensures c.requires.ready
    (read_of c.self.inside.params (bits_of c.self.inside.bytes.now) _ c.self.invariant.1.1).reading

pub returns : goal.returns
returns c = record {
  whole =
      let h : CheckedRecords = record { params = c.self.inside.params; bits = bits_of c.self.inside.bytes.now; offsets = c.self.inside.offsets.now } in
      whole_back h _ c.self.view_is c.args.page c.cursor.result (listed c.args.below) (depth_of c.args.below) c.begin.result c.cursor.ensures c.requires.ready c.begin.ensures;
  fresh =
      let h : CheckedRecords = record { params = c.self.inside.params; bits = bits_of c.self.inside.bytes.now; offsets = c.self.inside.offsets.now } in
      fresh_back h _ c.self.view_is c.args.page c.cursor.result (listed c.args.below) (depth_of c.args.below) c.begin.result c.cursor.ensures c.requires.ready
      c.begin.ensures (read_of c.self.inside.params (bits_of c.self.inside.bytes.now) _ c.self.invariant.1.1).reading;
  depth =
      let h : CheckedRecords = record { params = c.self.inside.params; bits = bits_of c.self.inside.bytes.now; offsets = c.self.inside.offsets.now } in
      depth_back h _ c.self.view_is c.args.page c.cursor.result (listed c.args.below) (depth_of c.args.below) c.begin.result c.cursor.ensures c.requires.ready
      c.begin.ensures (read_of c.self.inside.params (bits_of c.self.inside.bytes.now) _ c.self.invariant.1.1).reading;
}
