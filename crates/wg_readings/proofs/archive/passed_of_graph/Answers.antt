use Rattle.wg_bits.specs.Bits.{bits_of}
use Rattle.wg_stream.proofs.{AcceptedRecords.read_of, AllRecords.offsets_count}
use Rattle.wg_readings.proofs.archive.passed_of_graph.Goals as goal

pub returns-in-Ok-clause-count : goal.returns-in-Ok-clause-count
returns-in-Ok-clause-count c =
    let p = c.args.params.now in
    let bits = bits_of c.args.bytes.now in
    let g = read_of p bits _ c.in-Ok.ensures.finds.1 in
    offsets_count p bits g.reading _ g.places

pub returns-in-Err-clause-only : goal.returns-in-Err-clause-only
returns-in-Err-clause-only c = c.graph_ending.ensures.only (bits_of c.args.bytes.now) c.in-Err.ensures.fault
