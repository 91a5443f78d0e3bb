use Rattle.std.proofs.Common.{◌-◌, arith}
use Rattle.wg_bits.specs.Bits.{bits_of}
use Rattle.wg_decoder.specs.Handed.{page_of}
use Rattle.wg_memory.proofs.RangeLemmas.{error_over, list_over, spot_fine}
use Rattle.wg_memory.proofs.range.read_over.Goals as goal

pub read_record-requires-clause-ascends : goal.read_record-requires-clause-ascends
read_record-requires-clause-ascends c =
    (spot_fine c.args.params.now c.nodes.ensures.limits (bits_of c.args.graph.now) c.args.places.now (c.args.page - c.args.back) (page_of c.args.named.now c.args.depth) c.requires.known).0

pub read_record-requires-clause-below : goal.read_record-requires-clause-below
read_record-requires-clause-below c =
    (spot_fine c.args.params.now c.nodes.ensures.limits (bits_of c.args.graph.now) c.args.places.now (c.args.page - c.args.back) (page_of c.args.named.now c.args.depth) c.requires.known).1

pub read_record-requires-clause-depth : goal.read_record-requires-clause-depth
read_record-requires-clause-depth c = λ some. omega (
  arith,
  some,
  c.requires.back,
  (spot_fine c.args.params.now c.nodes.ensures.limits (bits_of c.args.graph.now) c.args.places.now (c.args.page - c.args.back) (page_of c.args.named.now c.args.depth) c.requires.known).2,
)

pub returns-clause-list : goal.returns-clause-list
returns-clause-list c =
    list_over c.args.params.now (bits_of c.args.graph.now) c.args.places.now c.args.page c.args.back (page_of c.args.named.now c.args.depth) c.read_record.result c.requires.back c.requires.head
    c.requires.known c.read_record.ensures.reads

pub returns-clause-fault : goal.returns-clause-fault
returns-clause-fault c =
    error_over c.args.params.now (bits_of c.args.graph.now) c.args.places.now c.args.page c.args.back (page_of c.args.named.now c.args.depth) c.read_record.result c.requires.back c.requires.head
    c.requires.known c.read_record.ensures.fault
