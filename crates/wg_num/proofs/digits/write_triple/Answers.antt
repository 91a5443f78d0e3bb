use Rattle.wg_num.proofs.Triples.{triple_at, triple_stored}
use Rattle.wg_num.proofs.digits.write_triple.Goals as goal

pub returns-clause-written : goal.returns-clause-written
returns-clause-written c =
    let digits = triple_at c.args.triple c.requires.triple in
    triple_stored c.args.buf.now c.args.at c.args.triple _ _ _ c.requires.room digits.0 digits.1 digits.2
