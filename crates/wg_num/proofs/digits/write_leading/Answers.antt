use Rattle.std.proofs.Common.{◌∙◌, arith}
use Rattle.wg_num.proofs.Triples.{entry_at, entry_stored}
use Rattle.wg_num.proofs.digits.write_leading.Goals as goal

pub returns-clause-digits : goal.returns-clause-digits
returns-clause-digits c =
    let entry = entry_at c.args.value c.requires.value in
    entry_stored c.args.buf.now _ _ _ _ _ c.requires.room (omega (arith, entry.1, entry.2)) ∙ entry.0

pub overflow_sub-result : goal.overflow_sub-result
overflow_sub-result c = let entry = entry_at c.args.value c.requires.value in entry.1

pub returns-clause-within : goal.returns-clause-within
returns-clause-within c = let entry = entry_at c.args.value c.requires.value in omega (arith, entry.1, entry.2)
