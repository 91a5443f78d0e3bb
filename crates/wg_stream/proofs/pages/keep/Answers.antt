use Rattle.std.proofs.Common.{rules, ap, arith, length}
use Rattle.wg_stream.proofs.PrefixLemmas.{kept_short, taken_short}
use Rattle.wg_stream.proofs.pages.keep.Goals as goal

pub returns-in-Some-clause-list : goal.returns-in-Some-clause-list
returns-in-Some-clause-list c = search rules

pub returns-in-Some-clause-short : goal.returns-in-Some-clause-short
returns-in-Some-clause-short c = λ most h le.
    let k = kept_short most _ _ _ c.in_ok-furthest.field-0 c.in_ok-furthest.ensures.all le h.kept in
    let left = rw c.in-Some.is at k.1 in
    record {
      kept = k.0;
      spares = taken_short most _ _ _ (omega (arith, h.past, ap length c.replace-before.ensures.value)) h.spares c.take_furthest.ensures;
      past = omega (arith, left, ap length c.replace-before.ensures.after);
    }
