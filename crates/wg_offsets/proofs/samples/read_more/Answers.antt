use Rattle.std.proofs.Common.{◌∙◌, [], ◌∷◌, ◌++◌, arith}
use Rattle.wg_outside.proofs.PutsLemmas.{is_that_err}
use Rattle.wg_offsets.proofs.samples.read_more.Goals as goal

pub returns-in_err-next-clause-fault : goal.returns-in_err-next-clause-fault
returns-in_err-next-clause-fault g c = λ bits before r h.
    let i = c.loop-word.invariant in
    let on = g.met.S.Source.same_bits _ _ bits i.later r in
    let a = i.read bits before r h in
    rw (is_that_err c.from_residual.result _ c.from_residual.ensures.1) (rw (i.code, i.pages) at (c.in_err-next.ensures.fault bits a.0 on a.1))

pub loop-word-preserved : goal.loop-word-preserved
loop-word-preserved g c =
    let i = c.loop-word.invariant in
    let n = c.in_ok-next.ensures in
    record {
      code = n.code ∙ i.code;
      pages = n.pages ∙ i.pages;
      count = omega (arith, n.count, i.count);
      later = g.met.S.Source.goes_on _ _ _ i.later n.later;
      read = λ bits before r h.
          let a = i.read bits before r h in
          (a.0 ++ c.next.new.self.offset ∷ [], n.reads bits a.0 (g.met.S.Source.same_bits _ _ bits i.later r) a.1);
    }
