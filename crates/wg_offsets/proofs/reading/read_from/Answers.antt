use Rattle.std.proofs.Common.{◌∙◌, ℕ, Ok, subst, arith}
use Rattle.std.proofs.lemmas.List.{length_push}
use Rattle.wg_outside.proofs.PutsLemmas.{is_that_err}
use Rattle.wg_params.specs.declared.code.Code.{Code}
use Rattle.wg_offsets.specs.Words.{ReadsOffsets}
use Rattle.wg_grammar.proofs.ErrorLemmas.{refusal_weaker}
use Rattle.wg_offsets.proofs.WordsLemmas.{last_more}
use Rattle.wg_offsets.proofs.reading.read_from.Goals as goal

pub returns-in_err-offset : goal.returns-in_err-offset
returns-in_err-offset g c =
    let i = c.loop-word.invariant in
    let n = c.in_err-offset.ensures in
    rw (is_that_err c.from_residual.result _ c.from_residual.ensures.1) record {
      count = tt;
      later = g.met.S.Source.goes_on _ _ _ i.later n.later;
      refused = refusal_weaker c.in_err-offset.field-0.0 _ _ (λ x h. g.met.S.Source.still_caused _ _ _ x i.later h) n.refused;
      reads = λ bits r. tt;
      fault = λ bits r. rw (i.code, i.pages) at (n.fault bits c.loop-word.offsets (g.met.S.Source.same_bits _ _ bits i.later r) (i.read bits r));
    }

pub returns-in_err-push : goal.returns-in_err-push
returns-in_err-push g c =
    rw (is_that_err c.from_residual-in_err-push.result _ c.from_residual-in_err-push.ensures.1) record {
      count = tt;
      later = g.met.S.Source.goes_on _ _ _ c.loop-word.invariant.later c.in_ok-offset.ensures.later;
      refused = tt;
      reads = λ bits r. tt;
      fault = λ bits r. tt;
    }

pub returns-in_err-finish : goal.returns-in_err-finish
returns-in_err-finish g c =
    let i = c.loop-word.invariant in
    let n = c.in_err-finish.ensures in
    rw (is_that_err c.from_residual-in_err-finish.result _ c.from_residual-in_err-finish.ensures.1) record {
      count = tt;
      later = g.met.S.Source.goes_on _ _ _ i.later n.later;
      refused = refusal_weaker c.in_err-finish.field-0.0 _ _ (λ x h. g.met.S.Source.still_caused _ _ _ x i.later h) n.refused;
      reads = λ bits r. tt;
      fault = λ bits r. rw (i.code, i.pages) at (n.fault bits c.loop-word.offsets (g.met.S.Source.same_bits _ _ bits i.later r) (i.read bits r));
    }

pub returns-clause-reads : goal.returns-clause-reads
returns-clause-reads g c = λ bits r.
    let i = c.loop-word.invariant in
    let on = g.met.S.Source.same_bits _ _ bits i.later r in
    let all = c.in_ok-finish.ensures.reads bits c.loop-word.offsets on (i.read bits r) in
    subst (λ (n : ℕ). ReadsOffsets c.args.code n bits (Ok c.loop-word.offsets)) i.pages (subst (λ (k : Code). ReadsOffsets k c.loop-word.words.pages bits (Ok c.loop-word.offsets)) i.code all)

pub returns-clause-later : goal.returns-clause-later
returns-clause-later g c = g.met.S.Source.goes_on _ _ _ c.loop-word.invariant.later c.in_ok-finish.ensures.later

pub loop-word-preserved : goal.loop-word-preserved
loop-word-preserved g c =
    let i = c.loop-word.invariant in
    let n = c.in_ok-offset.ensures in
    let p = c.in_ok-push.ensures.ok in
    record {
      code = n.code ∙ i.code;
      pages = n.pages ∙ i.pages;
      count = omega (arith, n.count, i.count);
      counted = rw p (omega (arith, length_push c.loop-word.offsets c.in_ok-offset.offset, i.counted));
      last = rw p (last_more c.loop-word.offsets c.in_ok-offset.offset ∙ n.value);
      later = g.met.S.Source.goes_on _ _ _ i.later n.later;
      read = λ bits r. rw (p, n.value) (n.reads bits c.loop-word.offsets (g.met.S.Source.same_bits _ _ bits i.later r) (i.read bits r));
    }
