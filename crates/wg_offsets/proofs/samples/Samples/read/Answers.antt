use Rattle.std.proofs.Common.{◌≡◌, ◌∙◌, ◌+◌, [], ◌∷◌, ◌++◌, sym, arith}
use Rattle.wg_outside.proofs.PutsLemmas.{is_that_err}
use Rattle.wg_grammar.proofs.ErrorLemmas.{refusal_weaker}
use Rattle.wg_offsets.proofs.SamplesLemmas.{read_as}
use Rattle.wg_offsets.proofs.samples.Samples.read.Goals as goal

pub returns-in_err-place : goal.returns-in_err-place
returns-in_err-place g c =
    let i = c.loop-page.invariant in
    let n = c.in_err-place.ensures in
    rw (is_that_err c.from_residual.result _ c.from_residual.ensures.1) record {
      pages = tt;
      code = tt;
      later = g.met.S.Source.goes_on _ _ _ i.later n.later;
      refused = refusal_weaker c.in_err-place.field-0.0 _ _ (λ x h. g.met.S.Source.still_caused _ _ _ x i.later h) n.refused;
      reads = λ bits r. tt;
      fault = λ bits r.
          let a = i.read bits r in
          rw (i.code, i.pages) at (n.fault bits a.0 (g.met.S.Source.same_bits _ _ bits i.later r) a.1);
    }

pub loop-page-preserved : goal.loop-page-preserved
loop-page-preserved g c =
    let i = c.loop-page.invariant in
    let n = c.in_ok-place.ensures in
    let k = c.in_ok-keep_sample.ensures in
    let w = c.next.new.self in
    record {
      code = n.code ∙ i.code;
      pages = n.pages ∙ i.pages;
      count = omega (arith, n.count, i.count);
      places = omega (arith, k.places);
      bits = k.bits;
      within = k.within;
      later = g.met.S.Source.goes_on _ _ _ i.later n.later;
      read = λ file r. let a = i.read file r in (a.0 ++ w.offset ∷ [], n.reads file a.0 (g.met.S.Source.same_bits _ _ file i.later r) a.1);
      samples = λ file r.
          let a = i.read file r in
          let all = n.reads file a.0 (g.met.S.Source.same_bits _ _ file i.later r) a.1 in
          let count : w.count ≡ c.loop-page.page + 1 = omega (arith, n.count, i.count) in
          k.each c.args.code file (a.0 ++ w.offset ∷ []) (i.samples file r) (read_as _ _ file _ _ _ _ _ _ _ (n.code ∙ i.code) count (sym c.at.ensures.value) (sym n.value) all);
    }

pub returns-in_err-keep_sample : goal.returns-in_err-keep_sample
returns-in_err-keep_sample g c =
    rw (is_that_err c.from_residual-in_err-keep_sample.result _ c.from_residual-in_err-keep_sample.ensures.1) record {
      pages = tt;
      code = tt;
      later = g.met.S.Source.goes_on _ _ _ c.loop-page.invariant.later c.in_ok-place.ensures.later;
      refused = tt;
      reads = λ bits r. tt;
      fault = λ bits r. tt;
    }

pub returns-in_err-finish : goal.returns-in_err-finish
returns-in_err-finish g c =
    let i = c.loop-page.invariant in
    let n = c.in_err-finish.ensures in
    rw (is_that_err c.from_residual-in_err-finish.result _ c.from_residual-in_err-finish.ensures.1) record {
      pages = tt;
      code = tt;
      later = g.met.S.Source.goes_on _ _ _ i.later n.later;
      refused = refusal_weaker c.in_err-finish.field-0.0 _ _ (λ x h. g.met.S.Source.still_caused _ _ _ x i.later h) n.refused;
      reads = λ bits r. tt;
      fault = λ bits r.
          let a = i.read bits r in
          rw (i.code, i.pages) at (n.fault bits a.0 (g.met.S.Source.same_bits _ _ bits i.later r) a.1);
    }

pub returns-clause-reads : goal.returns-clause-reads
returns-clause-reads g c = λ file r.
    let i = c.loop-page.invariant in
    let on = g.met.S.Source.same_bits _ _ file i.later r in
    let a = i.read file r in
    (a.0, record { reads = rw (i.code, i.pages) at (c.in_ok-finish.ensures.reads file a.0 on a.1); samples = i.samples file r })

pub returns-clause-later : goal.returns-clause-later
returns-clause-later g c = g.met.S.Source.goes_on _ _ _ c.loop-page.invariant.later c.in_ok-finish.ensures.later
