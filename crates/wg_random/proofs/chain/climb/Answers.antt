use Rattle.std.proofs.Common.{rules, ◌≡◌, ◌∙◌, ◌-◌, ◌<◌, ℕ, suc, length, drop, Ok, Err, refl, sym, ap, subst, arith}
use Rattle.std.specs.Prelude.{get_or}
use Rattle.wg_outside.proofs.PutsLemmas.{is_that_err}
use Rattle.std.proofs.lemmas.Result.{err_from_is_err_and}
use Rattle.wg_graph.specs.Ascending.{Ascends, Below}
use Rattle.wg_decoder.specs.declared.decoded.Decoded.{Decoded}
use Rattle.wg_decoder.specs.Remembered.{known_of}
use Rattle.wg_decoder.specs.Chains.{ChainReads}
use Rattle.wg_grammar.proofs.ErrorLemmas.{fault_weaker, refusal_weaker}
use Rattle.wg_random.proofs.SpotLemmas.{carried, last_reads, up_one, lent_reads}
use Rattle.wg_random.proofs.chain.climb.Goals as goal

pub returns-in_err-known-clause-fault : goal.returns-in_err-known-clause-fault
returns-in_err-known-clause-fault g c = λ bits o r l x whole.
    let p = c.args.params.now in
    let chain = c.args.chain.now in
    rw (is_that_err c.from_residual.result _ c.from_residual.ensures.1) (fault_weaker c.in_err-known.field-0.0 _ _
    (λ f h. carried p bits o x chain (length chain - 1) f (omega (arith, c.requires.some)) whole.links (last_reads p bits o chain (Err f) whole.last h))
    (c.in_err-known.ensures.fault bits o r l))

pub up-init : goal.up-init
up-init g c =
    let h = c.in_ok-known.ensures in
    record {
      reached = h.reached;
      many = g.met.S.Located.as_many _ _ h.reached ∙ c.requires.many;
      within = omega (arith, c.requires.some);
      reads = λ bits o r l x whole. last_reads c.args.params.now bits o c.args.chain.now (Ok (known_of c.in_ok-known.known)) whole.last (h.reads bits o r l);
      ascends = h.ascends;
      below = h.below;
      deep = h.deep;
    }

pub read_record-requires-in-up-clause-depth : goal.read_record-requires-in-up-clause-depth
read_record-requires-in-up-clause-depth g c = λ some.
    let chain = c.args.chain.now in
    let i = c.up.left - 1 in
    let place : suc i ≡ c.up.left = omega arith in
    omega (arith, c.requires.fall i (omega (arith, place, c.up.invariant.within)), ap (λ (k : ℕ). get_or chain k 0) place, c.up.invariant.deep)

pub returns-in_err-above-clause-reached : goal.returns-in_err-above-clause-reached
returns-in_err-above-clause-reached g c = g.met.S.Seek.on_from _ _ _ c.up.invariant.reached c.in_err-above.ensures.reached

pub returns-in_err-above-clause-refused : goal.returns-in_err-above-clause-refused
returns-in_err-above-clause-refused g c =
    let q = err_from_is_err_and c.from_residual-in_err-above.result c.from_residual-in_err-above.ensures.1 in
    rw (q.1, q.2) (refusal_weaker c.in_err-above.field-0.0 _ _ (λ x h. g.met.S.Seek.cause_stays _ _ _ x c.up.invariant.reached h) c.in_err-above.ensures.refused)

pub returns-in_err-above-clause-fault : goal.returns-in_err-above-clause-fault
returns-in_err-above-clause-fault g c = λ bits o r l x whole.
    let p = c.args.params.now in
    let chain = c.args.chain.now in
    let i = c.up.left - 1 in
    let place : suc i ≡ c.up.left = omega arith in
    let lt : suc i < length chain = omega (arith, place, c.up.invariant.within) in
    let on = g.met.S.Seek.bits_stay _ _ bits c.up.invariant.reached r in
    let lies = g.met.S.Located.lies_still _ _ o c.up.invariant.reached l in
    let under = subst (λ (k : ℕ). ChainReads p bits o (get_or chain k 0) (drop (suc k) chain) (Ok (known_of c.up.known))) (sym place) (c.up.invariant.reads bits o r l x whole) in
    rw (is_that_err c.from_residual-in_err-above.result _ c.from_residual-in_err-above.ensures.1) (fault_weaker c.in_err-above.field-0.0 _ _
    (λ f h. carried p bits o x chain i f (omega (arith, lt)) whole.links
    (up_one p bits o x chain i (Ok (known_of c.up.known)) (Err f) lt whole.links under
    (lent_reads p bits o (get_or chain i 0) c.as_slice-below.result.now c.up.known.list c.up.known.depth (Err f) c.as_slice-below.ensures h)))
    (c.in_err-above.ensures.fault bits o on lies))

pub up-preserved : goal.up-preserved
up-preserved g c =
    let p = c.args.params.now in
    let chain = c.args.chain.now in
    let i = c.up.left - 1 in
    let place : suc i ≡ c.up.left = omega arith in
    let lt : suc i < length chain = omega (arith, place, c.up.invariant.within) in
    let above = c.in_ok-above.above in
    let h = c.in_ok-above.ensures in
    let e : c.replace.new.dest ≡ above = search rules in
    record {
      reached = g.met.S.Seek.on_from _ _ _ c.up.invariant.reached h.reached;
      many = g.met.S.Located.as_many _ _ h.reached ∙ c.up.invariant.many;
      within = omega (arith, lt);
      reads = λ bits o r l x whole.
          let on = g.met.S.Seek.bits_stay _ _ bits c.up.invariant.reached r in
          let lies = g.met.S.Located.lies_still _ _ o c.up.invariant.reached l in
          let under = subst (λ (k : ℕ). ChainReads p bits o (get_or chain k 0) (drop (suc k) chain) (Ok (known_of c.up.known))) (sym place) (c.up.invariant.reads bits o r l x whole) in
          let reads = up_one p bits o x chain i (Ok (known_of c.up.known)) (Ok (known_of above)) lt whole.links under
          (lent_reads p bits o (get_or chain i 0) c.as_slice-below.result.now c.up.known.list c.up.known.depth (Ok (known_of above)) c.as_slice-below.ensures (h.reads bits o on lies)) in
          subst (λ (d : Decoded). ChainReads p bits o (get_or chain i 0) (drop (suc i) chain) (Ok (known_of d))) (sym e) reads;
      ascends = subst (λ (d : Decoded). Ascends 0 d.list) (sym e) h.ascends;
      below = subst (λ (d : Decoded). Below p.nodes d.list) (sym e) h.below;
      deep = omega (arith, ap (λ (d : Decoded). d.depth) e, h.deep);
    }

pub returns-clause-reads : goal.returns-clause-reads
returns-clause-reads g c = λ bits o r l x whole.
    let none : c.up.left ≡ 0 = omega arith in (
      known_of c.up.known,
      subst (λ (k : ℕ). ChainReads c.args.params.now bits o (get_or c.args.chain.now k 0) (drop (suc k) c.args.chain.now) (Ok (known_of c.up.known)))
          none (c.up.invariant.reads bits o r l x whole),
      refl,
    )
