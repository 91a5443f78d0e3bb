use Rattle.std.proofs.Common.{rules, ◌≡◌, ◌∙◌, ◌+◌, ◌-◌, ◌<◌, ◌++◌, ◌∷◌, [], List, ℕ, Ok, length, refl, ap, sym, subst, arith}
use Rattle.std.specs.Prelude.{get_or}
use Rattle.wg_outside.proofs.PutsLemmas.{is_that_err}
use Rattle.wg_decoder.specs.Chains.{HeadReads, RefersTo}
use Rattle.wg_grammar.proofs.ErrorLemmas.{refusal_weaker}
use Rattle.wg_random.proofs.ChainLemmas.{one_are_pages, one_falls, pushed_fall, pushed_length, pushed_pages}
use Rattle.wg_random.proofs.SpotLemmas.{head_error, one_page, pushed_chain, pushed_here}
use Rattle.wg_random.proofs.chain.chain.Goals as goal

pub down-init : goal.down-init
down-init g c =
    let is : c.push.new.self ≡ c.args.x ∷ [] = search rules in
    record {
      reached = g.met.S.Seek.by_reading _ _ (g.met.S.Source.stays _);
      many = c.requires.many;
      low = c.requires.page;
      some = omega (arith, ap length is);
      pages = one_are_pages _ _ c.args.x is c.requires.page;
      fall = one_falls _ c.args.x is;
      here = ap (λ (l : List ℕ). get_or l (length l - 1) 0) is;
      is = λ bits o r l. one_page c.args.params.now bits o c.args.x c.push.new.self is;
      ticks = omega (arith, ap length is);
    }

pub returns-in_err-push : goal.returns-in_err-push
returns-in_err-push g c =
    rw (is_that_err c.from_residual.result _ c.from_residual.ensures.1) record {
      reached = g.met.S.Seek.by_reading _ _ (g.met.S.Source.stays _);
      refused = tt;
      some = tt;
      pages = tt;
      fall = tt;
      chain = λ bits o r l. tt;
      ticks = tt;
      error = λ bits o r l. (c.args.x ∷ [], one_page c.args.params.now bits o c.args.x _ refl, omega arith);
    }

pub returns-in_err-back : goal.returns-in_err-back
returns-in_err-back g c =
    let h = c.down.invariant in
    let n = c.in_err-back.ensures in
    rw (is_that_err c.from_residual-in_err-back.result _ c.from_residual-in_err-back.ensures.1) record {
      reached = g.met.S.Seek.on_from _ _ _ h.reached n.reached;
      refused = refusal_weaker c.in_err-back.field-0.0 _ _ (λ x y. g.met.S.Seek.cause_stays _ _ _ x h.reached y) n.refused;
      some = tt;
      pages = tt;
      fall = tt;
      chain = λ bits o r l. tt;
      ticks = tt;
      error = λ bits o r l.
          let on = g.met.S.Seek.bits_stay _ _ bits h.reached r in
          let lies = g.met.S.Located.lies_still _ _ o h.reached l in
          let ticks : c.tick.new.self ≡ c.args.steps.now + length c.down.chain = omega (arith, h.ticks, c.tick.ensures) in
          head_error c.args.params.now bits o c.args.x c.down.chain c.down.page c.args.steps.now c.tick.new.self c.in_err-back.field-0.0 (h.is bits o r l) h.here ticks (n.fault bits o on lies);
    }

pub returns-in_err-push-2 : goal.returns-in_err-push-2
returns-in_err-push-2 g c =
    rw (is_that_err c.from_residual-in_err-push-2.result _ c.from_residual-in_err-push-2.ensures.1) record {
      reached = g.met.S.Seek.on_from _ _ _ c.down.invariant.reached c.in_ok-back.ensures.reached;
      refused = tt;
      some = tt;
      pages = tt;
      fall = tt;
      chain = λ bits o r l. tt;
      ticks = tt;
      error = λ bits o r l. (c.down.chain, c.down.invariant.is bits o r l, omega (arith, c.down.invariant.ticks, c.tick.ensures));
    }

pub returns-then-back-eq0-clause-reached : goal.returns-then-back-eq0-clause-reached
returns-then-back-eq0-clause-reached g c = g.met.S.Seek.on_from _ _ _ c.down.invariant.reached c.in_ok-back.ensures.reached

pub returns-then-back-eq0-clause-chain : goal.returns-then-back-eq0-clause-chain
returns-then-back-eq0-clause-chain g c = λ bits o r l.
    let p = c.args.params.now in
    let h = c.down.invariant in
    let on = g.met.S.Seek.bits_stay _ _ bits h.reached r in
    let lies = g.met.S.Located.lies_still _ _ o h.reached l in
    let reads = subst (λ (n : ℕ). HeadReads p bits o c.down.page (Ok n)) c.if-back-eq0.true (c.in_ok-back.ensures.reads bits o on lies) in
    record { links = h.is bits o r l; last = subst (λ (k : ℕ). HeadReads p bits o k (Ok 0)) (sym h.here) reads }

pub down-preserved : goal.down-preserved
down-preserved g c =
    let p = c.args.params.now in
    let h = c.down.invariant in
    let z = c.down.page - c.in_ok-back.back in
    let is : c.push-in-down.new.self ≡ c.down.chain ++ z ∷ [] = search rules in
    let some : 0 < c.in_ok-back.back = omega arith in
    record {
      reached = g.met.S.Seek.on_from _ _ _ h.reached c.in_ok-back.ensures.reached;
      many = g.met.S.Located.as_many _ _ c.in_ok-back.ensures.reached ∙ h.many;
      low = omega (arith, h.low);
      some = omega (arith, pushed_length _ _ z is);
      pages = pushed_pages c.down.chain c.push-in-down.new.self p.nodes z is h.some (omega (arith, h.low)) h.pages;
      fall = pushed_fall c.down.chain c.push-in-down.new.self c.down.page z is h.some h.here (omega (arith, some, c.in_ok-back.ensures.near)) h.fall;
      here = pushed_here c.down.chain c.push-in-down.new.self z is;
      is = λ bits o r l.
          let on = g.met.S.Seek.bits_stay _ _ bits h.reached r in
          let lies = g.met.S.Located.lies_still _ _ o h.reached l in
          let refers : RefersTo p bits o c.down.page z = (c.in_ok-back.back, some, c.in_ok-back.ensures.reads bits o on lies, refl) in
          pushed_chain p bits o c.args.x c.down.chain c.push-in-down.new.self c.down.page z is h.here refers (h.is bits o r l);
      ticks = omega (arith, h.ticks, c.tick.ensures, pushed_length _ _ z is);
    }
