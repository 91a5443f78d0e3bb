use Rattle.std.proofs.Common.{ℕ, List, subst, sym}
use Rattle.wg_random.specs.Spot.{IsWholeChain}
use Rattle.wg_grammar.proofs.ErrorLemmas.{refusals_weaker}
use Rattle.wg_random.proofs.SpotLemmas.{answer_of}
use Rattle.wg_random.proofs.chain.spot_from.Goals as goal

pub returns : goal.returns
returns g c = record {
  reached = g.met.S.Seek.on_from _ _ _ c.in_ok-chain.ensures.reached c.climb.ensures.reached;
  refused = refusals_weaker c.climb.result _ _ (λ x h. g.met.S.Seek.cause_stays _ _ _ x c.in_ok-chain.ensures.reached h) c.climb.ensures.refused;
  answer = λ bits o r l.
      let p = c.args.params.now in
      let h = c.in_ok-chain.ensures in
      let on = g.met.S.Seek.bits_stay _ _ bits h.reached r in
      let lies = g.met.S.Located.lies_still _ _ o h.reached l in
      let whole = h.chain bits o r l in
      let lent = subst (λ (l : List ℕ). IsWholeChain p bits o c.args.page l) (sym c.as_slice.ensures) whole in
      answer_of p bits o c.args.page c.in_ok-chain.chain c.as_slice.result.now c.args.steps.now c.chain.new.steps c.climb.result c.as_slice.ensures whole.links h.ticks
      (c.climb.ensures.reads bits o on lies c.args.page lent) (c.climb.ensures.fault bits o on lies c.args.page lent);
}
