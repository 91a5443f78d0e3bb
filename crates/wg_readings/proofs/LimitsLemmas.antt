-- Parameters of which no key is bad are within their limits.
use Rattle.std.proofs.Common.{◌≡◌, Bool, true, false, not, ◌&&◌, ◌||◌, ◌==◌, cond, ltb, Option, Some, None, unwrap_or, arith}
use Rattle.std.proofs.lemmas.Bool.{ltb-false, eqb-false}
use Rattle.wg_params.specs.declared.key.Key.{Key}
use Rattle.wg_params.specs.declared.limits.TheConstants.{MOST_PAGES, MOST_ARCS, MOST_WINDOW, MOST_CHAIN, MOST_INTERVAL, MOST_ZETA}
use Rattle.wg_params.specs.Codes.{IsCode, is_gamma_or_delta, is_unary_gamma_or_delta, is_residual_code}
use Rattle.wg_params.specs.Parameters.{Parameters, IsWithinLimits, first_bad}
use Rattle.wg_grammar.proofs.FieldCodes.{gamma_or_delta}

-- the first test of a chain does not hold, and none after it
not_first : (b : Bool) (key : Key) (rest : Option Key) → cond b (Some key) rest ≡ None → (b ≡ false) × (rest ≡ None)
not_first b key rest h = grind arith

neither : (a b : Bool) → (a || b) ≡ false → (a ≡ false) × (b ≡ false)
neither a b h = grind arith

six : (a b c d e f : Bool) → not (a && b && c && d && e && f) ≡ false → (a ≡ true) × (b ≡ true) × (c ≡ true) × (d ≡ true) × (e ≡ true) × (f ≡ true)
six a b c d e f h = grind arith

pub within_limits : (p : Parameters) → first_bad p ≡ None → IsWithinLimits p
within_limits p none =
    let nodes = not_first _ _ _ none in
    let arcs = not_first _ _ _ nodes.1 in
    let window = not_first _ _ _ arcs.1 in
    let chain = not_first _ _ _ window.1 in
    let interval = not_first _ _ _ chain.1 in
    let zeta = not_first _ _ _ interval.1 in
    let codes = not_first _ _ _ zeta.1 in
    let z = neither (p.zeta == 0) (ltb MOST_ZETA p.zeta) zeta.0 in
    let k = six (is_gamma_or_delta p.outdegrees) (is_unary_gamma_or_delta p.references) (is_unary_gamma_or_delta p.block_counts) (is_gamma_or_delta p.blocks) (is_residual_code p.zeta p.residuals) (is_gamma_or_delta p.offsets) codes.0 in
    record {
      nodes = ltb-false MOST_PAGES p.nodes nodes.0;
      arcs = ltb-false MOST_ARCS p.arcs arcs.0;
      window = ltb-false MOST_WINDOW p.window window.0;
      chain = ltb-false MOST_CHAIN (unwrap_or p.chain 0) chain.0;
      interval = ltb-false MOST_INTERVAL p.interval interval.0;
      some_zeta = omega (arith, eqb-false p.zeta 0 z.0);
      zeta = ltb-false MOST_ZETA p.zeta z.1;
      outdegrees = k.0;
      references = k.1;
      block_counts = k.2;
      blocks = k.3;
      residuals = k.4;
      offsets = k.5;
    }

-- the code of offsets is one
pub coded : (p : Parameters) → IsWithinLimits p → IsCode p.offsets
coded p limits = gamma_or_delta p.offsets limits.offsets
