-- A layout that the options give is within the limits.
use Rattle.std.proofs.Common.{◌≡◌, ℕ, ◌≤◌, true, List, Option, Some, unwrap_or, arith, refl, subst, codes}
use Rattle.std.proofs.lemmas.Option.{same_Some, option_and_then_some}
use Rattle.clap.specs.Words.{Row, Text, first_of}
use Rattle.wg_params.specs.Codes.{is_gamma_or_delta, is_unary_gamma_or_delta, is_residual_code}
use Rattle.wg_params.specs.Parameters.{AreCodes, IsWithinLimits, params_of}
use Rattle.wg_params.specs.{declared.code.Code.Code, declared.layout.Codes.Codes, declared.layout.Layout.Layout}
use Rattle.wg_params.specs.declared.code.Code.TheVariants.{Gamma, Delta}
use Rattle.wg_params.specs.declared.limits.TheConstants.{MOST_PAGES, MOST_ARCS, MOST_WINDOW, MOST_CHAIN, MOST_INTERVAL, MOST_ZETA}
use Rattle.wg_words.specs.Values.{word_in}
use Rattle.wg_words.specs.Layouts.{chain_or, zeta_in, gamma_or_delta, unary_gamma_or_delta, residual_code, codes_in, layout_in}
use Rattle.wg_words.specs.declared.defaults.TheConstants.{DEFAULT_WINDOW, DEFAULT_INTERVAL, DEFAULT_OUTDEGREES, DEFAULT_REFERENCES, DEFAULT_BLOCK_COUNTS, DEFAULT_BLOCKS, DEFAULT_RESIDUALS, DEFAULT_OFFSETS}
use Rattle.wg_words.proofs.ValueLemmas.{number_within, first_or_other}

-- gamma or delta, under whatever holds of both
named_code : (P : Code → Type 0) (word : Text) (code : Code) → P Gamma → P Delta → gamma_or_delta word ≡ Some code → P code
named_code P word code gamma delta = grind arith

gamma_or_delta_within : (word : Text) (code : Code) → gamma_or_delta word ≡ Some code → is_gamma_or_delta code ≡ true
gamma_or_delta_within word code = named_code (λ (x : Code). is_gamma_or_delta x ≡ true) word code refl refl

unary_gamma_or_delta_within : (word : Text) (code : Code) → unary_gamma_or_delta word ≡ Some code → is_unary_gamma_or_delta code ≡ true
unary_gamma_or_delta_within word code = grind arith

residual_code_within : (factor : ℕ) (word : Text) (code : Code) → residual_code factor word ≡ Some code → is_residual_code factor code ≡ true
residual_code_within factor word code = grind (arith, first_or_other, named_code)

chain_within : (o : Option Text) (chain : Option ℕ) → chain_or o ≡ Some chain → unwrap_or chain 0 ≤ MOST_CHAIN
chain_within o chain h = grind arith

zeta_within : (rows : List Row) (factor : ℕ) → zeta_in rows ≡ Some factor → (1 ≤ factor) × (factor ≤ MOST_ZETA)
zeta_within rows factor is = grind (arith, option_and_then_some, number_within)

codes_within : (rows : List Row) (factor : ℕ) (given : Codes) → codes_in rows factor ≡ Some given → AreCodes factor given
codes_within rows factor given is =
    option_and_then_some _ _ given is (λ outdegrees is_outdegrees then_references.
    option_and_then_some _ _ given then_references (λ references is_references then_counts.
    option_and_then_some _ _ given then_counts (λ counts is_counts then_blocks.
    option_and_then_some _ _ given then_blocks (λ blocks is_blocks then_residuals.
    option_and_then_some _ _ given then_residuals (λ residuals is_residuals then_offsets.
    option_and_then_some _ _ given then_offsets (λ offsets is_offsets given_is.
    subst (AreCodes factor) (same_Some (record { outdegrees = outdegrees; references = references; block_counts = counts; blocks = blocks; residuals = residuals; offsets = offsets }) given given_is) (record {
      outdegrees = gamma_or_delta_within (word_in rows (codes "outdegrees") DEFAULT_OUTDEGREES.now) outdegrees is_outdegrees;
      references = unary_gamma_or_delta_within (word_in rows (codes "references") DEFAULT_REFERENCES.now) references is_references;
      block_counts = unary_gamma_or_delta_within (word_in rows (codes "blockcounts") DEFAULT_BLOCK_COUNTS.now) counts is_counts;
      blocks = gamma_or_delta_within (word_in rows (codes "blocks") DEFAULT_BLOCKS.now) blocks is_blocks;
      residuals = residual_code_within factor (word_in rows (codes "residuals") DEFAULT_RESIDUALS.now) residuals is_residuals;
      offsets = gamma_or_delta_within (word_in rows (codes "offsets") DEFAULT_OFFSETS.now) offsets is_offsets;
    })))))))

pub layout_in_within : (rows : List Row) (layout : Layout) → layout_in rows ≡ Some layout → IsWithinLimits (params_of layout 0 0)
layout_in_within rows layout is =
    let near : DEFAULT_WINDOW ≤ MOST_WINDOW = omega arith in
    let small : DEFAULT_INTERVAL ≤ MOST_INTERVAL = omega arith in
    let no_pages : 0 ≤ MOST_PAGES = omega arith in
    let no_links : 0 ≤ MOST_ARCS = omega arith in
    option_and_then_some _ _ layout is (λ window is_window then_chain.
    option_and_then_some _ _ layout then_chain (λ chain is_chain then_interval.
    option_and_then_some _ _ layout then_interval (λ interval is_interval then_zeta.
    option_and_then_some _ _ layout then_zeta (λ zeta is_zeta then_codes.
    option_and_then_some _ _ layout then_codes (λ given is_given layout_is.
    let factor = zeta_within rows zeta is_zeta in
    let coded = codes_within rows zeta given is_given in
    subst (λ (l : Layout). IsWithinLimits (params_of l 0 0)) (same_Some (record { window = window; chain = chain; interval = interval; zeta = zeta; codes = given }) layout layout_is) (record {
      nodes = no_pages;
      arcs = no_links;
      window = number_within DEFAULT_WINDOW MOST_WINDOW (first_of (codes "window") rows) window near is_window;
      chain = chain_within (first_of (codes "chain") rows) chain is_chain;
      interval = number_within DEFAULT_INTERVAL MOST_INTERVAL (first_of (codes "interval") rows) interval small is_interval;
      some_zeta = factor.0;
      zeta = factor.1;
      outdegrees = coded.outdegrees;
      references = coded.references;
      block_counts = coded.block_counts;
      blocks = coded.blocks;
      residuals = coded.residuals;
      offsets = coded.offsets;
    }))))))

-- a layout that is within its limits for one graph is so for any, as far as its pages and arcs are
pub layout_for_any : (layout : Layout) (pages links other_pages other_links : ℕ) → IsWithinLimits (params_of layout other_pages other_links) → pages ≤ MOST_PAGES → links ≤ MOST_ARCS → IsWithinLimits (params_of layout pages links)
layout_for_any layout pages links other_pages other_links within few_pages few = grind arith
