-- How an archive is written, and the options that say so.
use Rattle.std.specs.Prelude.{ℕ, ◌==◌, List, Option, Some, None, option_and_then, option_map, codes, if◌then◌else◌}
use Rattle.std.specs.Str.{bytes_eq}
use Rattle.clap.specs.Words.{Row, Text, first_of}
use Rattle.wg_params.specs.declared.code.Code.{Code}
use Rattle.wg_params.specs.declared.code.Code.TheVariants.{Unary, Gamma, Delta, Zeta, Nibble}
use Rattle.wg_params.specs.declared.limits.TheConstants.{MOST_WINDOW, MOST_CHAIN, MOST_INTERVAL, MOST_ZETA}
use Rattle.wg_words.specs.Values.{number_up_to, number_in, word_in}
use Rattle.wg_words.specs.declared.defaults.TheConstants.{DEFAULT_WINDOW, DEFAULT_CHAIN, DEFAULT_INTERVAL, DEFAULT_ZETA, DEFAULT_OUTDEGREES, DEFAULT_REFERENCES, DEFAULT_BLOCK_COUNTS, DEFAULT_BLOCKS, DEFAULT_RESIDUALS, DEFAULT_OFFSETS}
use Rattle.wg_params.specs.declared.layout.Codes.{Codes}
use Rattle.wg_params.specs.Parameters.{default_codes}
use Rattle.wg_params.specs.declared.layout.Layout.{Layout}

-- how an archive is written if no option says otherwise
abbrev pub default_layout : Layout
default_layout = record {
  window = DEFAULT_WINDOW;
  chain = Some DEFAULT_CHAIN;
  interval = DEFAULT_INTERVAL;
  zeta = DEFAULT_ZETA;
  codes = default_codes DEFAULT_ZETA;
}

-- none for no limit, or the limit
abbrev pub chain_of : Text → Option (Option ℕ)
chain_of text = if bytes_eq text (codes "none") then Some None
    else option_map (λ n. Some n) (number_up_to MOST_CHAIN text)

abbrev pub chain_or : Option Text → Option (Option ℕ)
chain_or None = Some (Some DEFAULT_CHAIN)
chain_or (Some text) = chain_of text

-- --chain
abbrev pub chain_in : List Row → Option (Option ℕ)
chain_in rows = chain_or (first_of (codes "chain") rows)

-- the parameter k of zeta is not 0
abbrev pub factor_of : ℕ → Option ℕ
factor_of n = if n == 0 then None else Some n

-- --zeta
abbrev pub zeta_in : List Row → Option ℕ
zeta_in rows = option_and_then factor_of (number_in rows (codes "zeta") DEFAULT_ZETA MOST_ZETA)

-- the words for outdegrees, blocks and offsets
abbrev pub gamma_or_delta : Text → Option Code
gamma_or_delta word =
    if bytes_eq word (codes "gamma") then Some Gamma
    else if bytes_eq word (codes "delta") then Some Delta
    else None

-- the words for references and block counts
abbrev pub unary_gamma_or_delta : Text → Option Code
unary_gamma_or_delta word = if bytes_eq word (codes "unary") then Some Unary else gamma_or_delta word

-- the words for residuals; zeta is the code with this parameter k
abbrev pub residual_code : ℕ → Text → Option Code
residual_code factor word =
    if bytes_eq word (codes "zeta") then Some (Zeta factor)
    else if bytes_eq word (codes "nibble") then Some Nibble
    else gamma_or_delta word

-- the codes that the options give, with this parameter k of zeta: none if a word is unknown
abbrev pub codes_in : List Row → ℕ → Option Codes
codes_in rows factor =
    option_and_then (λ outdegrees.
    option_and_then (λ references.
    option_and_then (λ counts.
    option_and_then (λ blocks.
    option_and_then (λ residuals.
    option_and_then (λ offsets. Some
    (record {
      outdegrees = outdegrees;
      references = references;
      block_counts = counts;
      blocks = blocks;
      residuals = residuals;
      offsets = offsets;
    }))
    (gamma_or_delta (word_in rows (codes "offsets") DEFAULT_OFFSETS.now)))
    (residual_code factor (word_in rows (codes "residuals") DEFAULT_RESIDUALS.now)))
    (gamma_or_delta (word_in rows (codes "blocks") DEFAULT_BLOCKS.now)))
    (unary_gamma_or_delta (word_in rows (codes "blockcounts") DEFAULT_BLOCK_COUNTS.now)))
    (unary_gamma_or_delta (word_in rows (codes "references") DEFAULT_REFERENCES.now)))
    (gamma_or_delta (word_in rows (codes "outdegrees") DEFAULT_OUTDEGREES.now))

-- the layout that the options give: none if one is out of its range
abbrev pub layout_in : List Row → Option Layout
layout_in rows =
    option_and_then (λ window.
    option_and_then (λ chain.
    option_and_then (λ interval.
    option_and_then (λ zeta.
    option_and_then (λ given. Some
    (record { window = window; chain = chain; interval = interval; zeta = zeta; codes = given }))
    (codes_in rows zeta))
    (zeta_in rows))
    (number_in rows (codes "interval") DEFAULT_INTERVAL MOST_INTERVAL))
    (chain_in rows))
    (number_in rows (codes "window") DEFAULT_WINDOW MOST_WINDOW)
