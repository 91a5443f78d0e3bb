-- The parameters of an archive, and their limits.
use Rattle.std.specs.Prelude.{◌≡◌, ℕ, ◌≤◌, Bool, true, not, ◌&&◌, ◌||◌, ◌==◌, nat_lt, if◌then◌else◌, Option, Some, None, unwrap_or}
use Rattle.wg_params.specs.declared.limits.TheConstants.{MOST_PAGES, MOST_ARCS, MOST_WINDOW, MOST_CHAIN, MOST_INTERVAL, MOST_ZETA}
use Rattle.wg_params.specs.declared.code.Code.{Code}
use Rattle.wg_params.specs.declared.code.Code.TheVariants.{Unary, Gamma, Zeta}
use Rattle.wg_params.specs.declared.key.Key.{Key}
use Rattle.wg_params.specs.declared.key.Key.TheVariants as key
use Rattle.wg_params.specs.declared.layout.Codes.{Codes}
use Rattle.wg_params.specs.declared.layout.Layout.{Layout}
use Rattle.wg_params.specs.Codes.{is_gamma_or_delta, is_unary_gamma_or_delta, is_residual_code}

-- Pages and arcs; how many pages back a reference may reach; how many references may lead from one page to the next,
-- if this is limited; the least length of an interval, 0 for no intervals; the parameter k of zeta; and the
-- code of each field.
pub record Parameters : Type 0 where
  pub nodes : ℕ
  pub arcs : ℕ
  pub window : ℕ
  pub chain : Option ℕ
  pub interval : ℕ
  pub zeta : ℕ
  pub outdegrees : Code
  pub references : Code
  pub block_counts : Code
  pub blocks : Code
  pub residuals : Code
  pub offsets : Code

-- those of an archive that is written so, with so many pages and arcs
abbrev pub params_of : Layout → ℕ → ℕ → Parameters
params_of l nodes arcs = record {
  nodes = nodes;
  arcs = arcs;
  window = l.window;
  chain = l.chain;
  interval = l.interval;
  zeta = l.zeta;
  outdegrees = l.codes.outdegrees;
  references = l.codes.references;
  block_counts = l.codes.block_counts;
  blocks = l.codes.blocks;
  residuals = l.codes.residuals;
  offsets = l.codes.offsets;
}

-- how an archive with these parameters is written
abbrev pub layout_of : Parameters → Layout
layout_of p = record {
  window = p.window;
  chain = p.chain;
  interval = p.interval;
  zeta = p.zeta;
  codes = record {
    outdegrees = p.outdegrees;
    references = p.references;
    block_counts = p.block_counts;
    blocks = p.blocks;
    residuals = p.residuals;
    offsets = p.offsets;
  };
}

-- the default codes, with this parameter k of zeta
abbrev pub default_codes : ℕ → Codes
default_codes zeta = record {
  outdegrees = Gamma;
  references = Unary;
  block_counts = Gamma;
  blocks = Gamma;
  residuals = Zeta zeta;
  offsets = Gamma;
}

-- each field is in a code that it may have
abbrev pub has_its_codes : Parameters → Bool
has_its_codes p =
    is_gamma_or_delta p.outdegrees && is_unary_gamma_or_delta p.references && is_unary_gamma_or_delta p.block_counts
    && is_gamma_or_delta p.blocks && is_residual_code p.zeta p.residuals && is_gamma_or_delta p.offsets

-- the first key that is out of its limits
abbrev pub first_bad : Parameters → Option Key
first_bad p =
    if nat_lt MOST_PAGES p.nodes then Some key.Nodes
    else if nat_lt MOST_ARCS p.arcs then Some key.Arcs
    else if nat_lt MOST_WINDOW p.window then Some key.WindowSize
    else if nat_lt MOST_CHAIN (unwrap_or p.chain 0) then Some key.MaxRefCount
    else if nat_lt MOST_INTERVAL p.interval then Some key.MinIntervalLength
    else if p.zeta == 0 || nat_lt MOST_ZETA p.zeta then Some key.ZetaK
    else if not (has_its_codes p) then Some key.CompressionFlags
    else None

-- each field is in a code that it may have, with this parameter k of zeta
pub record AreCodes (zeta : ℕ) (c : Codes) : Type 0 where
  pub outdegrees : is_gamma_or_delta c.outdegrees ≡ true
  pub references : is_unary_gamma_or_delta c.references ≡ true
  pub block_counts : is_unary_gamma_or_delta c.block_counts ≡ true
  pub blocks : is_gamma_or_delta c.blocks ≡ true
  pub residuals : is_residual_code zeta c.residuals ≡ true
  pub offsets : is_gamma_or_delta c.offsets ≡ true

-- all keys are within their limits
pub record IsWithinLimits (p : Parameters) : Type 0 where
  pub nodes : p.nodes ≤ MOST_PAGES
  pub arcs : p.arcs ≤ MOST_ARCS
  pub window : p.window ≤ MOST_WINDOW
  pub chain : unwrap_or p.chain 0 ≤ MOST_CHAIN
  pub interval : p.interval ≤ MOST_INTERVAL
  pub some_zeta : 1 ≤ p.zeta
  pub zeta : p.zeta ≤ MOST_ZETA
  pub outdegrees : is_gamma_or_delta p.outdegrees ≡ true
  pub references : is_unary_gamma_or_delta p.references ≡ true
  pub block_counts : is_unary_gamma_or_delta p.block_counts ≡ true
  pub blocks : is_gamma_or_delta p.blocks ≡ true
  pub residuals : is_residual_code p.zeta p.residuals ≡ true
  pub offsets : is_gamma_or_delta p.offsets ≡ true
