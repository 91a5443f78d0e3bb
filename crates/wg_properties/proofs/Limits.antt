-- What is validated is within the limits of the parameters.
use Rattle.std.proofs.Common.{◌≡◌, ℕ, ◌+◌, ◌≤◌, Bool, true, false, ◌||◌, cond, ltb, List, [], ◌∷◌, map, Option, Some, None, Result, Ok, Err, unwrap_or, refl, subst, arith, codes, eq-eqb}
use Rattle.std.specs.Prelude.{find}
use Rattle.std.specs.List.{list_all}
use Rattle.std.specs.Str.{bytes_eq}
use Rattle.std.proofs.lemmas.Bool.{and_parts, ltb-false}
use Rattle.wg_num.specs.Decimal.{number_of}
use Rattle.wg_params.specs.Codes.{is_gamma_or_delta, is_unary_gamma_or_delta, is_residual_code}
use Rattle.wg_params.specs.declared.code.Code.{Code}
use Rattle.wg_params.specs.Parameters.{Parameters, AreCodes, IsWithinLimits, first_bad, default_codes}
use Rattle.wg_params.specs.declared.key.Key.{Key}
use Rattle.wg_params.specs.declared.key.Key.TheVariants as key
use Rattle.wg_params.specs.declared.limits.TheConstants.{MOST_PAGES, MOST_ARCS, MOST_WINDOW, MOST_CHAIN, MOST_INTERVAL, MOST_ZETA}
use Rattle.wg_properties.specs.Flags.{code_of, with_code, with_flag, codes_from, codes_of, pieces_of, flag_of}
use Rattle.wg_properties.specs.Words.{Flag, word_of}
use Rattle.wg_properties.specs.Judged.{and_then, within, judged_number, judged_chain, judged_zeta, judged_flags}
use Rattle.wg_properties.specs.declared.fault.PropFault.{PropFault}
use Rattle.wg_properties.specs.declared.fault.PropFault.TheVariants as fault
use Rattle.wg_params.specs.declared.layout.Codes.{Codes}
use Rattle.wg_properties.specs.declared.flags.Field.{Field}
use Rattle.wg_properties.specs.declared.flags.Field.TheVariants.{Outdegrees, Blocks, References, BlockCounts, Residuals, Offsets}
use Rattle.wg_properties.specs.declared.flags.TheConstants.{FLAGS}

abbrev ok_number : ℕ → Result ℕ PropFault
ok_number n = Ok n

within_ok : (k : Key) (least most : ℕ) (o : Option ℕ) (n : ℕ) → within k least most o ≡ ok_number n → (least ≤ n) × (n ≤ most)
within_ok k least most None n e = absurd cc
within_ok k least most (Some m) n e = at (ltb m least) (ltb most m) refl refl e
  where
    at : (s t : Bool) → ltb m least ≡ s → ltb most m ≡ t → cond (s || t) (Err (fault.Range k)) (ok_number m) ≡ ok_number n → (least ≤ n) × (n ≤ most)
    at true t a b e = absurd cc
    at false true a b e = absurd cc
    at false false a b e = let same : m ≡ n = cc in (omega (arith, ltb-false m least a), omega (arith, ltb-false most m b))

pub number_ok : (k : Key) (most : ℕ) (value : Option (List ℕ)) (n : ℕ) → judged_number k most value ≡ ok_number n → n ≤ most
number_ok k most value n h = grind arith

pub zeta_ok : (value : Option (List ℕ)) (n : ℕ) → judged_zeta value ≡ ok_number n → (1 ≤ n) × (n ≤ MOST_ZETA)
zeta_ok value n h = grind arith

pub chain_ok : (value : Option (List ℕ)) (chain : Option ℕ) → judged_chain value ≡ Ok chain → unwrap_or chain 0 ≤ MOST_CHAIN
chain_ok None chain e = absurd cc
chain_ok (Some text) chain e = at (bytes_eq text (codes "-1")) e
  where
    some : (w : Result ℕ PropFault) → within key.MaxRefCount 0 MOST_CHAIN (number_of text) ≡ w → and_then w (λ n. Ok (Some n)) ≡ Ok chain → unwrap_or chain 0 ≤ MOST_CHAIN
    some (Ok n) is e = let same : Some n ≡ chain = cc in subst (λ o. unwrap_or o 0 ≤ MOST_CHAIN) same (within_ok key.MaxRefCount 0 MOST_CHAIN (number_of text) n is).1
    some (Err f) is e = absurd cc

    at : (t : Bool) → cond t (Ok None) (and_then (within key.MaxRefCount 0 MOST_CHAIN (number_of text)) (λ n. Ok (Some n))) ≡ Ok chain → unwrap_or chain 0 ≤ MOST_CHAIN
    at true e = let same : None ≡ chain = cc in subst (λ o. unwrap_or o 0 ≤ MOST_CHAIN) same (omega arith)
    at false e = some (within key.MaxRefCount 0 MOST_CHAIN (number_of text)) refl e

-- whether a field may be in a code
abbrev may_have : ℕ → Field → Code → Bool
may_have zeta Outdegrees code = is_gamma_or_delta code
may_have zeta Blocks code = is_gamma_or_delta code
may_have zeta References code = is_unary_gamma_or_delta code
may_have zeta BlockCounts code = is_unary_gamma_or_delta code
may_have zeta Residuals code = is_residual_code zeta code
may_have zeta Offsets code = is_gamma_or_delta code

code_keeps : (zeta : ℕ) (c : Codes) (field : Field) (code : Code) → may_have zeta field code ≡ true → AreCodes zeta c → AreCodes zeta (with_code c field code)
code_keeps zeta c field code h a = grind arith

-- whether a flag's field may be in its code
abbrev fits : ℕ → Flag → Bool
fits zeta flag = may_have zeta flag.0 (code_of zeta flag.1)

all_fit : (zeta : ℕ) → list_all (fits zeta) FLAGS ≡ true
all_fit zeta = grind (arith, eq-eqb)

found_passes : (p q : Flag → Bool) (flags : List Flag) (flag : Flag) → list_all p flags ≡ true → find q flags ≡ Some flag → p flag ≡ true
found_passes p q [] flag h e = absurd cc
found_passes p q (x ∷ xs) flag h e = grind (arith, and_parts, found_passes p q xs flag)

flag_keeps : (zeta : ℕ) (c : Codes) (word : List ℕ) (flag : Flag) → flag_of word ≡ Some flag → AreCodes zeta c → AreCodes zeta (with_flag zeta c flag)
unfolding flag_of
flag_keeps zeta c word flag e = code_keeps zeta c flag.0 (code_of zeta flag.1) (found_passes (fits zeta) (λ (f : Flag). bytes_eq word (word_of f)) FLAGS flag (all_fit zeta) e)

one_keeps : (zeta i : ℕ) (c d : Codes) (word : List ℕ) (o : Option Flag) (flags : List (Option Flag))
    → ((n : Codes) → AreCodes zeta n → codes_from zeta (i + 1) n flags ≡ Ok d → AreCodes zeta d)
    → flag_of word ≡ o → AreCodes zeta c → codes_from zeta i c (o ∷ flags) ≡ Ok d → AreCodes zeta d
one_keeps zeta i c d word None flags rest is a e = absurd cc
one_keeps zeta i c d word (Some flag) flags rest is a e = rest (with_flag zeta c flag) (flag_keeps zeta c word flag is a) e

from_keeps : (zeta i : ℕ) (c d : Codes) (words : List (List ℕ)) → AreCodes zeta c → codes_from zeta i c (map flag_of words) ≡ Ok d → AreCodes zeta d
from_keeps zeta i c d [] a e = subst (AreCodes zeta) (let same : c ≡ d = cc in same) a
from_keeps zeta i c d (word ∷ words) a e = one_keeps zeta i c d word (flag_of word) (map flag_of words) (λ n. from_keeps zeta (i + 1) n d words) refl a e

pub codes_ok : (zeta : ℕ) (value : List ℕ) (c : Codes) → codes_of zeta value ≡ Ok c → AreCodes zeta c
unfolding codes_of
codes_ok zeta value c e =
    from_keeps zeta 1 (default_codes zeta) c (pieces_of value)
    (record { outdegrees = refl; references = refl; block_counts = refl; blocks = refl; residuals = eq-eqb zeta zeta refl; offsets = refl }) e

-- within the limits no key is bad
pub none_bad : (p : Parameters) → IsWithinLimits p → first_bad p ≡ None
none_bad p h = grind arith

-- what was validated key by key can be made parameters
pub never_bad : (v : Key → Option (List ℕ)) (nodes arcs window : ℕ) (chain : Option ℕ) (interval zeta : ℕ) (c : Codes) → judged_number key.Nodes MOST_PAGES (v key.Nodes) ≡ Ok nodes → judged_number key.Arcs MOST_ARCS (v key.Arcs) ≡ Ok arcs → judged_number key.WindowSize MOST_WINDOW (v key.WindowSize) ≡ Ok window → judged_chain (v key.MaxRefCount) ≡ Ok chain → judged_number key.MinIntervalLength MOST_INTERVAL (v key.MinIntervalLength) ≡ Ok interval → judged_zeta (v key.ZetaK) ≡ Ok zeta → judged_flags zeta (v key.CompressionFlags) ≡ Ok c → first_bad (record { nodes = nodes; arcs = arcs; window = window; chain = chain; interval = interval; zeta = zeta; outdegrees = c.outdegrees; references = c.references; block_counts = c.block_counts; blocks = c.blocks; residuals = c.residuals; offsets = c.offsets }) ≡ None
never_bad v nodes arcs window chain interval zeta c e1 e2 e3 e4 e5 e6 e7 =
    let fields = codes_ok zeta (unwrap_or (v key.CompressionFlags) []) c e7 in
    none_bad (record { nodes = nodes; arcs = arcs; window = window; chain = chain; interval = interval; zeta = zeta; outdegrees = c.outdegrees; references = c.references; block_counts = c.block_counts; blocks = c.blocks; residuals = c.residuals; offsets = c.offsets }) (record {
      nodes = number_ok key.Nodes MOST_PAGES (v key.Nodes) nodes e1;
      arcs = number_ok key.Arcs MOST_ARCS (v key.Arcs) arcs e2;
      window = number_ok key.WindowSize MOST_WINDOW (v key.WindowSize) window e3;
      chain = chain_ok (v key.MaxRefCount) chain e4;
      interval = number_ok key.MinIntervalLength MOST_INTERVAL (v key.MinIntervalLength) interval e5;
      some_zeta = (zeta_ok (v key.ZetaK) zeta e6).0;
      zeta = (zeta_ok (v key.ZetaK) zeta e6).1;
      outdegrees = fields.outdegrees;
      references = fields.references;
      block_counts = fields.block_counts;
      blocks = fields.blocks;
      residuals = fields.residuals;
      offsets = fields.offsets;
    })
