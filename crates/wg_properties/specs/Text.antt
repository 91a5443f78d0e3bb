-- The properties text that is written of parameters.
use Rattle.std.specs.Prelude.{ℕ, Bool, ◌&&◌, not, List, [], ◌∷◌, ◌++◌, map, filter, codes, decimal, Option, Some, None}
use Rattle.std.specs.List.{flat_map}
use Rattle.wg_params.specs.Parameters.{Parameters, layout_of, default_codes}
use Rattle.wg_params.specs.contracts.layout.CodesPartialEq.TheImpl as same
use Rattle.wg_params.specs.declared.layout.Codes.{Codes}
use Rattle.wg_params.specs.declared.key.Key.{Key}
use Rattle.wg_params.specs.declared.key.Key.TheVariants as key
use Rattle.wg_properties.specs.Flags.{with_flag}
use Rattle.wg_properties.specs.Words.{Flag, name_of, word_of, class_name}
use Rattle.wg_properties.specs.declared.flags.TheConstants.{FLAGS}

-- whether the codes are as a flag says: it changes none of them
abbrev pub holds : ℕ → Codes → Flag → Bool
holds zeta c flag = same.ghosts.eq (with_flag zeta c flag) c

-- whether a flag holds of the parameters, and not of the defaults
abbrev pub is_written : Parameters → Flag → Bool
is_written p flag = holds p.zeta (layout_of p).codes flag && not (holds p.zeta (default_codes p.zeta) flag)

-- the flags that are written
abbrev pub written_flags : Parameters → List Flag
written_flags p = filter (is_written p) FLAGS

-- words with a space, a bar (124) and a space between two
abbrev pub joined_by_bars : List (List ℕ) → List ℕ
joined_by_bars [] = []
joined_by_bars (word ∷ []) = word
joined_by_bars (word ∷ next ∷ words) = word ++ (32 ∷ 124 ∷ 32 ∷ joined_by_bars (next ∷ words))

-- the words of the flags that are written
abbrev pub flags_text : Parameters → List ℕ
flags_text p = joined_by_bars (map word_of (written_flags p))

-- `-1` is no limit
abbrev pub chain_text : Option ℕ → List ℕ
chain_text None = codes "-1"
chain_text (Some limit) = decimal limit

-- a key and its value, with `=` (61) between them
abbrev pub pair : Key → List ℕ → List ℕ
pair k value = name_of k ++ (61 ∷ value)

-- a line, ended by LF (10)
abbrev pub ended : List ℕ → List ℕ
ended line = line ++ (10 ∷ [])

-- The class comes last, so that a prefix that lacks more than the last LF lacks it.
unfoldable pub written_lines : Parameters → List (List ℕ)
written_lines p =
    codes "#BVGraph properties"
    ∷ pair key.Version (codes "0")
    ∷ pair key.Nodes (decimal p.nodes)
    ∷ pair key.Arcs (decimal p.arcs)
    ∷ pair key.WindowSize (decimal p.window)
    ∷ pair key.MaxRefCount (chain_text p.chain)
    ∷ pair key.MinIntervalLength (decimal p.interval)
    ∷ pair key.ZetaK (decimal p.zeta)
    ∷ pair key.CompressionFlags (flags_text p)
    ∷ pair key.GraphClass class_name
    ∷ []

-- the text of parameters
abbrev pub text_of : Parameters → List ℕ
text_of p = flat_map ended (written_lines p)
