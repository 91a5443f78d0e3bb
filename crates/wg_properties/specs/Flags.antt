-- The compression flags: which code each field is in.
use Rattle.std.specs.Prelude.{ℕ, ◌+◌, ◌==◌, List, [], ◌∷◌, map, find, Option, Some, None, Result, Ok, Err}
use Rattle.std.specs.List.{slice_split}
use Rattle.std.specs.Str.{bytes_eq}
use Rattle.wg_params.specs.declared.code.Code.{Code}
use Rattle.wg_params.specs.declared.code.Code.TheVariants.{Unary, Gamma, Delta, Zeta, Nibble}
use Rattle.wg_properties.specs.declared.fault.PropFault.{PropFault}
use Rattle.wg_properties.specs.declared.fault.PropFault.TheVariants as fault
use Rattle.wg_params.specs.declared.layout.Codes.{Codes}
use Rattle.wg_params.specs.Parameters.{default_codes}
use Rattle.wg_properties.specs.declared.flags.Field.{Field}
use Rattle.wg_properties.specs.declared.flags.Field.TheVariants.{Outdegrees, Blocks, References, BlockCounts, Residuals, Offsets}
use Rattle.wg_properties.specs.declared.flags.Form.{Form}
use Rattle.wg_properties.specs.declared.flags.Form.TheVariants as form
use Rattle.wg_properties.specs.declared.flags.TheConstants.{FLAGS}
use Rattle.wg_num.specs.Lines.{without_blanks_before, without_blanks_after}
use Rattle.wg_properties.specs.Words.{Flag, word_of}

-- the code of a form, with this parameter k of zeta
abbrev pub code_of : ℕ → Form → Code
code_of zeta form.Unary = Unary
code_of zeta form.Gamma = Gamma
code_of zeta form.Delta = Delta
code_of zeta form.Zeta = Zeta zeta
code_of zeta form.Nibble = Nibble

-- the codes after that of one field is changed
abbrev pub with_code : Codes → Field → Code → Codes
with_code c Outdegrees code = record c { outdegrees = code }
with_code c Blocks code = record c { blocks = code }
with_code c References code = record c { references = code }
with_code c BlockCounts code = record c { block_counts = code }
with_code c Residuals code = record c { residuals = code }
with_code c Offsets code = record c { offsets = code }

-- the codes after one more flag
abbrev pub with_flag : ℕ → Codes → Flag → Codes
with_flag zeta c flag = with_code c flag.0 (code_of zeta flag.1)

-- the flag that a word names
unfoldable pub flag_of : List ℕ → Option Flag
flag_of word = find (λ flag. bytes_eq word (word_of flag)) FLAGS

-- flags, the first of which is the i-th: of two for one field the later holds, and the first unknown one is a fault
abbrev pub codes_from : ℕ → ℕ → Codes → List (Option Flag) → Result Codes PropFault
codes_from zeta i c [] = Ok c
codes_from zeta i c (None ∷ flags) = Err (fault.Flag i)
codes_from zeta i c (Some flag ∷ flags) = codes_from zeta (i + 1) (with_flag zeta c flag) flags

-- the pieces of a value: cut at each bar (124), without the blanks around them; an empty value has none
abbrev pub pieces_of : List ℕ → List (List ℕ)
pieces_of [] = []
pieces_of (b ∷ bs) = map (λ piece. without_blanks_before (without_blanks_after piece))
    (slice_split (λ c. c == 124) (b ∷ bs))

unfoldable pub codes_of : ℕ → List ℕ → Result Codes PropFault
codes_of zeta value = codes_from zeta 1 (default_codes zeta) (map flag_of (pieces_of value))
