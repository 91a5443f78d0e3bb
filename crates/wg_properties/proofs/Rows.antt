-- Worked texts against the definitions.
use Rattle.std.proofs.Common.{◌≡◌, ℕ, ◌∷◌, ◌++◌, List, [], Some, None, Ok, Err, refl, codes}
use Rattle.std.specs.Fmt.{digits}
use Rattle.wg_num.specs.Decimal.{number_of}
use Rattle.wg_params.specs.Parameters.{Parameters}
use Rattle.wg_params.specs.declared.code.Code.TheVariants.{Unary, Gamma, Delta, Zeta, Nibble}
use Rattle.wg_params.specs.declared.key.Key.TheVariants as key
use Rattle.wg_properties.specs.Flags.{flag_of, codes_of}
use Rattle.wg_properties.specs.Judged.{judged, properties_of}
use Rattle.wg_properties.specs.Text.{flags_text}
use Rattle.wg_num.specs.Lines.{lines_of, without_blanks_before, without_blanks_after}
use Rattle.wg_properties.specs.Pairs.{is_continued, key_in, value_in}
use Rattle.wg_properties.specs.Words.{name_of, front_of, end_of, class_name, long_class_name}
use Rattle.wg_properties.specs.declared.fault.PropFault.TheVariants as fault

-- a line and the lines after it
abbrev line : List ℕ → List ℕ → List ℕ
line text more = text ++ (10 ∷ more)

abbrev written : List ℕ
written =
    line (codes "#BVGraph properties") (line (codes "version=0") (line (codes "nodes=3") (line (codes "arcs=4") (line (codes "windowsize=7")
    (line (codes "maxrefcount=3") (line (codes "minintervallength=4") (line (codes "zetak=3") (line (codes "compressionflags=")
    (line (codes "graphclass=it.unimi.dsi.webgraph.BVGraph") [])))))))))

abbrev three : Parameters
three = record { nodes = 3; arcs = 4; window = 7; chain = Some 3; interval = 4; zeta = 3; outdegrees = Gamma; references = Unary; block_counts = Gamma; blocks = Gamma; residuals = Zeta 3; offsets = Gamma }

-- the text that is written of a graph with three pages
as_written : properties_of written ≡ Ok three
unfolding properties_of judged codes_of flag_of lines_of without_blanks_before without_blanks_after is_continued key_in value_in name_of front_of end_of class_name long_class_name number_of digits
as_written = refl

-- an empty text lacks the first key
nothing : properties_of [] ≡ Err (fault.Missing key.GraphClass)
unfolding properties_of judged codes_of flag_of lines_of without_blanks_before without_blanks_after is_continued key_in value_in name_of front_of end_of class_name long_class_name number_of digits
nothing = refl

-- the last line needs no LF; of two lines with one key the later holds, and unknown keys and comments mean nothing
last_line : properties_of (line (codes "nodes=x") (line (codes "! nodes=9") (written ++ codes "other : 1"))) ≡ Ok three
unfolding properties_of judged codes_of flag_of lines_of without_blanks_before without_blanks_after is_continued key_in value_in name_of front_of end_of class_name long_class_name number_of digits
last_line = refl

-- blanks and `:` may part key and value, and the long name of the class is accepted
spelled : properties_of (written ++ line (codes "  nodes :  3  ") (line (codes "arcs 4") (codes "graphclass=class it.unimi.dsi.webgraph.BVGraph" ++ (13 ∷ [])))) ≡ Ok three
unfolding properties_of judged codes_of flag_of lines_of without_blanks_before without_blanks_after is_continued key_in value_in name_of front_of end_of class_name long_class_name number_of digits
spelled = refl

-- a line that goes on in the next comes before all else, but a comment does not go on, nor does a line with a blank at
-- its end
goes_on : properties_of (line (codes "#" ++ (92 ∷ [])) (line (codes "a=" ++ (92 ∷ 32 ∷ [])) (codes "nodes=" ++ (92 ∷ [])))) ≡ Err (fault.Line 3)
unfolding properties_of judged codes_of flag_of lines_of without_blanks_before without_blanks_after is_continued key_in value_in name_of front_of end_of class_name long_class_name number_of digits
goes_on = refl

-- the class
other_class : properties_of (written ++ codes "graphclass=BVGraph") ≡ Err fault.Class
unfolding properties_of judged codes_of flag_of lines_of without_blanks_before without_blanks_after is_continued key_in value_in name_of front_of end_of class_name long_class_name number_of digits
other_class = refl

-- the version, which is validated after the class and before the rest
other_version : properties_of (written ++ line (codes "version=1") (codes "nodes=x")) ≡ Err fault.Version
unfolding properties_of judged codes_of flag_of lines_of without_blanks_before without_blanks_after is_continued key_in value_in name_of front_of end_of class_name long_class_name number_of digits
other_version = refl

-- the order of the bytes
other_order : properties_of (written ++ codes "endianness=little") ≡ Err fault.Endian
unfolding properties_of judged codes_of flag_of lines_of without_blanks_before without_blanks_after is_continued key_in value_in name_of front_of end_of class_name long_class_name number_of digits
other_order = refl

-- one separator parts key and value, a second belongs to the value
two_separators : properties_of (written ++ codes "nodes==3") ≡ Err (fault.Number key.Nodes)
unfolding properties_of judged codes_of flag_of lines_of without_blanks_before without_blanks_after is_continued key_in value_in name_of front_of end_of class_name long_class_name number_of digits
two_separators = refl

-- a key with an empty value is present
no_value : properties_of (written ++ codes "arcs") ≡ Err (fault.Number key.Arcs)
unfolding properties_of judged codes_of flag_of lines_of without_blanks_before without_blanks_after is_continued key_in value_in name_of front_of end_of class_name long_class_name number_of digits
no_value = refl

-- the greatest number of pages
most_pages : properties_of (written ++ codes "nodes=68719476735") ≡ Ok (record three { nodes = 68719476735 })
unfolding properties_of judged codes_of flag_of lines_of without_blanks_before without_blanks_after is_continued key_in value_in name_of front_of end_of class_name long_class_name number_of digits
most_pages = refl

-- one page more
too_many_pages : properties_of (written ++ codes "nodes=68719476736") ≡ Err (fault.Range key.Nodes)
unfolding properties_of judged codes_of flag_of lines_of without_blanks_before without_blanks_after is_continued key_in value_in name_of front_of end_of class_name long_class_name number_of digits
too_many_pages = refl

-- a number of 2^64 and more is no number
past_all_numbers : properties_of (written ++ codes "nodes=18446744073709551616") ≡ Err (fault.Number key.Nodes)
unfolding properties_of judged codes_of flag_of lines_of without_blanks_before without_blanks_after is_continued key_in value_in name_of front_of end_of class_name long_class_name number_of digits
past_all_numbers = refl

-- no limit on references
no_limit : properties_of (written ++ codes "maxrefcount=-1") ≡ Ok (record three { chain = None })
unfolding properties_of judged codes_of flag_of lines_of without_blanks_before without_blanks_after is_continued key_in value_in name_of front_of end_of class_name long_class_name number_of digits
no_limit = refl

-- k = 0 for zeta is out of its limits
no_zeta : properties_of (written ++ codes "zetak=0") ≡ Err (fault.Range key.ZetaK)
unfolding properties_of judged codes_of flag_of lines_of without_blanks_before without_blanks_after is_continued key_in value_in name_of front_of end_of class_name long_class_name number_of digits
no_zeta = refl

-- of two flags for one field the later holds, and the zeta code has the archive's own k
flags : properties_of (written ++ line (codes "compressionflags= RESIDUALS_NIBBLE | RESIDUALS_ZETA|OFFSETS_DELTA") (codes "zetak=5")) ≡ Ok (record three { zeta = 5; residuals = Zeta 5; offsets = Delta })
unfolding properties_of judged codes_of flag_of lines_of without_blanks_before without_blanks_after is_continued key_in value_in name_of front_of end_of class_name long_class_name number_of digits
flags = refl

-- the first unknown flag
unknown_flag : properties_of (written ++ codes "compressionflags=OUTDEGREES_DELTA | X | Y") ≡ Err (fault.Flag 2)
unfolding properties_of judged codes_of flag_of lines_of without_blanks_before without_blanks_after is_continued key_in value_in name_of front_of end_of class_name long_class_name number_of digits
unknown_flag = refl

-- a bar alone has an empty flag on each side
empty_flag : properties_of (written ++ codes "compressionflags=|") ≡ Err (fault.Flag 1)
unfolding properties_of judged codes_of flag_of lines_of without_blanks_before without_blanks_after is_continued key_in value_in name_of front_of end_of class_name long_class_name number_of digits
empty_flag = refl

-- every field in another code than by default
other_codes : properties_of (written ++ codes "compressionflags=OUTDEGREES_DELTA|BLOCKS_DELTA|REFERENCES_GAMMA|BLOCK_COUNT_DELTA|RESIDUALS_NIBBLE|OFFSETS_DELTA") ≡ Ok (record three { outdegrees = Delta; references = Gamma; block_counts = Delta; blocks = Delta; residuals = Nibble; offsets = Delta })
unfolding properties_of judged codes_of flag_of lines_of without_blanks_before without_blanks_after is_continued key_in value_in name_of front_of end_of class_name long_class_name number_of digits
other_codes = refl

-- the words that are written of such codes, in their order, and none of the defaults
written_words : flags_text (record three { outdegrees = Delta; references = Gamma; block_counts = Unary; blocks = Delta; residuals = Nibble; offsets = Delta })
    ≡ codes "OUTDEGREES_DELTA | BLOCKS_DELTA | REFERENCES_GAMMA | BLOCK_COUNT_UNARY | RESIDUALS_NIBBLE | OFFSETS_DELTA"
unfolding front_of end_of
written_words = refl

no_words : flags_text three ≡ []
unfolding front_of end_of
no_words = refl
