-- The fields of a record that is written, each with its code and its stored value. By BVGraph's documentation they come
-- in this order: outdegree, reference, block count and blocks, interval count and each interval's left end and length,
-- residuals.
use Rattle.std.specs.Prelude.{ℕ, ◌+◌, ◌-◌, pos, ◌-ℤ◌, Bool, true, false, not, ◌&&◌, nat_lt, nat_le, if◌then◌else◌}
use Rattle.std.specs.Prelude.{List, [], ◌∷◌, ◌++◌, length, map, filter, Option, Some, None}
use Rattle.std.specs.List.{flat_map, list_all}
use Rattle.wg_params.specs.Parameters.{Parameters}
use Rattle.wg_params.specs.declared.code.Code.{Code}
use Rattle.wg_params.specs.declared.code.Code.TheVariants.{Gamma}
use Rattle.wg_codes.specs.Words.{word, top}
use Rattle.wg_codes.specs.Fold.{folded}
use Rattle.wg_graph.specs.Numbers.{is_in}
use Rattle.wg_blocks.specs.Canonical.{canonical_blocks}
use Rattle.wg_intervals.specs.Canonical.{intervals_of, residuals_of}
use Rattle.wg_intervals.specs.declared.run.Run.{Run}
use Rattle.wg_grammar.specs.declared.fault.Field.{Field}
use Rattle.wg_grammar.specs.declared.fault.Field.TheVariants as field

pub record Written : Type 0 where
  pub field : Field
  pub code : Code
  pub value : ℕ

abbrev pub written : Field → Code → ℕ → Written
written f c v = record { field = f; code = c; value = v }

-- the bits of fields: their words, one after the other
abbrev pub bits_of_fields : List Written → List Bool
bits_of_fields fields = flat_map (λ f. word f.code f.value) fields

-- whether each value has a word in its code
abbrev pub all_have_words : List Written → Bool
all_have_words fields = list_all (λ f. nat_le f.value (top f.code)) fields

-- the first block is stored as it is, later ones less 1
abbrev pub stored_blocks : List ℕ → List ℕ
stored_blocks [] = []
stored_blocks (b ∷ bs) = b ∷ map (λ n. n - 1) bs

-- A number is stored by its distance from the page, folded, if nothing comes before it; else by its distance from
-- what comes before, less 1.
abbrev pub stored_gap : ℕ → Option ℕ → ℕ → ℕ
stored_gap page None y = folded (pos y -ℤ pos page)
stored_gap page (Some before) y = y - before - 1

-- how many blocks there are, and the blocks
abbrev pub block_fields : Parameters → List ℕ → List Written
block_fields p blocks =
    written field.BlockCount p.block_counts (length blocks) ∷ map (written field.Block p.blocks)
    (stored_blocks blocks)

-- left end and length of each interval, where past is one past the last number of the interval before
abbrev pub interval_fields : ℕ → ℕ → Option ℕ → List Run → List Written
interval_fields page least past [] = []
interval_fields page least past (run ∷ runs) =
    written field.Left Gamma (stored_gap page past run.left) ∷ written field.Length Gamma (run.length - least)
    ∷ interval_fields page least (Some (run.left + run.length)) runs

-- each residual, where last is the one before
abbrev pub residual_fields : Code → ℕ → Option ℕ → List ℕ → List Written
residual_fields code page last [] = []
residual_fields code page last (y ∷ ys) =
    written field.Residual code (stored_gap page last y) ∷ residual_fields code page (Some y) ys

-- the successors that a referenced list does not have
abbrev pub extras : List ℕ → List ℕ → List ℕ
extras list referenced = filter (λ y. not (is_in y referenced)) list

-- whether there are numbers
abbrev pub has_some : List ℕ → Bool
has_some [] = false
has_some (y ∷ ys) = true

-- how many intervals there are, if something is not copied and the archive has intervals
abbrev pub count_fields : Bool → ℕ → ℕ → List Written
count_fields found least count = if found && nat_lt 0 least then written field.IntervalCount Gamma count ∷ [] else []

-- Of what is not copied: how many intervals there are; each of them; and the residuals.
abbrev pub extra_fields : Parameters → ℕ → List ℕ → List Written
extra_fields p page xs =
    (count_fields (has_some xs) p.interval (length (intervals_of p.interval xs))
    ++ interval_fields page p.interval None (intervals_of p.interval xs))
    ++ residual_fields p.residuals page None (residuals_of p.interval xs)

-- a reference, if the archive has a window
abbrev pub reference_fields : Parameters → ℕ → List Written
reference_fields p r = if nat_lt 0 p.window then written field.Reference p.references r ∷ [] else []

-- the blocks against the list that r names, if r is not 0
abbrev pub copy_fields : Parameters → ℕ → List ℕ → List ℕ → List Written
copy_fields p r referenced list = if nat_lt 0 r then block_fields p (canonical_blocks list referenced) else []

-- the reference that a record has: that of an empty list has none
abbrev pub reference_of : List ℕ → ℕ → ℕ
reference_of [] r = 0
reference_of (y ∷ ys) r = r

-- how the list of a page is written with the reference r, where this is the list that r names, empty for none
abbrev pub list_fields : Parameters → ℕ → ℕ → List ℕ → List ℕ → List Written
list_fields p page r referenced [] = []
list_fields p page r referenced (y ∷ ys) =
    (reference_fields p r ++ copy_fields p r referenced (y ∷ ys)) ++ extra_fields p page (extras (y ∷ ys) referenced)

-- the record of a page by a reference
unfoldable pub record_fields : Parameters → ℕ → ℕ → List ℕ → List ℕ → List Written
record_fields p page r referenced list =
    written field.Outdegree p.outdegrees (length list) ∷ list_fields p page r referenced list
