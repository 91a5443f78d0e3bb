-- What has been read of a record, each number as it is meant and not as it is stored.
use Rattle.std.specs.Prelude.{ℕ, ◌+◌, ◌-◌, Bool, true, false, ◌==◌, if◌then◌else◌, List, [], ◌∷◌, ◌++◌, length}
use Rattle.std.specs.Prelude.{get_or, sum, Option, Some, None, unwrap_or}
use Rattle.wg_codes.specs.Fold.{number_of_gap}
use Rattle.wg_graph.specs.Copied.{block_at, copied_members}
use Rattle.wg_params.specs.Parameters.{Parameters}
use Rattle.wg_grammar.specs.declared.fault.Field.{Field}
use Rattle.wg_grammar.specs.declared.fault.Field.TheVariants as field
use Rattle.wg_grammar.specs.Context.{Context, referenced}

pub record SoFar : Type 0 where
  pub outdegree : Option ℕ
  pub reference : Option ℕ
  pub block_count : Option ℕ
  pub blocks : List ℕ
  pub checked : Bool
  pub interval_count : Option ℕ
  pub lefts : List ℕ
  pub lengths : List ℕ
  pub residuals : List ℕ

abbrev pub nothing_yet : SoFar
nothing_yet = record {
  outdegree = None;
  reference = None;
  block_count = None;
  blocks = [];
  checked = false;
  interval_count = None;
  lefts = [];
  lengths = [];
  residuals = [];
}

abbrev pub value_or_0 : Option ℕ → ℕ
value_or_0 o = unwrap_or o 0

abbrev pub last_of : List ℕ → ℕ
last_of xs = get_or xs (length xs - 1) 0

-- the list that the record refers to, empty without a reference
abbrev pub source : Context → SoFar → List ℕ
source c s = referenced c.behind (value_or_0 s.reference)

-- the members that the blocks copy
abbrev pub copied : Context → SoFar → List ℕ
copied c s = copied_members s.blocks (source c s)

-- how many successors are not copied
abbrev pub extra : Context → SoFar → ℕ
extra c s = value_or_0 s.outdegree - length (copied c s)

-- how many of these are missing still
abbrev pub missing : Context → SoFar → ℕ
missing c s = extra c s - (sum s.lengths + length s.residuals)

-- A stored value's own: the first block is stored as it is, later ones less 1.
abbrev pub own_block : SoFar → ℕ → ℕ
own_block s v = block_at (length s.blocks) v

-- The first of several numbers is stored as the fold of its distance from the page, a later one as its distance from
-- what comes before it, less 1; none if the number would be below 0.
abbrev pub own_number : ℕ → ℕ → ℕ → ℕ → Option ℕ
own_number page count before v = if count == 0 then number_of_gap page None v else number_of_gap page (Some before) v

-- a left end after the end of the interval before, which is one past its last number
abbrev pub own_left : Context → SoFar → ℕ → Option ℕ
own_left c s v = own_number c.page (length s.lefts) (last_of s.lefts + last_of s.lengths) v

-- a residual after the one before it
abbrev pub own_residual : Context → SoFar → ℕ → Option ℕ
own_residual c s v = own_number c.page (length s.residuals) (last_of s.residuals) v

-- what has been read after one more stored value
unfoldable pub after : Parameters → Context → SoFar → Field → ℕ → SoFar
after p c s field.Outdegree v = record s { outdegree = Some v }
after p c s field.Reference v = record s { reference = Some v }
after p c s field.BlockCount v = record s { block_count = Some v }
after p c s field.Block v = record s { blocks = s.blocks ++ own_block s v ∷ [] }
after p c s field.Copied v = record s { checked = true }
after p c s field.IntervalCount v = record s { interval_count = Some v }
after p c s field.Left v = record s { lefts = s.lefts ++ value_or_0 (own_left c s v) ∷ [] }
after p c s field.Length v = record s { lengths = s.lengths ++ (v + p.interval) ∷ [] }
after p c s field.Residual v = record s { residuals = s.residuals ++ value_or_0 (own_residual c s v) ∷ [] }
after p c s field.Record v = s
