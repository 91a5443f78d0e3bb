-- The three fronts of a record, from which its list comes.
use Rattle.std.specs.Prelude.{◌≡◌, ℕ, Bool, List, length, Option}
use Rattle.wg_iterators.specs.declared.fields.Fronts.{Fronts}
use Rattle.wg_graph.specs.Unions.{union_of}
use Rattle.wg_iterators.specs.Fronts.{copied_of}
use Rattle.wg_decoder.specs.Proper.Disjoint.{AreApart}
use Rattle.wg_decoder.specs.Proper.Laid.{list_or_none, Laid}
use Rattle.wg_params.specs.Parameters.{Parameters}

-- These are the fronts of a record with this list, which refers to the list below: no number comes in two of them, and
-- together they are the list.
pub record AreFronts (f : Fronts) (below : Option (List ℕ)) (list : List ℕ) : Type 0 where
  pub outdegree : f.outdegree ≡ length list
  pub apart : AreApart (copied_of f.mask (list_or_none below)) f.intervals f.residuals.list
  pub union : union_of (copied_of f.mask (list_or_none below)) (union_of f.intervals f.residuals.list) ≡ list

-- A record of this page: its words, the bits at which they stand, and the list that it refers to.
pub record Standing (p : Parameters) (page : ℕ) : Type 0 where
  pub below : Option (List ℕ)
  pub bits : List Bool
  pub list : List ℕ
  pub laid : Laid p page below bits list
