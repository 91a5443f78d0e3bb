-- A proper record at a position, validated against the list of the page that it refers to.
pub mod Disjoint
pub mod Near
pub mod Remaining
pub mod Laid
pub mod Headed
pub mod Joining
use Rattle.std.specs.Prelude.{◌≡◌, ℕ, nat_lt, List, [], length, replicate, Option, Some, None, is_some}
use Rattle.wg_bits.specs.Bits.{Position}
use Rattle.wg_params.specs.Parameters.{Parameters}
use Rattle.wg_grammar.specs.declared.need.Need.TheVariants as need
use Rattle.wg_grammar.specs.Context.{Known, Context}
use Rattle.wg_grammar.specs.SoFar.{SoFar, nothing_yet, value_or_0}
use Rattle.wg_grammar.specs.Next.{next}
use Rattle.wg_grammar.specs.Members.{list_of}
use Rattle.wg_grammar.specs.Record.{Fields}

-- the limits on chains of references and on all arcs are left aside
abbrev pub unlimited : Parameters → Parameters
unlimited p = record p { chain = None; arcs = p.nodes }

-- the pages before it: each reference names the page below, if there is one
abbrev pub behind_of : Parameters → Option (List ℕ) → List Known
behind_of p None = []
behind_of p (Some list) = replicate p.window (record { list = list; depth = 0 })

abbrev pub context_on : Parameters → ℕ → Option (List ℕ) → Context
context_on p page below = record { page = page; arcs_before = 0; behind = behind_of p below }

-- At the position stands a proper record of the page with this list. It has a reference exactly if there is a list
-- below, to which it refers.
pub record IsRecord (p : Parameters) (page : ℕ) (below : Option (List ℕ)) (position : Position) (list : List ℕ)
    : Type 0 where
  pub stored : List ℕ
  pub whole : SoFar
  pub end : ℕ
  pub fields : Fields (unlimited p) (context_on p page below) position.bits nothing_yet position.at stored whole end
  pub ends : next (unlimited p) (context_on p page below) whole ≡ need.End
  pub list_is : list ≡ list_of (unlimited p) (context_on p page below) whole
  pub outdegree : length list ≡ value_or_0 whole.outdegree
  pub refers : nat_lt 0 (value_or_0 whole.reference) ≡ is_some below
