-- The page that a record refers to, as it is handed in.
use Rattle.std.specs.Prelude.{◌↔◌, ℕ, ◌<◌, Bool, List, [], Option, Some, None, IsSome}
use Rattle.wg_params.specs.Parameters.{Parameters}
use Rattle.wg_grammar.specs.Context.{Known, no_page}
use Rattle.wg_decoder.specs.declared.handed.Known.{Known as Lent}
use Rattle.wg_decoder.specs.Answer.{context_at}
use Rattle.wg_decoder.specs.Apart.{HeadStands}
use Rattle.wg_decoder.specs.Chains.{endless}

-- a page with this list and depth
abbrev pub page_of : List ℕ → ℕ → Known
page_of list depth = record { list = list; depth = depth }

-- a page without successors if none is handed in
abbrev pub handed : Option Lent → Known
handed None = no_page
handed (Some k) = page_of k.list.now k.depth

-- the head of the record at the bit is right, and refers to a page exactly if one is handed in
abbrev pub FitsHead : Parameters → ℕ → ℕ → List Bool → ℕ → Option Lent → Type 0
FitsHead p page arcs_before bits at known = (d : ℕ) × (r : ℕ) × (end : ℕ)
    × HeadStands (endless p) (context_at page arcs_before []) bits at d r end × (IsSome known ↔ 0 < r)
