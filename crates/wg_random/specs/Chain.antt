-- The pages that references lead to, one from the other.
use Rattle.std.specs.Prelude.{◌≡◌, ℕ, suc, ◌+◌, ◌<◌, ◌≤◌, Bool, List, Option, Some, None, length, get_or}
use Rattle.wg_params.specs.Parameters.{Parameters}
use Rattle.wg_grammar.specs.Record.{Whole}
use Rattle.wg_stream.specs.AllRecords.{known_at}
use Rattle.wg_stream.specs.References.{StandsOn}

-- the record of page x refers to page y
pub record Link (p : Parameters) (bits : List Bool) (records : List Whole) (x y : ℕ) : Type 0 where
  pub proper : StandsOn p bits records x (Some (known_at records y).list)
  pub depth : (known_at records x).depth ≡ suc (known_at records y).depth

-- the record of page x refers to this page, or to none
abbrev pub Leads : Parameters → List Bool → List Whole → ℕ → Option ℕ → Type 0
Leads p bits records x (Some y) = Link p bits records x y
Leads p bits records x None = StandsOn p bits records x None × ((known_at records x).depth ≡ 0)

-- the numbers of the chain up to this index are pages
abbrev pub ArePages : ℕ → List ℕ → ℕ → Type 0
ArePages nodes chain depth = (i : ℕ) → i ≤ depth → i < length chain → get_or chain i 0 < nodes

-- From page x the references have been followed over depth pages, to this page. The chain keeps as many of them as it
-- has room for.
pub record Going (p : Parameters) (bits : List Bool) (records : List Whole) (chain : List ℕ) (x page depth : ℕ)
    : Type 0 where
  pub first : get_or chain 0 0 ≡ x
  pub links : (i : ℕ) → i < depth → suc i < length chain
      → Link p bits records (get_or chain i 0) (get_or chain (suc i) 0)
  pub here : depth < length chain → get_or chain depth 0 ≡ page
  pub deep : (known_at records x).depth ≡ depth + (known_at records page).depth

-- They end after depth pages.
pub record Ended (p : Parameters) (bits : List Bool) (records : List Whole) (chain : List ℕ) (x depth : ℕ)
    : Type 0 where
  pub first : get_or chain 0 0 ≡ x
  pub links : (i : ℕ) → i < depth → suc i < length chain
      → Link p bits records (get_or chain i 0) (get_or chain (suc i) 0)
  pub bottom : depth < length chain → StandsOn p bits records (get_or chain depth 0) None
  pub deep : (known_at records x).depth ≡ depth

-- each page of a chain comes before the one that refers to it
abbrev pub Fall : List ℕ → Type 0
Fall chain = (i : ℕ) → suc i < length chain → get_or chain (suc i) 0 < get_or chain i 0
