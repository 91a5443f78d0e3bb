-- Lists of an archive in arrays.
use Rattle.std.specs.Prelude.{◌≡◌, ℕ, ◌+◌, ◌<◌, Bool, List, length, Ok}
use Rattle.std.proofs.Common.{subst}
use Rattle.wg_params.specs.Parameters.{Parameters}
use Rattle.wg_grammar.specs.Context.{Known}
use Rattle.wg_grammar.specs.Archive.{ReadsGraph}
use Rattle.wg_graph.specs.Pieces.{pieces, EndsAt}
use Rattle.wg_decoder.specs.Chains.{start_of, SpotReads}

-- the record of a page would end before it begins
abbrev pub Falls : List ℕ → ℕ → Type 0
Falls places page = (page + 1 < length places) × (start_of places (page + 1) < start_of places page)

pub still_falls : (here there : List ℕ) (page : ℕ) → there ≡ here → Falls there page → Falls here page
still_falls here there page same h = subst (λ (l : List ℕ). Falls l page) same h

-- the page has this list, by its chain of references alone
abbrev pub HasList : Parameters → List Bool → List ℕ → ℕ → List ℕ → Type 0
HasList p bits places page list = (k : Known) × SpotReads p bits places page (Ok k) × (list ≡ k.list)

-- These are the lists of the graph that the bits stand for, one after the other, each up to its end.
pub record AreLists (p : Parameters) (bits : List Bool) (ends all : List ℕ) : Type 0 where
  pub whole : EndsAt 0 ends (length all)
  pub places : List ℕ
  pub reads : ReadsGraph p bits (Ok (record { graph = pieces 0 ends all; places = places }))
