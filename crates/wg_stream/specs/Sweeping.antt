-- The lists of an archive that are decoded in order, page after page.
use Rattle.std.specs.Prelude.{◌≡◌, ◌⊎◌, ℕ, ◌+◌, ◌-◌, ◌<◌, ◌≤◌, min, max, Bool, List, [], ◌∷◌, length, get_or, map, All, Ok}
use Rattle.wg_outside.specs.declared.limits.TheConstants.{MOST_BYTES}
use Rattle.wg_params.specs.Parameters.{Parameters, IsWithinLimits}
use Rattle.wg_bits.specs.Bits.{bits_of}
use Rattle.wg_graph.specs.Digraph.{IsGraph}
use Rattle.wg_graph.specs.Filled.{Filled}
use Rattle.wg_grammar.specs.Record.{Whole}
use Rattle.wg_grammar.specs.Archive.{ReadsGraph}
use Rattle.wg_stream.specs.AllRecords.{AllRecords, known_at, offset_at}

-- the bits stand for this graph
pub record StandFor (p : Parameters) (bits : List Bool) (graph : List (List ℕ)) : Type 0 where
  pub limits : IsWithinLimits p
  pub places : List ℕ
  pub reads : ReadsGraph p bits (Ok (record { graph = graph; places = places }))

-- the length of the longest of these lists, 0 if there is none
abbrev pub greatest_outdegree : List (List ℕ) → ℕ
greatest_outdegree [] = 0
greatest_outdegree (list ∷ lists) = max (length list) (greatest_outdegree lists)

-- What a pass over all records finds: the bits stand for a graph whose records have these offsets, and this is its
-- greatest outdegree.
abbrev pub PassFinds : Parameters → List Bool → List ℕ → ℕ → Type 0
PassFinds p bits offsets greatest =
    (graph : List (List ℕ)) × ReadsGraph p bits (Ok (record { graph = graph; places = offsets }))
    × (greatest ≡ greatest_outdegree graph)

-- they stand for a graph; there is one at most
abbrev pub HaveGraph : Parameters → List Bool → Type 0
HaveGraph p bits = (graph : List (List ℕ)) × ∥ StandFor p bits graph ∥₁

abbrev pub no_row : Filled
no_row = record { list = []; waiting = []; room = 0 }

-- Of n rows in a circle, going back so many from the one comes to the other.
abbrev pub IsBack : ℕ → ℕ → ℕ → ℕ → Type 0
IsBack n from back row = (row + back ≡ from) ⊎ (row + back ≡ from + n)

-- The rows have the lists of the pages before this one, of as many as there are rows. They are filled in turn: so many
-- pages before this one is so many rows back from the one whose turn comes next.
abbrev pub AreKept : List Whole → ℕ → List Filled → ℕ → Type 0
AreKept records page rows turn =
    (row back : ℕ) → row < length rows → 0 < back → back ≤ page → back ≤ length rows
    → IsBack (length rows) turn back row
    → (get_or rows row no_row).list ≡ (known_at records (page - back)).list

-- The sweep stands before this page, whose record begins at the bit at. One row has the list of the page before it, and
-- the rows that are kept have those of the pages before that one.
pub record Sweeping (p : Parameters) (bytes : List ℕ) (graph : List (List ℕ)) (page at : ℕ) (kept : List Filled)
    (turn : ℕ) (list : Filled) : Type 0 where
  pub short : length bytes ≤ MOST_BYTES
  pub reading : AllRecords p (bits_of bytes)
  pub graph_is : graph ≡ map (λ w. w.known.list) reading.records
  pub proper : IsGraph (record { nodes = p.nodes; lists = graph })
  pub few : page ≤ p.nodes
  pub begins : at ≡ offset_at reading.records page
  pub count : length kept ≡ min p.window p.nodes
  pub room : All (λ s. length s ≤ list.room) graph
  pub rooms : All (λ r. r.room ≡ list.room) kept
  pub last : 0 < page → list.list ≡ (known_at reading.records (page - 1)).list
  pub turns : 0 < length kept → turn < length kept
  pub before : AreKept reading.records (page - 1) kept turn

-- What the record of the page is decoded from: it begins at the bit at, and the rows have the lists that it may refer
-- to.
pub record IsNext (p : Parameters) (bits : List Bool) (r : AllRecords p bits) (page at : ℕ) (kept : List Filled)
    (turn : ℕ) : Type 0 where
  pub begins : at ≡ offset_at r.records page
  pub enough : min p.window p.nodes ≤ length kept
  pub before : AreKept r.records page kept turn
