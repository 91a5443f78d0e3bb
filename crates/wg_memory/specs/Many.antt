-- The lists of several pages in arrays.
use Rattle.std.specs.Prelude.{◌≡◌, ℕ, ◌+◌, ◌<◌, ◌≤◌, Bool, List, [], ◌∷◌, length, take, get_or, Err}
use Rattle.wg_params.specs.Parameters.{Parameters}
use Rattle.wg_graph.specs.Pieces.{pieces, EndsAt}
use Rattle.wg_decoder.specs.Chains.{SpotReads}
use Rattle.wg_grammar.specs.declared.error.ReadError.TheVariants as errors
use Rattle.wg_memory.specs.declared.many.Stop.{Stop}
use Rattle.wg_memory.specs.declared.many.Stop.TheVariants.{NoPage, NoRoom, Unread}
use Rattle.wg_memory.specs.Answers.{Falls, HasList}

-- the lists are those of the pages, in their order
abbrev pub AreListsOf : Parameters → List Bool → List ℕ → List ℕ → List (List ℕ) → Type 0
AreListsOf p bits places pages lists =
    (i : ℕ) → i < length lists → HasList p bits places (get_or pages i 0) (get_or lists i [])

-- where the lists before the i-th end
abbrev pub end_before : List ℕ → ℕ → ℕ
end_before ends i = get_or (0 ∷ ends) i 0

-- so many ends stand in the one array, and the lists of as many pages in the other, each up to its end
pub record AreSpots (p : Parameters) (bits : List Bool) (places pages : List ℕ) (done : ℕ) (ends out : List ℕ)
    : Type 0 where
  pub used : ℕ
  pub last : end_before ends done ≡ used
  pub few : used ≤ length out
  pub long : done ≤ length ends
  pub whole : EndsAt 0 (take done ends) (length (take used out))
  pub lists : AreListsOf p bits places pages (pieces 0 (take done ends) (take used out))

-- the list of a page is longer than the room that is left
abbrev pub HasNoRoom : Parameters → List Bool → List ℕ → ℕ → ℕ → ℕ → Type 0
HasNoRoom p bits places page used room =
    (list : List ℕ) × HasList p bits places page list × (room < used + length list)

-- why a page is not read, if so much of the room is used; there may be too little memory for it at any time
abbrev pub StopsAt : Parameters → List Bool → List ℕ → ℕ → ℕ → ℕ → Stop → Type 0
StopsAt p bits places page used room NoPage = p.nodes ≤ page
StopsAt p bits places page used room NoRoom = HasNoRoom p bits places page used room
StopsAt p bits places page used room (Unread (errors.Fault f)) = SpotReads p bits places page (Err f)
StopsAt p bits places page used room (Unread errors.Memory) = Unit {0}
StopsAt p bits places page used room (Unread (errors.Refused r)) = Falls places r.page
