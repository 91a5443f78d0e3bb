-- The graph of an arc list on its way into an archive, line by line.
use Rattle.std.specs.Prelude.{◌≡◌, ◌⊎◌, ℕ, ◌+◌, ◌<◌, ◌≤◌, List, [], ◌∷◌, ◌++◌, length, Option, Some, None, IfSome, Result}
use Rattle.wg_outside.specs.declared.depot.Depot as depot
use Rattle.wg_num.specs.Lines.{lines_of}
use Rattle.wg_params.specs.declared.limits.TheConstants.{MOST_ARCS}
use Rattle.wg_graph.specs.Digraph.{Digraph}
use Rattle.wg_graph.specs.Growing.{padded}
use Rattle.wg_arcs.specs.Growing.{IsFirst, SoFar}
use Rattle.wg_arcs.specs.Listing.{AreListed, arcs_on}
use Rattle.wg_arcs.specs.Growing.{ArcLinesRead}
use Rattle.wg_arcs.specs.declared.fault.ArcsError.{ArcsError}
use Rattle.wg_arcs.specs.declared.fault.ArcsError.TheVariants as error
use Rattle.wg_encoder.specs.ArchiveInMemory.{EncodedSoFar, HasEncoded}
use Rattle.wg_greedy.specs.Laws.{IsList}
use Rattle.wg_outcomes.specs.declared.ending.Ending.{Ending}
use Rattle.wg_outcomes.specs.declared.status.Status.{Status}
use Rattle.wg_outcomes.specs.declared.status.Status.TheVariants.{BadArcs, Memory}
use Rattle.wg_readings.specs.Loading.{LoadsList}

-- how a job ends at an error of an arc list
abbrev pub status_of_list : ArcsError → Status
status_of_list (error.Line line kind) = BadArcs line kind
status_of_list error.Memory = Memory

-- memory ran out, or this is the first fault of these lines
abbrev pub IsFault : ℕ → List (List ℕ) → ArcsError → Type 0
IsFault n all e = (e ≡ error.Memory) ⊎ IsFirst n all e

-- The lists of these pages are encoded; the page that comes next has this list, as far as its arcs were read.
pub record IsUnderWay (e : EncodedSoFar) (list : List ℕ) (s : ArcLinesRead) (done : List (List ℕ)) : Type 0 where
  pub encoded : HasEncoded e done
  pub listed : AreListed done list None s
  pub nodes : e.params.nodes ≡ s.nodes
  pub most : e.params.arcs ≡ MOST_ARCS

-- An encoder may be handed this list, and then empty ones up to the page of an arc, if one comes next.
pub record MayTake (e : EncodedSoFar) (list : List ℕ) (next : Option (ℕ × ℕ)) : Type 0 where
  pub page : IfSome next (λ a. (e.page < a.0) × (a.0 ≤ e.params.nodes))
  pub proper : IsList e.params list
  pub arcs : e.arcs + length list ≤ e.params.arcs

-- Some lines more were read, where those before had these arcs.
pub record GoesOn (text : List ℕ) (s : ArcLinesRead) (arcs : List (ℕ × ℕ)) (e : EncodedSoFar) (list : List ℕ)
    (t : ArcLinesRead) : Type 0 where
  pub done : List (List ℕ)
  pub way : IsUnderWay e list t done
  pub reads : (all later : List (List ℕ)) → SoFar s.nodes all (lines_of text ++ later) s.line arcs
      → SoFar s.nodes all later t.line (arcs_on done list)

-- the pages that are done once the page of an arc begins, if one comes next, and the list that is begun
abbrev pub done_at : Option (ℕ × ℕ) → List (List ℕ) → List ℕ → List (List ℕ)
done_at None done list = done
done_at (Some a) done list = padded a.0 (done ++ list ∷ [])

abbrev pub list_at : Option (ℕ × ℕ) → List ℕ → List ℕ
list_at None list = list
list_at (Some a) list = a.1 ∷ []

-- The graph of so many pages that an arc list holds was read, or the job ends at the list.
abbrev pub LoadsListBy : {D : Type 0} → depot.Ghosts D → List ℕ → ℕ → D → D → Result Digraph Ending → Type 0
LoadsListBy d name n before after result =
    LoadsList name n d.told (d.files before) (d.files after) (d.counts before) (d.counts after) result
