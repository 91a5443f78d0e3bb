-- Where an encoder stands, and which reference is the best so far.
use Rattle.std.specs.Prelude.{◌≡◌, ℕ, ◌+◌, ◌<◌, ◌≤◌, Bool, true, cond, if◌then◌else◌, List, [], ◌∷◌, length, take}
use Rattle.std.specs.Prelude.{get_or, Option, Some, None}
use Rattle.std.specs.List.{flat_map, sum_by}
use Rattle.wg_codes.specs.Words.{word}
use Rattle.wg_params.specs.Parameters.{Parameters}
use Rattle.wg_graph.specs.Digraph.{Digraph, successors}
use Rattle.wg_grammar.specs.Context.{Context}
use Rattle.wg_encoder.specs.declared.choice.Choice.{Choice}
use Rattle.wg_greedy.specs.Greedy.{known_of, known_after, size_of, is_candidate, chosen}
use Rattle.wg_greedy.specs.Archive.{graph_bits, refers, referring_pages, offset_values}

-- ---- one list after the other

-- Where the record that comes next stands; how many bits the last record has, 0 before the first, and all together; how
-- many records have a reference above 0; and the bits of the two files that wait to go out.
pub record Encoded : Type 0 where
  pub params : Parameters
  pub next : Context
  pub last : ℕ
  pub total : ℕ
  pub referring : ℕ
  pub graph_waits : List Bool
  pub offsets_waits : List Bool

-- where the record after these lists stands, if each of them is written by the reference that is chosen
abbrev pub next_context : Parameters → List (List ℕ) → Context
next_context p lists =
    record {
      page = length lists;
      arcs_before = sum_by (λ list. length list) lists;
      behind = take p.window (known_after p [] lists);
    }

-- where the record after this list stands
abbrev pub context_on : Parameters → Context → List ℕ → Context
context_on p c list =
    record {
      page = c.page + 1;
      arcs_before = c.arcs_before + length list;
      behind = take p.window (known_of p c list ∷ c.behind);
    }

-- how many bits the record of a list has by the reference that is chosen
abbrev pub chosen_size : Parameters → Context → List ℕ → ℕ
chosen_size p c list = size_of p c list (chosen p c list)

-- once a list is written, and these bits wait
abbrev pub encoded_on : Encoded → List ℕ → List Bool → List Bool → Encoded
encoded_on e list w v =
    record {
      params = e.params;
      next = context_on e.params e.next list;
      last = chosen_size e.params e.next list;
      total = e.total + chosen_size e.params e.next list;
      referring = e.referring + cond (refers (chosen e.params e.next list)) 1 0;
      graph_waits = w;
      offsets_waits = v;
    }

-- the number of the offsets file that is put with the record that comes next: 0 for page 0, else the length of the
-- record before
abbrev pub due_offset : Parameters → List (List ℕ) → ℕ
due_offset p lists = get_or (offset_values p lists) (length lists) 0

-- the words of the offsets file but this one
abbrev pub words_before : Parameters → List (List ℕ) → List Bool
words_before p lists = flat_map (word p.offsets) (take (length lists) (offset_values p lists))

-- these lists were written, in this order, each by the reference that is chosen
pub record HasWritten (e : Encoded) (lists : List (List ℕ)) : Type 0 where
  pub context : e.next ≡ next_context e.params lists
  pub is_last : e.last ≡ due_offset e.params lists
  pub is_total : e.total ≡ length (graph_bits e.params lists)
  pub is_referring : e.referring ≡ referring_pages e.params lists

-- ---- the pages of a graph

-- The page that comes next, if each page before it is written by the reference that is chosen; and the bits of the
-- two files that wait to go out.
pub record Encoding : Type 0 where
  pub params : Parameters
  pub graph : Digraph
  pub page : ℕ
  pub graph_waits : List Bool
  pub offsets_waits : List Bool

-- the lists of the pages before
abbrev pub lists_before : Encoding → List (List ℕ)
lists_before e = take e.page e.graph.lists

-- where the record of the page stands
abbrev pub context_of : Encoding → Context
context_of e = next_context e.params (lists_before e)

-- the successors of the page
abbrev pub list_of : Encoding → List ℕ
list_of e = successors e.graph e.page

-- ---- the best reference

-- how many bits the record has by a reference, if it may be written so
abbrev pub offer_of : Parameters → Context → List ℕ → ℕ → Option ℕ
offer_of p c list r = if is_candidate p c list r then Some (size_of p c list r) else None

-- this reference is the one by which the list is written, and its record has so many bits
abbrev pub IsChosen : Parameters → Context → List ℕ → Choice → Type 0
IsChosen p c list choice = (choice.reference ≡ chosen p c list) × (choice.bits ≡ size_of p c list choice.reference)

-- of the candidates below n this one has the shortest record, and is the first of these
pub record IsBest (p : Parameters) (c : Context) (list : List ℕ) (n : ℕ) (best : Choice) : Type 0 where
  pub candidate : is_candidate p c list best.reference ≡ true
  pub bits : best.bits ≡ size_of p c list best.reference
  pub among : best.reference < n
  pub shortest : (r : ℕ) → r < n → is_candidate p c list r ≡ true → best.bits ≤ size_of p c list r
  pub first : (r : ℕ) → r < best.reference → is_candidate p c list r ≡ true → best.bits < size_of p c list r
