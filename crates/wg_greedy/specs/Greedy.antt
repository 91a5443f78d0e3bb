-- Which records are written: for each page in its turn the shortest.
use Rattle.std.specs.Prelude.{ℕ, ◌+◌, min, Bool, not, ◌&&◌, ◌||◌, ◌==◌, nat_lt, nat_le, List, [], ◌∷◌, length, take, find, unwrap_or}
use Rattle.std.specs.List.{list_all, sum_by}
use Rattle.wg_graph.specs.Numbers.{numbers_where}
use Rattle.wg_params.specs.Parameters.{Parameters}
use Rattle.wg_grammar.specs.Context.{Known, Context, referenced, depth_of}
use Rattle.wg_grammar.specs.Refusal.{passes}
use Rattle.wg_greedy.specs.Fields.{Written, bits_of_fields, all_have_words, record_fields}

-- the page after those behind, the nearest of which comes first; a reference reaches as far back as the window
abbrev pub context_after : Parameters → List Known → Context
context_after p behind =
    record { page = length behind; arcs_before = sum_by (λ k. length k.list) behind; behind = take p.window behind }

-- the record of a list by the reference r
abbrev pub canonical : Parameters → Context → List ℕ → ℕ → List Written
canonical p c list r = record_fields p c.page r (referenced c.behind r) list

-- how many bits it has
abbrev pub size_of : Parameters → Context → List ℕ → ℕ → ℕ
size_of p c list r = length (bits_of_fields (canonical p c list r))

-- No reference is always a candidate. A reference within the window is one if the page that it names has
-- successors, the chain of references gets no longer than the archive allows, and each value of the record has a word.
abbrev pub is_candidate : Parameters → Context → List ℕ → ℕ → Bool
is_candidate p c list r =
    r == 0 || (nat_le r (min p.window c.page) && nat_lt 0 (length (referenced c.behind r)) && not
    (passes p.chain (depth_of c.behind r)) && all_have_words (canonical p c list r))

-- all candidates, ascending
abbrev pub candidates : Parameters → Context → List ℕ → List ℕ
candidates p c list = numbers_where (is_candidate p c list) 0 (min p.window c.page + 1)

-- The reference that is written: the first candidate whose record is not longer than that of any other.
unfoldable pub chosen : Parameters → Context → List ℕ → ℕ
chosen p c list = unwrap_or
    (find (λ r. list_all (λ s. nat_le (size_of p c list r) (size_of p c list s)) (candidates p c list))
    (candidates p c list)) 0

-- what is known of a page once it is written
abbrev pub known_of : Parameters → Context → List ℕ → Known
known_of p c list = record { list = list; depth = depth_of c.behind (chosen p c list) }

-- what is behind once these lists are written
abbrev pub known_after : Parameters → List Known → List (List ℕ) → List Known
known_after p behind [] = behind
known_after p behind (list ∷ lists) = known_after p (known_of p (context_after p behind) list ∷ behind) lists

-- the references by which these lists are written, one after the other, if these pages are behind
abbrev pub references_of : Parameters → List Known → List (List ℕ) → List ℕ
references_of p behind [] = []
references_of p behind (list ∷ lists) =
    chosen p (context_after p behind) list ∷ references_of p (known_of p (context_after p behind) list ∷ behind) lists

-- the records of these lists, one after the other, if these pages are behind
abbrev pub records_of : Parameters → List Known → List (List ℕ) → List (List Written)
records_of p behind [] = []
records_of p behind (list ∷ lists) =
    canonical p (context_after p behind) list (chosen p (context_after p behind) list) ∷ records_of p
    (known_of p (context_after p behind) list ∷ behind) lists
