-- The records of a graph stand one after the other in its bits.
use Rattle.std.proofs.Common.{◌≡◌, ℕ, ◌+◌, ◌≤◌, Bool, List, [], ◌∷◌, ◌++◌, length, length-append, map, take, reverse, Ok, refl, sym, ap, subst, ◌∙◌, inl, inr, arith}
use Rattle.std.specs.Prelude.{All}
use Rattle.std.specs.List.{sum_by}
use Rattle.std.proofs.lemmas.Bool.{cases_lt}
use Rattle.std.proofs.lemmas.List.{append_assoc, append-nil, length-map, reverse-append}
use Rattle.std.proofs.lemmas.List.Elements.{All-cons, All-take}
use Rattle.std.proofs.lemmas.List.Sums.{sum_by-cons}
use Rattle.wg_params.specs.Parameters.{Parameters, IsWithinLimits}
use Rattle.wg_graph.specs.Copied.{ends_of}
use Rattle.wg_grammar.specs.Context.{Known, Context, depth_of}
use Rattle.wg_grammar.specs.Record.{Whole, ReadsRecord}
use Rattle.wg_grammar.specs.Archive.{arcs_read, context_of, Pages, lists_of, places_of}
use Rattle.wg_greedy.specs.Fields.{bits_of_fields, reference_of, record_fields}
use Rattle.wg_greedy.specs.Greedy.{canonical, size_of, chosen, known_of, context_after, records_of}
use Rattle.wg_greedy.specs.Laws.{IsList, CanonicalIsProper}
use Rattle.wg_greedy.proofs.Least.{chosen_candidate, chosen_shortest}
use Rattle.wg_greedy.proofs.Totals.{AreLists, numbers_in, bits_after}

-- ---- what is known of records that were read

abbrev pub knowns : List Whole → List Known
knowns behind = map (λ w. w.known) behind

arcs_known : (behind : List Whole) → sum_by (λ k. length k.list) (knowns behind) ≡ arcs_read behind
arcs_known [] = refl
arcs_known (w ∷ ws) = omega (arith, sum_by-cons (λ (k : Known). length k.list) w.known (knowns ws), sum_by-cons (λ (v : Whole). length v.known.list) w ws, arcs_known ws)

module _ (p : Parameters) where
  same_context : (behind : List Whole) → context_after p (knowns behind) ≡ context_of p behind
  same_context behind =
      λ i. record { page = length-map behind (λ (w : Whole). w.known) i; arcs_before = arcs_known behind i; behind = take p.window (knowns behind) }

  -- ---- the reference that is written

  -- the record of an empty list is the same by each reference, so none is written
  same_size : (c : Context) (r : ℕ) → size_of p c [] r ≡ size_of p c [] 0
  unfolding record_fields
  same_size c r = refl

  has_reference : (c : Context) (list : List ℕ) → reference_of list (chosen p c list) ≡ chosen p c list
  has_reference c [] =
      let r : ℕ = chosen p c [] in
      elim (cases_lt 0 r) [
        | inl some ↦ let less = (chosen_shortest p c [] 0 refl).1 some in absurd (omega (arith, less, same_size c r))
        | inr none ↦ omega (arith, none)
      ]
  has_reference c (y ∷ ys) = refl

-- ---- the records that come

-- the record of a list that comes next, if it begins at the bit at
abbrev pub next_whole : Parameters → List Known → ℕ → List ℕ → Whole
next_whole p behind at list = record {
  known = known_of p (context_after p behind) list;
  end = at + size_of p (context_after p behind) list (chosen p (context_after p behind) list);
}

-- the records of these lists
abbrev pub wholes : Parameters → List Known → ℕ → List (List ℕ) → List Whole
wholes p behind at [] = []
wholes p behind at (list ∷ lists) =
    next_whole p behind at list ∷ wholes p (known_of p (context_after p behind) list ∷ behind) (next_whole p behind at list).end lists

-- what is behind once they are read
abbrev pub passed : List Whole → List Whole → List Whole
passed behind [] = behind
passed behind (w ∷ ws) = passed (w ∷ behind) ws

-- The canonical records of the lists to come stand at the bit at.
pub records_stand : CanonicalIsProper → (p : Parameters) → IsWithinLimits p → (behind : List Whole) (lists : List (List ℕ)) (bits before rest : List Bool) (at : ℕ)
    → AreLists p lists → All (λ (k : Known). IsList p k.list) (knowns behind)
    → length behind + length lists ≤ p.nodes → arcs_read behind + numbers_in lists ≤ p.arcs → bits ≡ before ++ (bits_after p (knowns behind) lists ++ rest) → at ≡ length before
    → Pages p bits behind at (wholes p (knowns behind) at lists) (passed behind (wholes p (knowns behind) at lists)) (at + length (bits_after p (knowns behind) lists))
records_stand proper p within behind [] bits before rest at are known nodes arcs is start = (refl, omega arith)
records_stand proper p within behind (list ∷ lists) bits before rest at are known nodes arcs is start =
    let here : Context = context_after p (knowns behind) in
    let r : ℕ = chosen p here list in
    let w : Whole = next_whole p (knowns behind) at list in
    let first : List Bool = bits_of_fields (canonical p here list r) in
    let more : List Bool = bits_after p (w.known ∷ knowns behind) lists in
    let size : length (bits_after p (knowns behind) (list ∷ lists)) ≡ length first + length more = length-append first more in
    let sum : numbers_in (list ∷ lists) ≡ length list + numbers_in lists = sum_by-cons (λ (l : List ℕ). length l) list lists in
    let sum' : arcs_read (w ∷ behind) ≡ length list + arcs_read behind = sum_by-cons (λ (v : Whole). length v.known.list) w behind in
    let page : length (knowns behind) ≡ length behind = length-map behind (λ (v : Whole). v.known) in
    let cut : bits ≡ before ++ (first ++ (more ++ rest)) = is ∙ ap (λ z. before ++ z) (append_assoc first more rest) in
    let later : bits ≡ (before ++ first) ++ (more ++ rest) = cut ∙ sym (append_assoc before first (more ++ rest)) in
    let stands : ReadsRecord p here (before ++ (first ++ (more ++ rest))) (length before)
    (Ok (record { known = record { list = list; depth = depth_of here.behind (reference_of list r) }; end = length before + size_of p here list r })) =
    proper p here list r before (more ++ rest) within (omega (arith, page, nodes)) (All-take (λ (k : Known). IsList p k.list) p.window (knowns behind) known) are.0
    (omega (arith, arcs_known behind, arcs, sum)) (chosen_candidate p here list) in
    let whole : record { known = record { list = list; depth = depth_of here.behind (reference_of list r) }; end = length before + size_of p here list r } ≡ w =
    λ i. record { known = record { list = list; depth = depth_of here.behind (has_reference p here list i) }; end = sym start i + size_of p here list r } in
    let reads : ReadsRecord p (context_of p behind) bits at (Ok w) =
    subst (λ (c : Context). ReadsRecord p c bits at (Ok w)) (same_context p behind)
    (subst (λ (z : List Bool). ReadsRecord p here z at (Ok w)) (sym cut)
    (subst (λ (n : ℕ). ReadsRecord p here (before ++ (first ++ (more ++ rest))) n (Ok w)) (sym start)
    (subst (λ (v : Whole). ReadsRecord p here (before ++ (first ++ (more ++ rest))) (length before) (Ok v)) whole stands))) in
    let end : w.end ≡ length (before ++ first) = omega (arith, start, length-append before first) in
    let rest_stand =
    records_stand proper p within (w ∷ behind) lists bits (before ++ first) rest w.end are.1
    (All-cons (λ (k : Known). IsList p k.list) w.known (knowns behind) are.0 known) (omega (arith, nodes)) (omega (arith, arcs, sum, sum')) later end in
    let last : w.end + length more ≡ at + length (bits_after p (knowns behind) (list ∷ lists)) = omega (arith, size) in (
      omega (arith, nodes),
      reads,
      subst (Pages p bits (w ∷ behind) w.end (wholes p (knowns (w ∷ behind)) w.end lists) (passed (w ∷ behind) (wholes p (knowns (w ∷ behind)) w.end lists))) last rest_stand,
    )

-- ---- what they are

pub wholes_lists : (p : Parameters) (behind : List Known) (at : ℕ) (lists : List (List ℕ)) → map (λ w. w.known.list) (wholes p behind at lists) ≡ lists
wholes_lists p behind at [] = refl
wholes_lists p behind at (list ∷ lists) = ap (λ ls. list ∷ ls) (wholes_lists p (known_of p (context_after p behind) list ∷ behind) (next_whole p behind at list).end lists)

pub wholes_ends : (p : Parameters) (behind : List Known) (at : ℕ) (lists : List (List ℕ))
    → map (λ w. w.end) (wholes p behind at lists) ≡ ends_of at (map length (map bits_of_fields (records_of p behind lists)))
wholes_ends p behind at [] = refl
wholes_ends p behind at (list ∷ lists) =
    ap (λ es. (next_whole p behind at list).end ∷ es) (wholes_ends p (known_of p (context_after p behind) list ∷ behind) (next_whole p behind at list).end lists)

-- the last of the records comes first
passed_all : {X : Type 0} (f : Whole → X) (behind ws : List Whole) → reverse (map f (passed behind ws)) ≡ reverse (map f behind) ++ map f ws
passed_all f behind [] = sym (append-nil (reverse (map f behind)))
passed_all f behind (w ∷ ws) =
    passed_all f (w ∷ behind) ws ∙ ap (λ xs. xs ++ map f ws) (reverse-append (f w ∷ []) (map f behind)) ∙ append_assoc (reverse (map f behind)) (f w ∷ []) (map f ws)

pub passed_lists : (ws : List Whole) → lists_of (passed [] ws) ≡ map (λ w. w.known.list) ws
passed_lists ws = passed_all (λ w. w.known.list) [] ws

pub passed_places : (ws : List Whole) → places_of (passed [] ws) ≡ 0 ∷ map (λ w. w.end) ws
passed_places ws = ap (λ es. 0 ∷ es) (passed_all (λ w. w.end) [] ws)

pub passed_many : (behind ws : List Whole) → length (passed behind ws) ≡ length behind + length ws
passed_many behind [] = omega arith
passed_many behind (w ∷ ws) = omega (arith, passed_many (w ∷ behind) ws)

pub wholes_many : (p : Parameters) (behind : List Known) (at : ℕ) (lists : List (List ℕ)) → length (wholes p behind at lists) ≡ length lists
wholes_many p behind at [] = refl
wholes_many p behind at (list ∷ lists) = omega (arith, wholes_many p (known_of p (context_after p behind) list ∷ behind) (next_whole p behind at list).end lists)

pub passed_arcs : (p : Parameters) (behind : List Whole) (known : List Known) (at : ℕ) (lists : List (List ℕ))
    → arcs_read (passed behind (wholes p known at lists)) ≡ arcs_read behind + numbers_in lists
passed_arcs p behind known at [] = omega arith
passed_arcs p behind known at (list ∷ lists) =
    let w : Whole = next_whole p known at list in
    omega (
      arith,
      passed_arcs p (w ∷ behind) (w.known ∷ known) w.end lists,
      sum_by-cons (λ (l : List ℕ). length l) list lists,
      sum_by-cons (λ (v : Whole). length v.known.list) w behind,
    )
