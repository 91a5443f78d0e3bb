-- A text stands for a graph or has a first fault.
use Rattle.std.proofs.Common.{◌≡◌, ℕ, ◌+◌, ◌-◌, ◌⊎◌, List, [], ◌∷◌, ◌++◌, length, get_or, replicate, Option, Some, None, Result, Ok, Err, refl, sym, subst, arith, inl, inr, append-nil, length-append}
use Rattle.std.specs.Prelude.{option_to_list}
use Rattle.std.specs.List.{All, last_or}
use Rattle.std.proofs.lemmas.Bool.{cases_Bool}
use Rattle.std.proofs.lemmas.List.{get_or_past}
use Rattle.std.proofs.lemmas.List.Elements.{All-set, All-append, All-replicate}
use Rattle.wg_num.specs.Lines.{lines_of}
use Rattle.wg_num.specs.Words.{words_of}
use Rattle.wg_graph.specs.Ascending.{Ascends, Below}
use Rattle.wg_graph.specs.Digraph.{Digraph, IsGraph}
use Rattle.wg_graph.specs.Arcs.{arcs_of, arcs_from}
use Rattle.wg_graph.specs.Growing.{FollowsOn, padded, with_arc}
use Rattle.wg_graph.proofs.Arcs.{with_arc_arcs, length-arcs_from, padded_arcs_from}
use Rattle.wg_graph.proofs.Prefixes.{length-padded, length-with_arc, with_arc_here}
use Rattle.wg_graph.proofs.Sets.{ascends_push, below_push}
use Rattle.wg_arcs.specs.declared.fault.ArcsKind.{ArcsKind}
use Rattle.wg_arcs.specs.Growing.{Begins, MayCome, SoFar}
use Rattle.wg_arcs.specs.Reading.{is_skipped, arc_at, refusal_after, fault_of, IsListed}
use Rattle.wg_arcs.specs.Laws.{TextsAreSome}
use Rattle.wg_arcs.proofs.Order.{Arc, after_all}
use Rattle.wg_arcs.proofs.Soundness.{so_far_none, so_far_more, first_fault, all_read}

-- ---- lists that grow

abbrev with_lists : ℕ → List (List ℕ) → Digraph
with_lists n lists = record { nodes = n; lists = lists }

pub begins_none : (n : ℕ) → Begins n []
begins_none n = record { begun = omega arith; ascending = λ i d lt. absurd (omega arith); below = λ i d lt. absurd (omega arith); ends = λ some. absurd (omega arith) }

pub at_page : (P : List ℕ → Type 0) (lists : List (List ℕ)) (x : ℕ) → All P lists → P [] → P (get_or lists x [])
at_page P lists x all none = grind (arith, get_or_past)

-- an arc that may come next may be added
pub follows_on : (g : Digraph) (a : Arc) → Begins g.nodes g.lists → MayCome g.nodes (last_or None (arcs_of g)) (length (arcs_of g)) a → FollowsOn g a.0 a.1
follows_on g a h m =
    let next = after_all g a.0 a.1 (λ y. at_page (Ascends 0) g.lists y h.ascending tt) h.ends m.after in
    record { source = m.source; target = m.target; not_past = next.not_past; above = next.above; room = omega (arith, length-arcs_from) }

pub begins_more : (g : Digraph) (x v : ℕ) → Begins g.nodes g.lists → FollowsOn g x v → Begins g.nodes (with_arc g.lists x v)
begins_more g x v h after =
    let lists : List (List ℕ) = g.lists in
    let k : ℕ = x + 1 - length lists in
    let old : List ℕ = get_or lists x [] in
    let size = length-with_arc lists x v after.not_past in
    let asc : Ascends 0 (old ++ v ∷ []) = ascends_push 0 v old (omega arith) (at_page (Ascends 0) lists x h.ascending tt) after.above in
    let low : Below g.nodes (old ++ v ∷ []) = below_push g.nodes v old after.target (at_page (Below g.nodes) lists x h.below tt) in
    let last : length (with_arc lists x v) - 1 ≡ x = omega arith in
    let here = with_arc_here lists x v after.not_past in
    record {
      begun = omega arith;
      ascending = All-set (Ascends 0) (padded (x + 1) lists) x (old ++ v ∷ []) asc (All-append (Ascends 0) lists (replicate k []) h.ascending (All-replicate (Ascends 0) k [] tt));
      below = All-set (Below g.nodes) (padded (x + 1) lists) x (old ++ v ∷ []) low (All-append (Below g.nodes) lists (replicate k []) h.below (All-replicate (Below g.nodes) k [] tt));
      ends = λ some. rw (last, here) (omega (arith, length-append old (v ∷ [])));
    }

filled : (n : ℕ) (lists : List (List ℕ)) → Begins n lists → IsGraph (with_lists n (padded n lists))
filled n lists h =
    let k : ℕ = n - length lists in
    record {
      counted = length-padded n lists h.begun;
      ascending = All-append (Ascends 0) lists (replicate k []) h.ascending (All-replicate (Ascends 0) k [] tt);
      below = All-append (Below n) lists (replicate k []) h.below (All-replicate (Below n) k [] tt);
    }

-- ---- a line without a fault

taken : (n count : ℕ) (last o : Option Arc) → refusal_after n last count o ≡ None → (a : Arc) × (o ≡ Some a) × MayCome n last count a
taken n count last o h = grind arith

-- it has no arc, or one that may come next
pub fine_line : (n : ℕ) (before : List Arc) (text : List ℕ) → fault_of n before text ≡ None → (arc_at text ≡ None) ⊎ ((a : Arc) × (arc_at text ≡ Some a) × MayCome n (last_or None before) (length before) a)
fine_line n before text fine =
    elim (cases_Bool (is_skipped (words_of text))) [
      | inl skipped ↦ inl (rw skipped refl)
      | inr read ↦ (let t = taken n _ _ _ (rw read at fine) in inr (t.0, rw read t.1, t.2))
    ]

-- ---- all lines

abbrev Listed : ℕ → List ℕ → Type 0
Listed n bytes = (w : Result Digraph (ℕ × ArcsKind)) × IsListed n bytes w

-- the lists after a line without a fault
after_line : (n : ℕ) (lists : List (List ℕ)) (text : List ℕ) → Begins n lists → fault_of n (arcs_from 0 lists) text ≡ None →
    (new : List (List ℕ)) × Begins n new × (arcs_from 0 new ≡ arcs_from 0 lists ++ option_to_list (arc_at text))
after_line n lists text h fine =
    elim (fine_line n (arcs_from 0 lists) text fine) [
      | inl none ↦ (lists, h, rw none (sym (append-nil (arcs_from 0 lists))))
      | inr w ↦
          let a : Arc = w.0 in
          let g : Digraph = with_lists n lists in
          let next = follows_on g a h w.2 in
          (with_arc lists a.0 a.1, begins_more g a.0 a.1 h next, rw (w.1) (with_arc_arcs lists a.0 a.1 next.not_past))
    ]

walk : (n : ℕ) (bytes : List ℕ) (rest : List (List ℕ)) (count : ℕ) (lists : List (List ℕ)) → Begins n lists → SoFar n (lines_of bytes) rest count (arcs_from 0 lists) → Listed n bytes
walk n bytes [] count lists h so_far = (Ok (with_lists n (padded n lists)), all_read n (lines_of bytes) count (arcs_from 0 lists) (with_lists n (padded n lists)) so_far refl (padded_arcs_from n lists) (filled n lists h))
walk n bytes (text ∷ rest) count lists h so_far =
    elim (cases_fault (fault_of n (arcs_from 0 lists) text)) [
      | inl fine ↦
          let next = after_line n lists text h fine in
          walk n bytes rest (count + 1) next.0 next.1 (subst (SoFar n (lines_of bytes) rest (count + 1)) (sym next.2) (so_far_more n (lines_of bytes) rest text count (arcs_from 0 lists) so_far fine))
      | inr faulty ↦ (Err (count + 1, faulty.0), first_fault n (lines_of bytes) rest text count (count + 1) faulty.0 (arcs_from 0 lists) so_far refl faulty.1)
    ]
  where
    cases_fault : (o : Option ArcsKind) → (o ≡ None) ⊎ ((k : ArcsKind) × (o ≡ Some k))
    cases_fault None = inl refl
    cases_fault (Some k) = inr (k, refl)

pub texts_are_some : TextsAreSome
texts_are_some n bytes = walk n bytes (lines_of bytes) 0 [] (begins_none n) (so_far_none n (lines_of bytes))
