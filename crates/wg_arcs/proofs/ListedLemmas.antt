-- Lists of pages that come arc by arc.
use Rattle.std.proofs.Common.{◌≡◌, inl, inr, ℕ, ◌+◌, ◌-◌, ◌<◌, ◌≤◌, List, [], ◌∷◌, ◌++◌, length, take, get_or, replicate, Option, Some, None, refl, sym, ap, subst, ◌∙◌, arith, append_assoc, append-nil}
use Rattle.std.specs.Prelude.{IfSome, option_to_list}
use Rattle.std.specs.List.{All, last_or}
use Rattle.std.proofs.lemmas.Bool.{cases_lt, lt-ltb, le-ltb}
use Rattle.std.proofs.lemmas.List.{get_or_at, length_push, map-append, nil_from_length, take_all}
use Rattle.std.proofs.lemmas.List.Elements.{All-append, All-cons, All-replicate}
use Rattle.wg_graph.specs.Ascending.{Ascends, Below}
use Rattle.wg_graph.specs.Digraph.{Digraph, IsGraph, successors}
use Rattle.wg_graph.specs.Arcs.{arcs_from}
use Rattle.wg_graph.specs.Growing.{padded}
use Rattle.wg_graph.proofs.Arcs.{last_list, padded_arcs_from}
use Rattle.wg_graph.proofs.Prefixes.{length-padded}
use Rattle.wg_graph.proofs.Sets.{ascends_push, below_push}
use Rattle.wg_arcs.specs.Growing.{ArcLinesRead}
use Rattle.wg_arcs.specs.Growing.{IsUpTo, MayCome, SoFar, with_line}
use Rattle.wg_arcs.specs.Listing.{AreListed, arcs_on, later_than, on_page}
use Rattle.wg_arcs.specs.Reading.{is_after}
use Rattle.wg_arcs.proofs.Order.{Arc, after_all, last_or-append}
use Rattle.wg_arcs.proofs.SomeGraph.{at_page}

all_of : (P : List ℕ → Type 0) (done : List (List ℕ)) (list : List ℕ) → All P done → P list → All P (done ++ list ∷ [])
all_of P done list front here = All-append P done _ front (All-cons P list [] here (λ i d lt. absurd (omega arith)))

-- before the first line
pub none_listed : (s : ArcLinesRead) → s.last ≡ None → s.arcs ≡ 0 → AreListed [] [] None s
none_listed s last arcs = grind arith

pub last_known : (done : List (List ℕ)) (list : List ℕ) (s : ArcLinesRead) → AreListed done list None s → last_or None (arcs_on done list) ≡ s.last
last_known done list s h = ap (last_or None) (sym (append-nil (arcs_on done list))) ∙ h.last

pub count_known : (done : List (List ℕ)) (list : List ℕ) (s : ArcLinesRead) → AreListed done list None s → length (arcs_on done list) ≡ s.arcs
count_known done list s h = ap length (sym (append-nil _)) ∙ h.count

pub up_to : (all next : List (List ℕ)) (done : List (List ℕ)) (list : List ℕ) (s : ArcLinesRead) → AreListed done list None s → SoFar s.nodes all next s.line (arcs_on done list) → IsUpTo all next (arcs_on done list) s
up_to all next done list s h so = record { lines = so; last = last_known done list s h; count = count_known done list s h }

-- an arc that may come is of no page before, and if it is of this page, above its list
after_page : (done : List (List ℕ)) (list : List ℕ) (s : ArcLinesRead) (a : Arc) → AreListed done list None s → MayCome s.nodes s.last s.arcs a → (length done ≤ a.0) × (a.0 ≡ length done → Below a.1 list)
after_page done [] s a h m = elim (cases_lt 0 (length done)) [ inl lt ↦ absurd (omega arith) | inr le ↦ (omega arith, λ e. tt) ]
after_page done (x ∷ xs) s a h m =
    let list : List ℕ = x ∷ xs in
    let g : Digraph = record { nodes = s.nodes; lists = done ++ list ∷ [] } in
    let size : length g.lists ≡ length done + 1 = length_push done list in
    let at : length g.lists - 1 ≡ length done = omega (arith, size) in
    let here : get_or g.lists (length done) [] ≡ list = get_or_at done list [] [] (length done) refl in
    let ends : 0 < length (successors g _) = subst (λ (k : ℕ). 0 < length (successors g k)) (sym at) (subst (λ (l : List ℕ). 0 < length l) (sym here) (omega arith)) in
    let c = after_all g a.0 a.1 (λ y. at_page (Ascends 0) g.lists y (all_of (Ascends 0) done list h.ascending h.list_ascends) tt) (λ lt. ends) (ap (λ (o : Option Arc). is_after o a) (last_known done list s h) ∙ m.after) in
    (omega (arith, c.not_past, size), λ e. subst (Below a.1) (ap (λ (k : ℕ). get_or g.lists k []) e ∙ here) c.above)

arcs_push : (done : List (List ℕ)) (list : List ℕ) (v : ℕ) → arcs_on done (list ++ v ∷ []) ≡ arcs_on done list ++ (length done, v) ∷ []
arcs_push done list v =
    let page : ℕ = length done in
    last_list done _ page refl ∙ ap (λ (l : List Arc). arcs_from 0 done ++ l) (map-append _ list _)
    ∙ sym (append_assoc (arcs_from 0 done) _ _) ∙ ap (λ (l : List Arc). l ++ (page, v) ∷ []) (sym (last_list done list page refl))

-- ---- a line is read

abbrev AfterLine : List (List ℕ) → List ℕ → Option Arc → ArcLinesRead → List ℕ → Option Arc → Type 0
AfterLine done list arc t new next = AreListed done new next t × (arcs_on done new ++ option_to_list next ≡ arcs_on done list ++ option_to_list arc)

line_later : (done : List (List ℕ)) (list : List ℕ) (s : ArcLinesRead) (a : Arc) → AreListed done list None s → MayCome s.nodes s.last s.arcs a → length done < a.0 → AfterLine done list (Some a) (with_line s (Some a)) (list ++ []) (Some a)
line_later done list s a h m later =
    let same : list ++ [] ≡ list = append-nil list in
    let arcs : List Arc = arcs_on done list in (
      subst (λ (l : List ℕ). AreListed done l (Some a) (with_line s (Some a))) (sym same) (record {
        ascending = h.ascending;
        below = h.below;
        list_ascends = h.list_ascends;
        list_below = h.list_below;
        some = h.some;
        inside = h.inside;
        last = last_or-append None arcs _;
        count = length_push arcs a ∙ ap (λ (k : ℕ). k + 1) (count_known done list s h);
        few = let room = m.room in omega arith;
        comes = (later, m.source, m.target);
      }),
      ap (λ (l : List ℕ). arcs_on done l ++ a ∷ []) same,
    )

line_here : (done : List (List ℕ)) (list : List ℕ) (s : ArcLinesRead) (a : Arc) → AreListed done list None s → MayCome s.nodes s.last s.arcs a → a.0 ≤ length done → AfterLine done list (Some a) (with_line s (Some a)) (list ++ a.1 ∷ []) None
line_here done list s a h m here =
    let p = after_page done list s a h m in
    let e : a.0 ≡ length done = omega arith in
    let new : List ℕ = list ++ a.1 ∷ [] in
    let arcs : List Arc = arcs_on done list in
    let pair : ◌≡◌ {A = Arc} _ a = λ i. (sym e i, a.1) in
    let more : arcs_on done new ++ [] ≡ arcs ++ a ∷ [] = append-nil _ ∙ arcs_push done list a.1 ∙ ap (λ (b : Arc). arcs ++ b ∷ []) pair in (
      record {
        ascending = h.ascending;
        below = h.below;
        list_ascends = ascends_push 0 a.1 list (omega arith) h.list_ascends (p.1 e);
        list_below = below_push s.nodes a.1 list m.target h.list_below;
        some = λ lt. omega (arith, length_push);
        inside = λ lt. let source = m.source in omega arith;
        last = ap (last_or None) more ∙ last_or-append None arcs _;
        count = ap length more ∙ length_push arcs a ∙ ap (λ (k : ℕ). k + 1) (count_known done list s h);
        few = let room = m.room in omega arith;
        comes = tt;
      },
      more,
    )

line_on : (done : List (List ℕ)) (list : List ℕ) (s : ArcLinesRead) (arc : Option Arc) → AreListed done list None s → IfSome arc (MayCome s.nodes s.last s.arcs)
    → AfterLine done list arc (with_line s arc) (list ++ on_page (length done) arc) (later_than (length done) arc)
line_on done list s None h m =
    let same : list ++ [] ≡ list = append-nil list in (
      subst (λ (l : List ℕ). AreListed done l None (with_line s None)) (sym same) (record {
        ascending = h.ascending;
        below = h.below;
        list_ascends = h.list_ascends;
        list_below = h.list_below;
        some = h.some;
        inside = h.inside;
        last = h.last;
        count = h.count;
        few = h.few;
        comes = tt;
      }),
      ap (λ (l : List ℕ). arcs_on done l ++ []) same,
    )
line_on done list s (Some a) h m =
    elim (cases_lt (length done) a.0) [
      | inl later ↦ rw (lt-ltb (length done) a.0 later) (line_later done list s a h m later)
      | inr here ↦ rw (le-ltb (length done) a.0 here) (line_here done list s a h m here)
    ]

pub listed_line : (done : List (List ℕ)) (list : List ℕ) (s t : ArcLinesRead) (arc : Option Arc) (page : ℕ) (new : List ℕ) (next : Option Arc) → length done ≡ page → AreListed done list None s → IfSome arc (MayCome s.nodes s.last s.arcs) → t ≡ with_line s arc
    → new ≡ list ++ on_page page arc → next ≡ later_than page arc → AfterLine done list arc t new next
listed_line done list s t arc page new next at h m is new_is next_is =
    let e : ◌≡◌ {A = ArcLinesRead × (List ℕ × Option Arc)} (with_line s arc, (list ++ on_page (length done) arc, later_than (length done) arc)) (t, (new, next)) =
    λ i. (sym is i, ((ap (λ (k : ℕ). list ++ on_page k arc) at ∙ sym new_is) i, (ap (λ (k : ℕ). later_than k arc) at ∙ sym next_is) i)) in
    subst (λ (x : ArcLinesRead × (List ℕ × Option Arc)). AfterLine done list arc x.0 x.1.0 x.1.1) e (line_on done list s arc h m)

-- ---- pages are passed

pub next_page : (done : List (List ℕ)) (list : List ℕ) (s : ArcLinesRead) (a : Arc) → AreListed done list (Some a) s
    → AreListed (padded a.0 (done ++ list ∷ [])) (a.1 ∷ []) None s × (arcs_on (padded a.0 (done ++ list ∷ [])) (a.1 ∷ []) ≡ arcs_on done list ++ a ∷ [])
next_page done list s a h =
    let all : List (List ℕ) = done ++ list ∷ [] in
    let k : ℕ = a.0 - length all in
    let size : length (padded a.0 all) ≡ a.0 = length-padded a.0 all (omega (arith, length_push)) in
    let arcs : arcs_on (padded a.0 all) (a.1 ∷ []) ≡ arcs_on done list ++ a ∷ [] =
    last_list (padded a.0 all) (a.1 ∷ []) a.0 size ∙ ap (λ (l : List Arc). l ++ a ∷ []) (padded_arcs_from a.0 all) in
    let same : arcs_on (padded a.0 all) (a.1 ∷ []) ++ [] ≡ arcs_on done list ++ a ∷ [] = append-nil _ ∙ arcs in (
      record {
        ascending = All-append (Ascends 0) all (replicate k []) (all_of (Ascends 0) done list h.ascending h.list_ascends) (All-replicate (Ascends 0) k [] tt);
        below = All-append (Below s.nodes) all (replicate k []) (all_of (Below s.nodes) done list h.below h.list_below) (All-replicate (Below s.nodes) k [] tt);
        list_ascends = (omega arith, tt);
        list_below = (h.comes.2, tt);
        some = λ lt. omega arith;
        inside = λ lt. omega arith;
        last = ap (last_or None) same ∙ h.last;
        count = ap length same ∙ h.count;
        few = h.few;
        comes = tt;
      },
      arcs,
    )

-- the lists of all pages, once no more arcs come
pub all_pages : (done : List (List ℕ)) (list : List ℕ) (s : ArcLinesRead) (lists : List (List ℕ)) → AreListed done list None s → lists ≡ take s.nodes (padded s.nodes (done ++ list ∷ [])) →
    IsGraph (record { nodes = s.nodes; lists = lists }) × (arcs_from 0 lists ≡ arcs_on done list)
all_pages done list s lists h is =
    let n : ℕ = s.nodes in
    let all : List (List ℕ) = done ++ list ∷ [] in
    let k : ℕ = n - length all in
    elim (cases_lt (length done) n) [
      | inl lt ↦
          let size : length (padded n all) ≡ n = length-padded n all (omega (arith, length_push done list)) in
          let whole : padded n all ≡ lists = sym (is ∙ take_all n (padded n all) (omega (arith, size))) in
          subst (λ (ls : List (List ℕ)). IsGraph (record { nodes = n; lists = ls }) × (arcs_from 0 ls ≡ arcs_on done list)) whole (
            record {
              counted = size;
              ascending = All-append (Ascends 0) all (replicate k []) (all_of (Ascends 0) done list h.ascending h.list_ascends) (All-replicate (Ascends 0) k [] tt);
              below = All-append (Below n) all (replicate k []) (all_of (Below n) done list h.below h.list_below) (All-replicate (Below n) k [] tt);
            },
            padded_arcs_from n all,
          )
      | inr le ↦ elim (cases_lt 0 (length done)) [
        | inl some ↦ absurd (omega (arith, h.inside some, le))
        | inr none ↦
            let zero : n ≡ 0 = omega arith in
            let empty : [] ≡ lists = sym (is ∙ ap (λ (m : ℕ). take m (padded n all)) zero) in
            subst (λ (ls : List (List ℕ)). IsGraph (record { nodes = n; lists = ls }) × (arcs_from 0 ls ≡ arcs_on done list)) empty (
              record { counted = sym zero; ascending = λ i d lt. absurd (omega arith); below = λ i d lt. absurd (omega arith) },
              sym (ap (λ (d : List (List ℕ)). arcs_on d list) (nil_from_length done (omega arith)) ∙ ap (arcs_on []) (no_numbers list (subst (λ (m : ℕ). Below m list) zero h.list_below))),
            )
      ]
    ]
  where
    no_numbers : (list : List ℕ) → Below 0 list → list ≡ []
    no_numbers [] b = refl
    no_numbers (x ∷ xs) b = absurd (omega (arith, b.0))
