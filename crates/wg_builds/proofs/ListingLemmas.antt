-- Lists that are encoded as they come.
use Rattle.std.proofs.Common.{◌≡◌, ℕ, ◌+◌, ◌-◌, ◌<◌, ◌≤◌, List, [], ◌∷◌, ◌++◌, length, take, replicate, Option, Some, None, sym, ap, subst, ◌∙◌, arith, append_assoc, append-nil, length-append}
use Rattle.std.specs.Prelude.{IfSome, option_to_list}
use Rattle.std.proofs.lemmas.List.{length_push, replicate_more, take_all, take_at}
use Rattle.std.proofs.lemmas.List.Sums.{sum_by-append, sum_by-cons}
use Rattle.wg_params.specs.{declared.limits.TheConstants.MOST_ARCS, Parameters.Parameters}
use Rattle.wg_graph.specs.{Growing.padded, Ascending.Below}
use Rattle.wg_graph.proofs.{Arcs.length-arcs_from, Prefixes.length-padded}
use Rattle.wg_arcs.specs.{Listing.AreListed, Listing.arcs_on, Growing.ArcLinesRead}
use Rattle.wg_arcs.proofs.{ListedLemmas.next_page, Order.Arc}
use Rattle.wg_encoder.specs.ArchiveInMemory.{EncodedSoFar, HasEncoded}
use Rattle.wg_builds.specs.Listed.{IsUnderWay, MayTake, done_at, list_at}

-- one empty list more
pub padded_more : (n : ℕ) (lists : List (List ℕ)) → length lists ≤ n → padded n lists ++ [] ∷ [] ≡ padded (n + 1) lists
padded_more n lists le =
    let k : ℕ = n - length lists in
    let more : k + 1 ≡ n + 1 - length lists = omega arith in
    append_assoc lists (replicate k []) ([] ∷ []) ∙ ap (λ (l : List (List ℕ)). lists ++ l) (replicate_more k []) ∙ ap (λ (m : ℕ). lists ++ replicate m []) more

padded_none : (n : ℕ) (lists : List (List ℕ)) → n ≤ length lists → padded n lists ≡ lists
padded_none n lists le = let none : n - length lists ≡ 0 = omega arith in ap (λ (m : ℕ). lists ++ replicate m []) none ∙ append-nil lists

pub padded_all : (n : ℕ) (lists : List (List ℕ)) → length lists ≡ n → lists ≡ padded n lists
padded_all n lists size = sym (padded_none n lists (omega (arith, size)))

-- ---- what an encoder may be handed

comes_next : (e : EncodedSoFar) (done : List (List ℕ)) (list : List ℕ) (next : Option Arc) (s : ArcLinesRead) → HasEncoded e done → e.params.nodes ≡ s.nodes → AreListed done list next s
    → IfSome next (λ a. (e.page < a.0) × (a.0 ≤ e.params.nodes))
comes_next e done list next s h h2 h3 = grind arith

-- the lists that are encoded and the next one have no more arcs than were read
pub may_take : (e : EncodedSoFar) (done : List (List ℕ)) (list : List ℕ) (next : Option Arc) (s : ArcLinesRead) → HasEncoded e done → e.params.nodes ≡ s.nodes → e.params.arcs ≡ MOST_ARCS → AreListed done list next s → MayTake e list next
may_take e done list next s h nodes most l =
    let sizes : List ℕ → ℕ = λ x. length x in
    record {
      page = comes_next e done list next s h nodes l;
      proper = record { ascends = l.list_ascends; below = subst (λ (n : ℕ). Below n list) (sym nodes) l.list_below };
      arcs = omega (
        arith,
        most,
        l.few,
        l.count,
        h.arcs,
        length-append (arcs_on done list) (option_to_list next),
        length-arcs_from 0 (done ++ list ∷ []),
        sum_by-append sizes done (list ∷ []),
        sum_by-cons sizes list [],
      );
    }

-- ---- a page is passed

begun : (next : Option Arc) (done : List (List ℕ)) (list : List ℕ) (s : ArcLinesRead) → AreListed done list next s
    → AreListed (done_at next done list) (list_at next list) None s × (arcs_on (done_at next done list) (list_at next list) ≡ arcs_on done list ++ option_to_list next)
begun None done list s h = (h, sym (append-nil (arcs_on done list)))
begun (Some a) done list s h = next_page done list s a h

pub moved_on : (e f : EncodedSoFar) (list list' : List ℕ) (s : ArcLinesRead) (done : List (List ℕ)) (next : Option Arc) → e.params.nodes ≡ s.nodes → e.params.arcs ≡ MOST_ARCS → AreListed done list next s → f.params ≡ e.params → list' ≡ list_at next list
    → HasEncoded f (done_at next done list) → IsUnderWay f list' s (done_at next done list) × (arcs_on (done_at next done list) list' ≡ arcs_on done list ++ option_to_list next)
moved_on e f list list' s done next nodes most h params is encoded =
    let b = begun next done list s h in (
      record {
        encoded = encoded;
        listed = subst (λ (l : List ℕ). AreListed (done_at next done list) l None s) (sym is) b.0;
        nodes = ap (λ (p : Parameters). p.nodes) params ∙ nodes;
        most = ap (λ (p : Parameters). p.arcs) params ∙ most;
      },
      ap (arcs_on (done_at next done list)) is ∙ b.1,
    )

-- ---- the last pages

pub taken_whole : (n : ℕ) (e : EncodedSoFar) (done : List (List ℕ)) (list : List ℕ) → HasEncoded e done → e.page < n → take n (padded n (done ++ list ∷ [])) ≡ padded n (done ++ list ∷ [])
taken_whole n e done list h lt = grind (arith, length_push, take_all, length-padded)

pub all_taken : (n : ℕ) (e : EncodedSoFar) (done : List (List ℕ)) (list : List ℕ) → HasEncoded e done → e.page ≡ n → HasEncoded e (take n (padded n (done ++ list ∷ [])))
all_taken n e done list h is =
    let size : length done ≡ n = sym h.page ∙ is in
    subst (HasEncoded e) (sym (ap (take n) (padded_none n (done ++ list ∷ []) (omega (arith, size, length_push done list))) ∙ take_at done (list ∷ []) n size)) h
