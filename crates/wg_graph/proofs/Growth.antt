-- What the calls on ends leave, and what a builder keeps.
use Rattle.std.proofs.Common.{◌≡◌, ◌↔◌, ℕ, suc, ◌+◌, ◌-◌, ◌<◌, ◌≤◌, Bool, false, IsTrue, List, [], ◌∷◌, ◌++◌, length, take, get_or, set, replicate, refl, sym, ap, subst, ◌∙◌, arith, length-append}
use Rattle.std.proofs.lemmas.List.{take_all, take_at, get_or_read}
use Rattle.wg_graph.specs.Ascending.{Ascends, Below}
use Rattle.wg_graph.specs.Digraph.{IsGraph, IsGraphPrefix, successors, arc_count}
use Rattle.wg_graph.specs.Growing.{ComesAfter, FollowsOn, padded, with_arc}
use Rattle.wg_graph.specs.Pieces.{pieces, EndsAt, cut, IsCut}
use Rattle.wg_graph.proofs.Ends.{pad_ends, pad_pieces, length-pieces, append_ends, append_pieces, grow_ends, grow_pieces, pieces_count}
use Rattle.wg_graph.proofs.Prefixes.{padded_at, prefix_with_arc, graph_of_prefix}

pub pad_is : (es all ms : List ℕ) (n m : ℕ) → EndsAt 0 es (length all) → length es ≤ n → m ≡ length es → ms ≡ take n es ++ replicate (n - m) (length all) →
    EndsAt 0 ms (length all) × (pieces 0 ms all ≡ padded n (pieces 0 es all)) × (take (length es) ms ≡ es)
pad_is es all ms n m h le count is =
    let front : take n es ≡ es = take_all n es le in
    let size : length (pieces 0 es all) ≡ m = length-pieces 0 es all ∙ sym count in
    rw (is, front, size) (pad_ends es all (n - m) h, pad_pieces es all (n - m) h, take_at es (replicate (n - m) (length all)) (length es) refl)

pub append_is : (es all list es1 all1 : List ℕ) (t : ℕ) → EndsAt 0 es (length all) → all1 ≡ all ++ list → t ≡ length all1 → es1 ≡ es ++ t ∷ [] →
    EndsAt 0 es1 (length all1) × (pieces 0 es1 all1 ≡ pieces 0 es all ++ list ∷ [])
append_is es all list es1 all1 t h all_is t_is es_is =
    let size : t ≡ length all + length list = t_is ∙ ap length all_is ∙ length-append all list in
    let total : length all1 ≡ t = sym t_is in
    let ends : EndsAt 0 (es ++ t ∷ []) t = append_ends es all list t size h in
    rw (total, es_is, all_is) (ends, ap (λ (k : ℕ). pieces 0 (es ++ k ∷ []) (all ++ list)) size ∙ append_pieces es all list h)

pub add_is : (es all slice es1 all1 : List ℕ) (x v y : ℕ) → slice ≡ all → EndsAt 0 es1 (length slice) → pieces 0 es1 slice ≡ padded (x + 1) (pieces 0 es slice) → length es1 ≡ x + 1 →
    y ≡ get_or es1 x y → all1 ≡ all ++ v ∷ [] → EndsAt 0 (set es1 x (y + 1)) (length all1) × (pieces 0 (set es1 x (y + 1)) all1 ≡ with_arc (pieces 0 es all) x v)
add_is es all slice es1 all1 x v y slice_is ends1 pieces1 count1 at all_is =
    let ends : EndsAt 0 es1 (length all) = subst (λ (l : List ℕ). EndsAt 0 es1 (length l)) slice_is ends1 in
    let same : pieces 0 es1 all ≡ padded (x + 1) (pieces 0 es all) = subst (λ (l : List ℕ). pieces 0 es1 l ≡ padded (x + 1) (pieces 0 es l)) slice_is pieces1 in
    let y_is : y ≡ get_or es1 x 0 = get_or_read es1 x y (omega arith) at 0 in
    let here : get_or (pieces 0 es1 all) x [] ≡ get_or (pieces 0 es all) x [] = ap (λ (l : List (List ℕ)). get_or l x []) same ∙ padded_at (x + 1) (pieces 0 es all) x in
    rw (all_is, y_is) (
      grow_ends es1 all x v ends count1,
      grow_pieces es1 all x v ends count1 ∙ ap (λ (l : List ℕ). set (pieces 0 es1 all) x (l ++ v ∷ [])) here ∙ ap (λ (l : List (List ℕ)). set l x (get_or (pieces 0 es all) x [] ++ v ∷ [])) same,
    )

-- ---- the last of an ascending list

below_last : (n v x : ℕ) (ys : List ℕ) → Ascends n (x ∷ ys) → get_or (x ∷ ys) (length ys) 0 < v → Below v (x ∷ ys)
below_last n v x [] up lt = (lt, tt)
below_last n v x (y ∷ zs) up lt = let rest = below_last (suc x) v y zs up.1 lt in (omega (arith, up.1.0, rest.0), rest)

last_below : (v x : ℕ) (ys : List ℕ) → Below v (x ∷ ys) → get_or (x ∷ ys) (length ys) 0 < v
last_below v x [] below = below.0
last_below v x (y ∷ zs) below = last_below v y zs below.1

pub past_last : (xs : List ℕ) (l v : ℕ) → Ascends 0 xs → 0 < length xs → l ≡ get_or xs (length xs - 1) 0 → (l < v → Below v xs) × (Below v xs → l < v)
past_last [] l v up some is = absurd (omega arith)
past_last (x ∷ ys) l v up some is =
    let e : suc (length ys) - 1 ≡ length ys = omega arith in
    let last : l ≡ get_or (x ∷ ys) (length ys) 0 = is ∙ ap (λ (k : ℕ). get_or (x ∷ ys) k 0) e in
    (λ lt. below_last 0 v x ys up (omega arith), λ below. let lt = last_below v x ys below in omega arith)

-- ---- what is kept

pub all_count : (nodes : ℕ) (ends all : List ℕ) → IsCut nodes ends all → length all ≡ arc_count (cut nodes ends all)
all_count nodes ends all h = let e = pieces_count 0 (length all) ends all h.whole (omega arith) in omega arith

pub begun_count : (nodes : ℕ) (ends all : List ℕ) → length (cut nodes ends all).lists ≡ length ends
begun_count nodes ends all = length-pieces 0 ends all

pub few_begun : (nodes : ℕ) (ends all : List ℕ) → IsCut nodes ends all → length ends ≤ nodes
few_begun nodes ends all h = let few = h.prefix.begun in omega (arith, begun_count nodes ends all)

pub whole_is_graph : (ends all : List ℕ) → IsCut (length ends) ends all → IsGraph (cut (length ends) ends all)
whole_is_graph ends all h = graph_of_prefix (cut (length ends) ends all) h.prefix (length-pieces 0 ends all)

pub after_where : (nodes : ℕ) (ends all : List ℕ) (x v : ℕ) (list : List ℕ) (r : Bool) → length ends ≤ x + 1 → list ≡ successors (cut nodes ends all) x → (IsTrue r ↔ Below v list) →
    (IsTrue r ↔ ComesAfter (cut nodes ends all) x v)
after_where nodes ends all x v list r not_past is past =
    let size = begun_count nodes ends all in
    (λ t. record { not_past = omega arith; above = subst (Below v) is (past.0 t) }, λ f. past.1 (subst (Below v) (sym is) f.above))

pub after_not : (nodes : ℕ) (ends all : List ℕ) (x v : ℕ) → x + 1 < length ends → (IsTrue false ↔ ComesAfter (cut nodes ends all) x v)
after_not nodes ends all x v past = (λ t. absurd (cc), λ f. absurd (let le = f.not_past in let size = begun_count nodes ends all in omega arith))

pub cut_with_arc : (nodes : ℕ) (ends all ends1 all1 : List ℕ) (x v : ℕ) → IsCut nodes ends all → EndsAt 0 ends1 (length all1) → pieces 0 ends1 all1 ≡ with_arc (pieces 0 ends all) x v →
    FollowsOn (cut nodes ends all) x v → IsCut nodes ends1 all1
cut_with_arc nodes ends all ends1 all1 x v h whole same follows = record {
  whole = whole;
  prefix = subst (λ (ls : List (List ℕ)). IsGraphPrefix (record { nodes = nodes; lists = ls })) (sym same) (prefix_with_arc (cut nodes ends all) x v h.prefix follows);
}
