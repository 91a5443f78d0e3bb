-- Lists that stand one after the other, cut at their ends.
use Rattle.std.proofs.Common.{◌≡◌, ℕ, zero, suc, ◌+◌, ◌-◌, ◌<◌, ◌≤◌, List, [], ◌∷◌, ◌++◌, length, take, drop, get_or, set, replicate, slice_range, refl, sym, ap, subst, ◌∙◌, arith, length-append, length-drop}
use Rattle.std.specs.List.{sum_by}
use Rattle.std.proofs.lemmas.List.{length-take-le, take-append-le, drop-append-le, take_all, get_or_at, set_at}
use Rattle.std.proofs.lemmas.List.Sums.{sum_by-cons}
use Rattle.wg_graph.specs.Pieces.{pieces, EndsAt}

-- ---- one piece

-- it stays if more follows
range_stays : (all more : List ℕ) (i j : ℕ) → i ≤ j → j ≤ length all → slice_range (all ++ more) i j ≡ slice_range all i j
range_stays all more i j le fits =
    let in_all : i ≤ length all = omega arith in
    let in_rest : j - i ≤ length (drop i all) = omega (arith, length-drop i all) in
    ap (take (j - i)) (drop-append-le i all more in_all) ∙ take-append-le (j - i) (drop i all) more in_rest

-- the last grows with what follows
range_grows : (all more : List ℕ) (i : ℕ) → i ≤ length all → slice_range (all ++ more) i (length all + length more) ≡ slice_range all i (length all) ++ more
range_grows all more i le =
    let n : ℕ = length all + length more - i in
    let long : length (drop i all ++ more) ≤ n = omega (arith, length-drop i all, length-append (drop i all) more) in
    let front : take (length all - i) (drop i all) ≡ drop i all = take_all (length all - i) (drop i all) (omega (arith, length-drop i all)) in
    ap (take n) (drop-append-le i all more le) ∙ take_all n (drop i all ++ more) long ∙ ap (λ (l : List ℕ). l ++ more) (sym front)

-- none between an end and itself
range_empty : (all : List ℕ) (t : ℕ) → slice_range all t t ≡ []
range_empty all t = let none : t - t ≡ 0 = omega arith in ap (λ (n : ℕ). take n (drop t all)) none

pub range_length : (all : List ℕ) (i j : ℕ) → i ≤ j → j ≤ length all → i + length (slice_range all i j) ≡ j
range_length all i j le fits = let have = length-drop i all in let made = length-take-le (j - i) (drop i all) (omega arith) in omega arith

-- ---- ends

pub ends_le : (s t : ℕ) (es : List ℕ) → EndsAt s es t → s ≤ t
ends_le s t [] h = omega (arith, h)
ends_le s t (e ∷ es) h = omega (arith, h.0, ends_le e t es h.1)

pub ends-append : (s m t : ℕ) (es fs : List ℕ) → EndsAt s es m → EndsAt m fs t → EndsAt s (es ++ fs) t
ends-append s m t [] fs h g = subst (λ (k : ℕ). EndsAt k fs t) (sym h) g
ends-append s m t (e ∷ es) fs h g = (h.0, ends-append e m t es fs h.1 g)

ends-replicate : (k t : ℕ) → EndsAt t (replicate k t) t
ends-replicate zero t = refl
ends-replicate (suc k) t = (omega arith, ends-replicate k t)

pub end_le : (s t : ℕ) (es : List ℕ) (x : ℕ) → EndsAt s es t → x < length es → get_or es x 0 ≤ t
end_le s t [] x h lt = absurd (omega arith)
end_le s t (e ∷ es) zero h lt = ends_le e t es h.1
end_le s t (e ∷ es) (suc x) h lt = end_le e t es x h.1 (omega arith)

pub start_le : (s t : ℕ) (es : List ℕ) (x : ℕ) → EndsAt s es t → x < length es → get_or (s ∷ es) x 0 ≤ get_or es x 0
start_le s t [] x h lt = absurd (omega arith)
start_le s t (e ∷ es) zero h lt = h.0
start_le s t (e ∷ es) (suc x) h lt = start_le e t es x h.1 (omega arith)

pub before_le : (s t : ℕ) (es : List ℕ) (x : ℕ) → EndsAt s es t → 0 < x → x < length es → get_or es (x - 1) 0 ≤ get_or es x 0
before_le s t es zero h some lt = absurd (omega arith)
before_le s t es (suc y) h some lt = let e : suc y - 1 ≡ y = omega arith in rw e (start_le s t es (suc y) h lt)

-- ---- all pieces

pub length-pieces : (s : ℕ) (es all : List ℕ) → length (pieces s es all) ≡ length es
length-pieces s [] all = refl
length-pieces s (e ∷ es) all = ap suc (length-pieces e es all)

pub piece_at : (s : ℕ) (es all : List ℕ) (x : ℕ) → x < length es → get_or (pieces s es all) x [] ≡ slice_range all (get_or (s ∷ es) x 0) (get_or es x 0)
piece_at s [] all x lt = absurd (omega arith)
piece_at s (e ∷ es) all zero lt = refl
piece_at s (e ∷ es) all (suc x) lt = piece_at e es all x (omega arith)

pieces-append : (s m : ℕ) (es fs all : List ℕ) → EndsAt s es m → pieces s (es ++ fs) all ≡ pieces s es all ++ pieces m fs all
pieces-append s m [] fs all h = ap (λ (k : ℕ). pieces k fs all) h
pieces-append s m (e ∷ es) fs all h = ap (λ (l : List (List ℕ)). slice_range all s e ∷ l) (pieces-append e m es fs all h.1)

pieces-replicate : (k t : ℕ) (all : List ℕ) → pieces t (replicate k t) all ≡ replicate k []
pieces-replicate zero t all = refl
pieces-replicate (suc k) t all = rw (range_empty all t, pieces-replicate k t all) refl

pieces_stay : (s t : ℕ) (es all more : List ℕ) → EndsAt s es t → t ≤ length all → pieces s es (all ++ more) ≡ pieces s es all
pieces_stay s t [] all more h fits = refl
pieces_stay s t (e ∷ es) all more h fits =
    let in_all = ends_le e t es h.1 in
    rw (range_stays all more s e h.0 (omega arith), pieces_stay e t es all more h.1 fits) refl

pub pieces_count : (s t : ℕ) (es all : List ℕ) → EndsAt s es t → t ≤ length all → s + sum_by (λ l. length l) (pieces s es all) ≡ t
pieces_count s t [] all h fits = omega (arith, h)
pieces_count s t (e ∷ es) all h fits =
    let rest = pieces_count e t es all h.1 fits in
    let here = range_length all s e h.0 (omega (arith, ends_le e t es h.1)) in
    omega (arith, sum_by-cons (λ (l : List ℕ). length l) (slice_range all s e) (pieces e es all))

-- ---- growing

-- empty lists follow
pub pad_ends : (es all : List ℕ) (k : ℕ) → EndsAt 0 es (length all) → EndsAt 0 (es ++ replicate k (length all)) (length all)
pad_ends es all k h = ends-append 0 (length all) (length all) es (replicate k (length all)) h (ends-replicate k (length all))

pub pad_pieces : (es all : List ℕ) (k : ℕ) → EndsAt 0 es (length all) → pieces 0 (es ++ replicate k (length all)) all ≡ pieces 0 es all ++ replicate k []
pad_pieces es all k h = pieces-append 0 (length all) es (replicate k (length all)) all h ∙ ap (λ (l : List (List ℕ)). pieces 0 es all ++ l) (pieces-replicate k (length all) all)

-- a list follows
pub append_ends : (es all list : List ℕ) (t : ℕ) → t ≡ length all + length list → EndsAt 0 es (length all) → EndsAt 0 (es ++ t ∷ []) t
append_ends es all list t is h = ends-append 0 (length all) t es (t ∷ []) h (omega arith, refl)

pub append_pieces : (es all list : List ℕ) → EndsAt 0 es (length all) →
    pieces 0 (es ++ (length all + length list) ∷ []) (all ++ list) ≡ pieces 0 es all ++ list ∷ []
append_pieces es all list h =
    let n : ℕ = length all + length list in
    let one : slice_range (all ++ list) (length all) n ≡ list = range_grows all list (length all) (omega arith) ∙ ap (λ (l : List ℕ). l ++ list) (range_empty all (length all)) in
    pieces-append 0 (length all) es (n ∷ []) (all ++ list) h ∙ rw (pieces_stay 0 (length all) es all list h (omega arith), one) refl

-- the last list, and those before it
pub record Last (s : ℕ) (es : List ℕ) (t x : ℕ) : Type 0 where
  pub before : List ℕ
  pub start : ℕ
  pub ends : EndsAt s before start
  pub le : start ≤ t
  pub count : length before ≡ x
  pub is : es ≡ before ++ t ∷ []

pub last_of : (s t : ℕ) (es : List ℕ) (x : ℕ) → EndsAt s es t → length es ≡ x + 1 → Last s es t x
last_of s t [] x h len = absurd (omega arith)
last_of s t (e ∷ []) x h len = record { before = []; start = s; ends = refl; le = omega (arith, h.0, h.1); count = omega arith; is = ap (λ (k : ℕ). k ∷ []) h.1 }
last_of s t (e ∷ f ∷ es) x h len =
    let r : Last e (f ∷ es) t (x - 1) = last_of e t (f ∷ es) (x - 1) h.1 (omega arith) in
    record { before = e ∷ r.before; start = r.start; ends = (h.0, r.ends); le = r.le; count = let c = r.count in omega arith; is = ap (λ (l : List ℕ). e ∷ l) r.is }

-- the last list grows by one number
pub grow_ends : (es all : List ℕ) (x v : ℕ) → EndsAt 0 es (length all) → length es ≡ x + 1 → EndsAt 0 (set es x (get_or es x 0 + 1)) (length (all ++ v ∷ []))
grow_ends es all x v h len =
    let r = last_of 0 (length all) es x h len in
    let at : get_or es x 0 ≡ length all = ap (λ (l : List ℕ). get_or l x 0) r.is ∙ get_or_at r.before (length all) [] 0 x r.count in
    let made : set es x (length all + 1) ≡ r.before ++ (length all + 1) ∷ [] = ap (λ (l : List ℕ). set l x (length all + 1)) r.is ∙ set_at r.before (length all) [] (length all + 1) x r.count in
    let size : length (all ++ v ∷ []) ≡ length all + 1 = omega (arith, length-append all (v ∷ [])) in
    let le = r.le in
    rw (at, made, size) (ends-append 0 r.start (length all + 1) r.before ((length all + 1) ∷ []) r.ends (omega arith, refl))

pub grow_pieces : (es all : List ℕ) (x v : ℕ) → EndsAt 0 es (length all) → length es ≡ x + 1 →
    pieces 0 (set es x (get_or es x 0 + 1)) (all ++ v ∷ []) ≡ set (pieces 0 es all) x (get_or (pieces 0 es all) x [] ++ v ∷ [])
grow_pieces es all x v h len =
    let r = last_of 0 (length all) es x h len in
    let t : ℕ = length all in
    let at : get_or es x 0 ≡ t = ap (λ (l : List ℕ). get_or l x 0) r.is ∙ get_or_at r.before t [] 0 x r.count in
    let made : set es x (t + 1) ≡ r.before ++ (t + 1) ∷ [] = ap (λ (l : List ℕ). set l x (t + 1)) r.is ∙ set_at r.before t [] (t + 1) x r.count in
    let old : pieces 0 es all ≡ pieces 0 r.before all ++ slice_range all r.start t ∷ [] = ap (λ (l : List ℕ). pieces 0 l all) r.is ∙ pieces-append 0 r.start r.before (t ∷ []) all r.ends in
    let one : slice_range (all ++ v ∷ []) r.start (t + 1) ≡ slice_range all r.start t ++ v ∷ [] = range_grows all (v ∷ []) r.start r.le in
    let new : pieces 0 (r.before ++ (t + 1) ∷ []) (all ++ v ∷ []) ≡ pieces 0 r.before all ++ (slice_range all r.start t ++ v ∷ []) ∷ [] =
    pieces-append 0 r.start r.before ((t + 1) ∷ []) (all ++ v ∷ []) r.ends ∙ rw (pieces_stay 0 r.start r.before all (v ∷ []) r.ends r.le, one) refl in
    let size : length (pieces 0 r.before all) ≡ x = length-pieces 0 r.before all ∙ r.count in
    let mine : get_or (pieces 0 r.before all ++ slice_range all r.start t ∷ []) x [] ≡ slice_range all r.start t = get_or_at (pieces 0 r.before all) (slice_range all r.start t) [] [] x size in
    rw (at, made, new, old, mine) (sym (set_at (pieces 0 r.before all) (slice_range all r.start t) [] (slice_range all r.start t ++ v ∷ []) x size))
