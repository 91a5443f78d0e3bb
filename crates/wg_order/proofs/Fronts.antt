-- The first pages of a ranking, if the others are not sorted.
use Rattle.std.specs.Cmp.{IsStrictWeakOrder}
use Rattle.std.specs.Ordering.{is_lt}
use Rattle.std.specs.List.{range_with_len, count_by, All, Contains}
use Rattle.std.specs.List.Sorted.{IsPermutation, IsSplitAroundBy}
use Rattle.std.proofs.Common.{ℕ, zero, suc, ◌≡◌, ◌-◌, ◌+◌, ◌*◌, ◌<◌, ◌≤◌, List, [], ◌∷◌, ◌++◌, length, get_or, take, drop, nat_lt, Bool, false, refl, sym, ap, subst, arith, ◌∙◌, inl, inr}
use Rattle.std.proofs.Math.Seq.{drop-append_seam, take-append_seam}
use Rattle.std.proofs.lemmas.Bool.{cases_lt, le-ltb}
use Rattle.std.proofs.lemmas.List.{get_or-drop, get_or_append_left, get_or-append_right, length-drop, length-append, length-take, get_or_default, append-nil, take-append-le, take_all}
use Rattle.std.proofs.lemmas.List.Elements.{All-from_get_or}
use Rattle.std.proofs.lemmas.List.Sums.{sum_by-take-drop}
use Rattle.std.proofs.lemmas.List.Sorted.{All-permutation, Contains-permutation, IsPermutation-append_left, IsPermutation-refl, IsPermutation-sym, IsPermutation-trans, ranks_by}
use Rattle.wg_rank.specs.Intervals.{by_page}
use Rattle.wg_order.specs.Compared.{compared}
use Rattle.wg_order.specs.Front.{AreFirst, IsFront, first_in}
use Rattle.wg_order.specs.Order.{ComesBefore, IsRanking}
use Rattle.wg_order.proofs.Counts.{one, count_none, count_pages}
use Rattle.wg_order.proofs.OneRanking.{same_first, same_later}
use Rattle.wg_order.proofs.Orders.{apart, compared_total, pages_below, pages_count}
use Rattle.wg_order.proofs.Summaries.{not_before}

-- ---- from a selection, and a sort of the pages before it

abbrev pub less : List ℕ → List ℕ → ℕ → ℕ → Bool
less low high u v = is_lt (compared low high u v)

pub less_order : (low high : List ℕ) → IsStrictWeakOrder (less low high)
less_order low high = ranks_by (compared_total low high) (λ u. u)

-- none of the pages behind is less than one of those in front
behind : (low high : List ℕ) (x f : ℕ) (back : List ℕ) (k : ℕ) → k < length (x ∷ back) → less low high x f ≡ false
    → All (λ b. less low high b x ≡ false) back → less low high (get_or (x ∷ back) k 0) f ≡ false
behind low high x f back zero w h s = h
behind low high x f back (suc k) w h s = (less_order low high).chain (get_or back k 0) x f (s k 0 (omega arith)) h

module _ (low high front sorted : List ℕ) (x : ℕ) (back : List ℕ) (only : IsPermutation front sorted)
    (split : IsSplitAroundBy (less low high) front x back)
    (order : (i j : ℕ) → i ≤ j → j < length sorted → less low high (get_or sorted j 0) (get_or sorted i 0) ≡ false) where
  abbrev joined : List ℕ
  joined = sorted ++ x ∷ back

  not_less_than : (i j : ℕ) → i < length sorted → i < j → j < length joined → less low high (get_or joined j 0) (get_or joined i 0) ≡ false
  not_less_than i j h l w =
      let at_i : get_or joined i 0 ≡ get_or sorted i 0 = get_or_append_left sorted (x ∷ back) 0 i h in
      elim (cases_lt j (length sorted)) [
        | inl b ↦
            let at_j : get_or joined j 0 ≡ get_or sorted j 0 = get_or_append_left sorted (x ∷ back) 0 j b in
            subst (λ (p : ℕ). less low high p (get_or joined i 0) ≡ false) (sym at_j)
            (subst (λ (p : ℕ). less low high (get_or sorted j 0) p ≡ false) (sym at_i) (order i j (omega arith) b))
        | inr b ↦
            let at_j : get_or joined j 0 ≡ get_or (x ∷ back) (j - length sorted) 0 = get_or-append_right sorted (x ∷ back) (length sorted) j 0 refl b in
            let fronts : All (λ f. less low high x f ≡ false) sorted = All-permutation (λ f. less low high x f ≡ false) front sorted only split.0 in
            let inside : j - length sorted < length (x ∷ back) = omega (arith, length-append sorted (x ∷ back)) in
            subst (λ (p : ℕ). less low high p (get_or joined i 0) ≡ false) (sym at_j)
            (subst (λ (p : ℕ). less low high (get_or (x ∷ back) (j - length sorted) 0) p ≡ false) (sym at_i)
            (behind low high x (get_or sorted i 0) back (j - length sorted) inside (fronts i 0 h) split.1))
      ]

  pub front_from : (old : List ℕ) → old ≡ range_with_len 0 (length low) → IsPermutation old (front ++ x ∷ back) → IsFront low high joined (length sorted)
  front_from old e p =
      let all : IsPermutation (range_with_len 0 (length low)) joined =
      IsPermutation-trans (range_with_len 0 (length low)) (front ++ x ∷ back) joined (subst (λ (o : List ℕ). IsPermutation o (front ++ x ∷ back)) e p)
      (IsPermutation-append_left (x ∷ back) front sorted only) in
      record {
        all = all;
        ordered = λ i j h l w.
            not_before low high (get_or joined j 0) (get_or joined i 0) (λ same. apart (length low) joined all i j l w (sym same))
            (not_less_than i j h l w);
      }

pub front_of_none : (low high first : List ℕ) → length first ≡ 0 → AreFirst low high first
front_of_none low high [] e = (
  range_with_len 0 (length low),
  record { all = IsPermutation-refl (range_with_len 0 (length low)); ordered = λ i j h l w. absurd (omega arith) },
)
front_of_none low high (u ∷ first) e = absurd (omega arith)

pub front_of_all : (low high ranked : List ℕ) → IsRanking low high ranked → AreFirst low high ranked
front_of_all low high ranked r =
    ([], subst (λ (p : List ℕ). IsFront low high p (length ranked)) (sym (append-nil ranked)) (record { all = r.all; ordered = λ i j h l w. r.ordered i j l w }))

-- ---- it is that of the ranking

-- the first so many come before all that are behind them
abbrev ComeFirst : List ℕ → List ℕ → ℕ → List ℕ → Type 0
ComeFirst low high zero pages = Unit {0}
ComeFirst low high (suc k) [] = Unit {0}
ComeFirst low high (suc k) (u ∷ pages) = All (ComesBefore low high u) pages × ComeFirst low high k pages

first_from : (low high : List ℕ) (k : ℕ) (pages : List ℕ) → ((i j : ℕ) → i < k → i < j → j < length pages → ComesBefore low high (get_or pages i 0) (get_or pages j 0))
    → ComeFirst low high k pages
first_from low high zero pages h = tt
first_from low high (suc k) [] h = tt
first_from low high (suc k) (u ∷ pages) h = (
  All-from_get_or (ComesBefore low high u) pages 0 (λ j w. h 0 (suc j) (omega arith) (omega arith) (omega arith)),
  first_from low high k pages (λ i j b l w. h (suc i) (suc j) (omega arith) (omega arith) (omega arith)),
)

same_front : (low high : List ℕ) (k : ℕ) (pages others : List ℕ) → ComeFirst low high k pages → ComeFirst low high k others
    → ((p : ℕ) → Contains pages p → Contains others p) → ((p : ℕ) → Contains others p → Contains pages p) → take k pages ≡ take k others
same_front low high zero pages others r s h b = refl
same_front low high (suc k) [] [] r s h b = refl
same_front low high (suc k) [] (v ∷ others) r s h b = let c = b v (0, omega arith, refl) in absurd (omega (arith, c.1))
same_front low high (suc k) (u ∷ pages) [] r s h b = let c = h u (0, omega arith, refl) in absurd (omega (arith, c.1))
same_front low high (suc k) (u ∷ pages) (v ∷ others) r s h b =
    let e : u ≡ v = same_first low high u v pages others r.0 s.0 (b v (0, omega arith, refl)) (h u (0, omega arith, refl)) in
    let t : take k pages ≡ take k others =
    same_front low high k pages others r.1 s.1 (same_later low high u v pages others e r.0 h) (same_later low high v u others pages (sym e) s.0 b) in
    λ i. e i ∷ t i

pub front_first : (low high pages others : List ℕ) (k : ℕ) → IsFront low high pages k → IsRanking low high others → take k pages ≡ take k others
front_first low high pages others k f r =
    let n : List ℕ = range_with_len 0 (length low) in
    same_front low high k pages others (first_from low high k pages f.ordered) (first_from low high k others (λ i j b l w. r.ordered i j l w))
    (λ p c. Contains-permutation n others p r.all (Contains-permutation pages n p (IsPermutation-sym n pages f.all) c))
    (λ p c. Contains-permutation n pages p f.all (Contains-permutation others n p (IsPermutation-sym n others r.all) c))

-- ---- their lower bounds

-- along the first pages lower bounds fall, and the others have none above them
pub front_falls : (low high pages : List ℕ) (k : ℕ) → IsFront low high pages k → (i j : ℕ) → i < k → i ≤ j → j < length pages → by_page low (get_or pages j 0) ≤ by_page low (get_or pages i 0)
front_falls low high pages k f i j b l w =
    elim (cases_lt i j) [
      | inl s ↦ elim (f.ordered i j b s w) [
        | inl a ↦ omega arith
        | inr c ↦ elim c [ inl d ↦ omega (arith, d.0) | inr d ↦ omega (arith, d.0) ]
      ]
      | inr m ↦ let e : i ≡ j = omega arith in rw e (omega arith)
    ]

-- so those above a bound that the lower one of a first page does not pass are among the first
pub front_above : (low high pages : List ℕ) (k i x : ℕ) → IsFront low high pages k → i < k → k ≤ length low → by_page low (get_or pages i 0) ≤ x
    → count_by (λ u. nat_lt x (by_page low u)) (take k pages) ≡ count_by (λ l. nat_lt x l) low
front_above low high pages k i x f b m h =
    let q = λ (u : ℕ). nat_lt x (by_page low u) in
    let size : length pages ≡ length low = pages_count (length low) pages f.all in
    let none : count_by q (drop k pages) ≡ 0 =
    count_none q (drop k pages)
    (λ j d w.
    let inside : k + j < length pages = omega (arith, w, length-drop k pages) in
    let at : get_or (drop k pages) j d ≡ get_or pages (k + j) 0 = get_or-drop k pages j d ∙ get_or_default pages (k + j) d 0 inside in
    subst (λ (u : ℕ). q u ≡ false) (sym at)
    (le-ltb x (by_page low (get_or pages (k + j) 0)) (omega (arith, h, front_falls low high pages k f i (k + j) b (omega arith) inside)))) in
    omega (arith, none, sum_by-take-drop (λ u. one (q u)) pages k, count_pages (λ l. nat_lt x l) low pages f.all)

-- ---- the same of the first pages alone

pub first_is : (low high first ranked : List ℕ) → AreFirst low high first → IsRanking low high ranked → first ≡ take (length first) ranked
first_is low high first ranked f r =
    sym (take-append-le (length first) first f.0 (omega arith) ∙ take_all (length first) first (omega arith)) ∙ front_first low high (first ++ f.0) ranked (length first) f.1 r

at_first : (first others : List ℕ) (i : ℕ) → i < length first → get_or (first ++ others) i 0 ≡ get_or first i 0
at_first first others i w = get_or_append_left first others 0 i w

pub first_falls : (low high first : List ℕ) → AreFirst low high first → (i j : ℕ) → i ≤ j → j < length first → by_page low (get_or first j 0) ≤ by_page low (get_or first i 0)
first_falls low high first f i j l w =
    let inside : j < length (first ++ f.0) = omega (arith, w, length-append first f.0) in
    omega (
      arith,
      front_falls low high (first ++ f.0) (length first) f.1 i j (omega arith) l inside,
      ap (by_page low) (at_first first f.0 i (omega arith)),
      ap (by_page low) (at_first first f.0 j w),
    )

first_inside : (low high first : List ℕ) (f : AreFirst low high first) → length first ≤ length low
first_inside low high first f = omega (arith, pages_count (length low) (first ++ f.0) f.1.all, length-append first f.0)

pub first_below : (low high first : List ℕ) → AreFirst low high first → (i : ℕ) → i < length first → get_or first i 0 < length low
first_below low high first f i w =
    let inside : i < length (first ++ f.0) = omega (arith, w, length-append first f.0) in
    omega (arith, pages_below (length low) (first ++ f.0) f.1.all i 0 inside, at_first first f.0 i w)

pub first_above : (low high first : List ℕ) (i x : ℕ) → AreFirst low high first → i < length first → by_page low (get_or first i 0) ≤ x
    → count_by (λ u. nat_lt x (by_page low u)) first ≡ count_by (λ l. nat_lt x l) low
first_above low high first i x f w h =
    ap (count_by (λ u. nat_lt x (by_page low u))) (sym (take-append-le (length first) first f.0 (omega arith) ∙ take_all (length first) first (omega arith)))
    ∙ front_above low high (first ++ f.0) (length first) i x f.1 w (first_inside low high first f) (omega (arith, h, ap (by_page low) (at_first first f.0 i w)))

-- ---- where they stand

pub take_front : (first rest : List ℕ) (count : ℕ) → length first ≡ count → take count (first ++ rest) ≡ first
take_front first rest count e = ap (λ (k : ℕ). take k (first ++ rest)) (sym e) ∙ take-append_seam first rest

pub first_in_room : (work first rest : List ℕ) (count n : ℕ) → length work ≡ n → length first ≡ count → first_in count n (work ++ (first ++ rest)) ≡ first
first_in_room work first rest count n w f =
    ap (λ (k : ℕ). take count (drop k (work ++ (first ++ rest)))) (sym w) ∙ ap (take count) (drop-append_seam work (first ++ rest)) ∙ take_front first rest count f

pub length-first_in : (count n : ℕ) (room : List ℕ) → length room ≡ 2 * n → count ≤ n → length (first_in count n room) ≡ count
length-first_in count n room e f = omega (arith, length-take count (drop n room), length-drop n room)
