-- Three lists whose numbers together are as many as there are: they share none.
use Rattle.std.proofs.Common.{◌≡◌, ℕ, suc, ◌+◌, ◌-◌, ◌<◌, ◌≤◌, Bool, true, false, cond, eqb, ltb, leb, ◌&&◌, ◌||◌, inl, inr, List, [], ◌∷◌, length, Option, Some, None, refl, sym, ap, subst, ◌∙◌, arith}
use Rattle.std.specs.Prelude.{sum}
use Rattle.std.specs.List.{range_with_len}
use Rattle.std.proofs.lemmas.Bool.{cases_Bool, cases_lt, cases_eq, lt-ltb, le-ltb, ne_eqb, eq-eqb, eqb-true}
use Rattle.std.proofs.lemmas.List.{length-append}
use Rattle.wg_params.specs.declared.code.Code.{Code}
use Rattle.wg_graph.specs.Ascending.{Ascends, Below}
use Rattle.wg_graph.specs.Numbers.{is_in, numbers_where}
use Rattle.wg_graph.specs.Copied.{is_copied, copied_members}
use Rattle.wg_graph.proofs.Sets.{where_same, ascending_is}
use Rattle.wg_graph.proofs.Counts.{many, many_same, many_or, many_in}
use Rattle.wg_graph.proofs.Copies.{sum_cons, ascends-at_positions}
use Rattle.wg_intervals.specs.Stored.{StandAt, numbers_inside}
use Rattle.wg_intervals.proofs.Order.{inside_ascend}
use Rattle.wg_grammar.specs.Members.{is_covered}
use Rattle.wg_graph.specs.Unions.{with_number, union_of}
use Rattle.wg_decoder.specs.Proper.Disjoint.{AreApart}
use Rattle.wg_decoder.specs.Proper.Laid.{IntervalsTo, ResidualsTo}
use Rattle.wg_graph.proofs.NumberByNumber.{union_ascends}
use Rattle.wg_grammar.specs.SoFar.{value_or_0}
use Rattle.wg_decoder.proofs.InsideLists.{in_append, in_range}
use Rattle.std.proofs.lemmas.List.FromFn.{length-range_with_len}

-- ---- one number less

removed : ℕ → List ℕ → List ℕ
removed y [] = []
removed y (x ∷ xs) = cond (eqb y x) xs (x ∷ removed y xs)

removed_count : (y : ℕ) (xs : List ℕ) → is_in y xs ≡ true → length (removed y xs) + 1 ≡ length xs
unfolding removed
removed_count y [] h = absurd cc
removed_count y (x ∷ xs) h = elim (cases_Bool (eqb y x)) [
  | inl e ↦ rw e (omega arith)
  | inr e ↦ let g = removed_count y xs (rw e at h) in rw e (omega (arith, g))
]

removed_others : (y z : ℕ) (xs : List ℕ) → eqb z y ≡ false → is_in z (removed y xs) ≡ is_in z xs
unfolding removed
removed_others y z [] ne = refl
removed_others y z (x ∷ xs) ne = elim (cases_Bool (eqb y x)) [
  | inl e ↦ let same : y ≡ x = eqb-true y x e in let other : eqb z x ≡ false = subst (λ (k : ℕ). eqb z k ≡ false) same ne in rw (e, other) refl
  | inr e ↦ rw e (ap (λ (b : Bool). eqb z x || b) (removed_others y z xs ne))
]

or_true : (b : Bool) → (b || true) ≡ true
or_true true = refl
or_true false = refl

in_removed : (y z n : ℕ) (xs : List ℕ) (g : ℕ → Bool) → (y < n → g y ≡ true) → is_in y xs ≡ true → z < n → (is_in z xs || g z) ≡ (is_in z (removed y xs) || g z)
in_removed y z n xs g also there lt = elim (cases_eq z y) [
  | inl e ↦ let yes_z : g z ≡ true = ap g e ∙ also (omega (arith, e, lt)) in rw yes_z (or_true (is_in z xs) ∙ sym (or_true (is_in z (removed y xs))))
  | inr ne ↦ ap (λ (b : Bool). b || g z) (sym (removed_others y z xs (ne_eqb z y ne)))
]

-- a number that is not below n, or passes the other test too, is one too many
crowded : (xs : List ℕ) (g : ℕ → Bool) (n most y : ℕ) → is_in y xs ≡ true → many g 0 n ≤ most → (y < n → g y ≡ true) → many (λ z. is_in z xs || g z) 0 n + 1 ≤ length xs + most
crowded xs g n most y there few also =
    let same : numbers_where (λ z. is_in z xs || g z) 0 n ≡ numbers_where (λ z. is_in z (removed y xs) || g z) 0 n = where_same (λ z. is_in z xs || g z) (λ z. is_in z (removed y xs) || g z) 0 n (λ z low high. in_removed y z n xs g also there (omega (arith, high))) in
    omega (arith, few, ap (λ (l : List ℕ). length l) same, many_or (λ z. is_in z (removed y xs)) g 0 n, many_in (removed y xs) 0 n, removed_count y xs there)

-- if none is too many
pub record Alone (xs : List ℕ) (g : ℕ → Bool) (n : ℕ) : Type 0 where
  pub below : (y : ℕ) → is_in y xs ≡ true → y < n
  pub only : (y : ℕ) → is_in y xs ≡ true → g y ≡ false

alone : (xs : List ℕ) (g : ℕ → Bool) (n most : ℕ) → many g 0 n ≤ most → many (λ z. is_in z xs || g z) 0 n ≡ length xs + most → Alone xs g n
alone xs g n most few all = record {
  below = λ y there. elim (cases_lt y n) [
    | inl lt ↦ lt
    | inr ge ↦ absurd (let h = crowded xs g n most y there few (λ lt. absurd (omega (arith, lt, ge))) in omega (arith, h, all))
  ];
  only = λ y there. elim (cases_Bool (g y)) [
    | inl also ↦ absurd (let h = crowded xs g n most y there few (λ lt. also) in omega (arith, h, all))
    | inr e ↦ e
  ];
}

-- ---- three lists

few_either : (xs ys : List ℕ) (n : ℕ) → many (λ y. is_in y xs || is_in y ys) 0 n ≤ length xs + length ys
few_either xs ys n = omega (arith, many_or (λ y. is_in y xs) (λ y. is_in y ys) 0 n, many_in xs 0 n, many_in ys 0 n)

group_first : (a b c : Bool) → (a || b || c) ≡ (a || (b || c))
group_first true b c = refl
group_first false b c = refl

group_second : (a b c : Bool) → (a || b || c) ≡ (b || (a || c))
group_second true true c = refl
group_second true false c = refl
group_second false b c = refl

group_third : (a b c : Bool) → (a || b || c) ≡ (c || (a || b))
group_third true b true = refl
group_third true b false = refl
group_third false true true = refl
group_third false true false = refl
group_third false false true = refl
group_third false false false = refl

or_first : (a b : Bool) → (a || b) ≡ false → a ≡ false
or_first true b e = absurd cc
or_first false b e = refl

or_second : (a b : Bool) → (a || b) ≡ false → b ≡ false
or_second true b e = absurd cc
or_second false b e = e

abbrev pub any_of : List ℕ → List ℕ → List ℕ → ℕ → Bool
any_of xs ys zs y = is_in y xs || is_in y ys || is_in y zs

first_alone : (xs ys zs : List ℕ) (n : ℕ) → many (any_of xs ys zs) 0 n ≡ length xs + length ys + length zs → Alone xs (λ y. is_in y ys || is_in y zs) n
first_alone xs ys zs n all =
    alone xs (λ y. is_in y ys || is_in y zs) n (length ys + length zs) (few_either ys zs n)
    (omega (arith, all, many_same (any_of xs ys zs) (λ y. is_in y xs || (is_in y ys || is_in y zs)) 0 n (λ y. group_first (is_in y xs) (is_in y ys) (is_in y zs))))

second_alone : (xs ys zs : List ℕ) (n : ℕ) → many (any_of xs ys zs) 0 n ≡ length xs + length ys + length zs → Alone ys (λ y. is_in y xs || is_in y zs) n
second_alone xs ys zs n all =
    alone ys (λ y. is_in y xs || is_in y zs) n (length xs + length zs) (few_either xs zs n)
    (omega (arith, all, many_same (any_of xs ys zs) (λ y. is_in y ys || (is_in y xs || is_in y zs)) 0 n (λ y. group_second (is_in y xs) (is_in y ys) (is_in y zs))))

third_alone : (xs ys zs : List ℕ) (n : ℕ) → many (any_of xs ys zs) 0 n ≡ length xs + length ys + length zs → Alone zs (λ y. is_in y xs || is_in y ys) n
third_alone xs ys zs n all =
    alone zs (λ y. is_in y xs || is_in y ys) n (length xs + length ys) (few_either xs ys n)
    (omega (arith, all, many_same (any_of xs ys zs) (λ y. is_in y zs || (is_in y xs || is_in y ys)) 0 n (λ y. group_third (is_in y xs) (is_in y ys) (is_in y zs))))

pub apart_of : (xs ys zs : List ℕ) (n : ℕ) → Ascends 0 xs → Ascends 0 ys → Ascends 0 zs → many (any_of xs ys zs) 0 n ≡ length xs + length ys + length zs → AreApart xs ys zs
apart_of xs ys zs n up_xs up_ys up_zs all =
    let a = first_alone xs ys zs n all in
    let b = second_alone xs ys zs n all in
    record {
      copied_ascend = up_xs;
      inside_ascend = up_ys;
      residuals_ascend = up_zs;
      copied_inside = λ y there. or_first (is_in y ys) (is_in y zs) (a.only y there);
      copied_residuals = λ y there. or_second (is_in y ys) (is_in y zs) (a.only y there);
      inside_residuals = λ y there. or_second (is_in y xs) (is_in y zs) (b.only y there);
    }

-- ---- the members of a union

in_with : (z x : ℕ) (ys : List ℕ) → is_in z (with_number x ys) ≡ (eqb z x || is_in z ys)
in_with z x [] = refl
in_with z x (y ∷ ys) = elim (cases_lt x y) [
  | inl lt ↦ rw (lt-ltb x y lt) refl
  | inr ge ↦ elim (cases_eq x y) [
    | inl e ↦ rw (le-ltb x y ge, eq-eqb x y e) (twice (eqb z x) (eqb z y) (is_in z ys) (ap (eqb z) e))
    | inr ne ↦ rw (le-ltb x y ge, ne_eqb x y ne) (ap (λ (b : Bool). eqb z y || b) (in_with z x ys) ∙ swapped (eqb z y) (eqb z x) (is_in z ys))
  ]
]
  where
    twice : (a b c : Bool) → a ≡ b → (b || c) ≡ (a || (b || c))
    twice true true c e = refl
    twice true false c e = absurd cc
    twice false b c e = refl

    swapped : (a b c : Bool) → (a || (b || c)) ≡ (b || (a || c))
    swapped true true c = refl
    swapped true false c = refl
    swapped false b c = refl

pub in_union : (z : ℕ) (xs ys : List ℕ) → is_in z (union_of xs ys) ≡ (is_in z xs || is_in z ys)
in_union z [] ys = refl
in_union z (x ∷ xs) ys = in_with z x (union_of xs ys) ∙ ap (λ (b : Bool). eqb z x || b) (in_union z xs ys) ∙ sym (group_first (eqb z x) (is_in z xs) (is_in z ys))

below_of : (n : ℕ) (xs : List ℕ) → ((y : ℕ) → is_in y xs ≡ true → y < n) → Below n xs
below_of n [] h = tt
below_of n (x ∷ xs) h = (h x (rw (eq-eqb x x refl) refl), below_of n xs (λ y there. h y (later y x xs there)))
  where
    later : (y x : ℕ) (xs : List ℕ) → is_in y xs ≡ true → is_in y (x ∷ xs) ≡ true
    later y x xs there = ap (λ (b : Bool). eqb y x || b) there ∙ or_true (eqb y x)

or_cases : (a b c : Bool) → (a || b || c) ≡ true → {X : Type 0} → (a ≡ true → X) → (b ≡ true → X) → (c ≡ true → X) → X
or_cases true b c e f g h = f refl
or_cases false true c e f g h = g refl
or_cases false false true e f g h = h refl
or_cases false false false e f g h = absurd cc

-- an ascending list of the numbers of all three
all_is : (u xs ys zs : List ℕ) (n : ℕ) → Ascends 0 u → ((y : ℕ) → is_in y u ≡ any_of xs ys zs y) → many (any_of xs ys zs) 0 n ≡ length xs + length ys + length zs → u ≡ numbers_where (any_of xs ys zs) 0 n
all_is u xs ys zs n up members all =
    let a = first_alone xs ys zs n all in
    let b = second_alone xs ys zs n all in
    let c = third_alone xs ys zs n all in
    let low : Below (0 + n) u = below_of (0 + n) u (λ y there. let lt : y < n = or_cases (is_in y xs) (is_in y ys) (is_in y zs) (sym (members y) ∙ there) (a.below y) (b.below y) (c.below y) in omega (arith, lt)) in
    ascending_is 0 n u up low ∙ where_same (λ y. is_in y u) (any_of xs ys zs) 0 n (λ y low high. members y)

-- their union is the ascending list of the numbers of all three
pub union_is : (xs ys zs : List ℕ) (n : ℕ) → Ascends 0 xs → Ascends 0 ys → Ascends 0 zs → many (any_of xs ys zs) 0 n ≡ length xs + length ys + length zs → union_of xs (union_of ys zs) ≡ numbers_where (any_of xs ys zs) 0 n
union_is xs ys zs n up_xs up_ys up_zs all =
    all_is (union_of xs (union_of ys zs)) xs ys zs n (union_ascends 0 xs (union_of ys zs) up_xs (union_ascends 0 ys zs up_ys up_zs))
    (λ y. in_union y xs (union_of ys zs) ∙ ap (λ (b : Bool). is_in y xs || b) (in_union y ys zs) ∙ sym (group_first (is_in y xs) (is_in y ys) (is_in y zs))) all

-- if the first two are joined first, the union is the ascending list of the numbers of all three, too
joined_is : (xs ys zs : List ℕ) (n : ℕ) → Ascends 0 xs → Ascends 0 ys → Ascends 0 zs → many (any_of xs ys zs) 0 n ≡ length xs + length ys + length zs → union_of (union_of xs ys) zs ≡ numbers_where (any_of xs ys zs) 0 n
joined_is xs ys zs n up_xs up_ys up_zs all =
    all_is (union_of (union_of xs ys) zs) xs ys zs n (union_ascends 0 (union_of xs ys) zs (union_ascends 0 xs ys up_xs up_ys) up_zs)
    (λ y. in_union y (union_of xs ys) zs ∙ ap (λ (b : Bool). b || is_in y zs) (in_union y xs ys)) all

-- ---- the three of a record

pub intervals_stand : (page least : ℕ) (past : Option ℕ) (ls ns : List ℕ) (z behind : List Bool) → IntervalsTo page least past ls ns z behind → StandAt page least past ls ns z
intervals_stand page least past [] [] z behind h = tt
intervals_stand page least past [] (n ∷ ns) z behind h = absurd h
intervals_stand page least past (l ∷ ls) [] z behind h = absurd h
intervals_stand page least past (l ∷ ls) (n ∷ ns) z behind h = (h.0, h.1, intervals_stand page least (Some (l + n)) ls ns h.0 behind h.2)

later_above : (last v y : ℕ) → Some (last + 1 + v) ≡ Some y → suc last ≤ y
later_above last v y is = let e : last + 1 + v ≡ y = ap value_or_0 is in omega (arith, e)

later_residuals : (c : Code) (page last : ℕ) (ys : List ℕ) (z behind : List Bool) → ResidualsTo c page (Some last) ys z behind → Ascends (suc last) ys
later_residuals c page last [] z behind h = tt
later_residuals c page last (y ∷ ys) z behind h = (later_above last h.1.v y h.1.means, later_residuals c page y ys h.0 behind h.2)

pub residuals_ascend : (c : Code) (page : ℕ) (ys : List ℕ) (z behind : List Bool) → ResidualsTo c page None ys z behind → Ascends 0 ys
residuals_ascend c page [] z behind h = tt
residuals_ascend c page (y ∷ ys) z behind h = (omega arith, later_residuals c page y ys h.0 behind h.2)

pub copied_ascend : (bs list : List ℕ) → Ascends 0 list → Ascends 0 (copied_members bs list)
unfolding copied_members
copied_ascend bs list up = ascends-at_positions (is_copied bs) 0 0 list up

covered_in : (y : ℕ) (ls ns : List ℕ) → is_covered ls ns y ≡ is_in y (numbers_inside ls ns)
covered_in y [] ns = refl
covered_in y (l ∷ ls) [] = refl
covered_in y (l ∷ ls) (n ∷ ns) = ap (λ (b : Bool). (leb l y && ltb y (l + n)) || b) (covered_in y ls ns) ∙ ap (λ (b : Bool). b || is_in y (numbers_inside ls ns)) (sym (in_range y l n)) ∙ sym (in_append y (range_with_len l n) (numbers_inside ls ns))

pub inside_count : (page least : ℕ) (past : Option ℕ) (ls ns : List ℕ) (z behind : List Bool) → IntervalsTo page least past ls ns z behind → length (numbers_inside ls ns) ≡ sum ns
inside_count page least past [] [] z behind h = refl
inside_count page least past [] (n ∷ ns) z behind h = absurd h
inside_count page least past (l ∷ ls) [] z behind h = absurd h
inside_count page least past (l ∷ ls) (n ∷ ns) z behind h =
    omega (arith, length-append (range_with_len l n) (numbers_inside ls ns), length-range_with_len l n, inside_count page least (Some (l + n)) ls ns h.0 behind h.2, sum_cons n ns)

-- the list of the record, and its parts
pub record Parts (xs ys zs list : List ℕ) : Type 0 where
  pub apart : AreApart xs ys zs
  pub union : union_of xs (union_of ys zs) ≡ list
  pub joined : union_of (union_of xs ys) zs ≡ list

pub parts_of : (page least d n : ℕ) (copied ls ns residuals list : List ℕ) (c : Code) (z behind end : List Bool) → Ascends 0 copied → IntervalsTo page least None ls ns z behind → ResidualsTo c page None residuals behind end → length copied ≤ d → sum ns ≤ d - length copied → length residuals ≡ d - length copied - sum ns
    → list ≡ numbers_where (λ y. is_in y copied || is_covered ls ns y || is_in y residuals) 0 n → length list ≡ d → Parts copied (numbers_inside ls ns) residuals list
parts_of page least d n copied ls ns residuals list c z behind end up inside left fit_copied fit_inside fill members all =
    let same : numbers_where (λ y. is_in y copied || is_covered ls ns y || is_in y residuals) 0 n ≡ numbers_where (any_of copied (numbers_inside ls ns) residuals) 0 n =
    where_same (λ y. is_in y copied || is_covered ls ns y || is_in y residuals) (any_of copied (numbers_inside ls ns) residuals) 0 n (λ y low high. ap (λ (b : Bool). is_in y copied || b || is_in y residuals) (covered_in y ls ns)) in
    let list_is : list ≡ numbers_where (any_of copied (numbers_inside ls ns) residuals) 0 n = members ∙ same in
    let up_inside : Ascends 0 (numbers_inside ls ns) = inside_ascend page least ls ns z (intervals_stand page least None ls ns z behind inside) in
    let up_residuals : Ascends 0 residuals = residuals_ascend c page residuals behind end left in
    let count : many (any_of copied (numbers_inside ls ns) residuals) 0 n ≡ length copied + length (numbers_inside ls ns) + length residuals =
    omega (arith, ap (λ (l : List ℕ). length l) list_is, all, fit_copied, fit_inside, fill, inside_count page least None ls ns z behind inside) in
    record {
      apart = apart_of copied (numbers_inside ls ns) residuals n up up_inside up_residuals count;
      union = union_is copied (numbers_inside ls ns) residuals n up up_inside up_residuals count ∙ sym list_is;
      joined = joined_is copied (numbers_inside ls ns) residuals n up up_inside up_residuals count ∙ sym list_is;
    }
