-- Numbers that are joined to ascending members.
use Rattle.std.proofs.Common.{◌≡◌, ℕ, zero, suc, ◌+◌, ◌<◌, ◌≤◌, true, false, ◌||◌, inl, inr, List, [], ◌∷◌, ◌++◌, length, refl, sym, ap, subst, ◌∙◌, arith}
use Rattle.std.specs.List.{range_with_len}
use Rattle.std.proofs.lemmas.Bool.{cases_Bool, cases_lt, cases_eq, lt-ltb, le-ltb, ne_eqb, eq-eqb}
use Rattle.std.proofs.lemmas.List.{length-append, append_assoc, append-nil}
use Rattle.wg_graph.specs.Ascending.{Ascends, Below}
use Rattle.wg_graph.specs.Numbers.{is_in}
use Rattle.wg_graph.proofs.Sets.{ascends_more, in_below}
use Rattle.wg_intervals.specs.Stored.{numbers_inside}
use Rattle.wg_decoder.specs.Proper.Disjoint.{ShareNone}
use Rattle.wg_graph.specs.Unions.{with_number, union_of}
use Rattle.wg_decoder.specs.Proper.Joining.{AreJoinable, Joining}
use Rattle.wg_graph.proofs.NumberByNumber.{union_ascends, union_first, union_second}
use Rattle.wg_decoder.proofs.ProperLemmas.Disjoint.{share_head, share_tail, head_shared, tail_shared}
use Rattle.wg_decoder.proofs.ProperLemmas.Counting.{Parts, in_union}

-- ---- how many they are

with_long : (x : ℕ) (ys : List ℕ) → is_in x ys ≡ false → length (with_number x ys) ≡ suc (length ys)
with_long x [] out = refl
with_long x (y ∷ ys) out = elim (cases_lt x y) [
  | inl lt ↦ rw (lt-ltb x y lt) refl
  | inr ge ↦ elim (cases_eq x y) [
    | inl e ↦ absurd (let there : is_in x (y ∷ ys) ≡ true = rw (eq-eqb x y e) refl in let f : true ≡ false = sym there ∙ out in cc)
    | inr ne ↦ rw (le-ltb x y ge, ne_eqb x y ne) (ap (λ (k : ℕ). suc k) (with_long x ys (rw (ne_eqb x y ne) at out)))
  ]
]

pub union_long : (n : ℕ) (xs ys : List ℕ) → Ascends n xs → ShareNone xs ys → length (union_of xs ys) ≡ length xs + length ys
union_long n [] ys up apart = omega arith
union_long n (x ∷ xs) ys up apart =
    let out : is_in x (union_of xs ys) ≡ false = rw (in_union x xs ys, in_below (suc x) x xs up.1 (omega arith), share_head x xs ys apart) refl in
    let more : length (union_of (x ∷ xs) ys) ≡ suc (length (union_of xs ys)) = with_long x (union_of xs ys) out in
    omega (arith, more, union_long (suc x) xs ys up.1 (share_tail x xs ys apart))

pub joined_long : (xs ys : List ℕ) → AreJoinable xs ys → length (union_of xs ys) ≡ length xs + length ys
joined_long xs ys h = union_long 0 xs ys h.members_ascend h.apart

pub all_fit : (row u : List ℕ) (room : ℕ) → length row + length u ≤ room → length (row ++ u) ≤ room
all_fit row u room le = omega (arith, le, length-append row u)

-- ---- members that are below all others

first_joined : (all row left others : List ℕ) (x bound : ℕ) → x < bound → Ascends bound others → Joining all row (x ∷ left) others → Joining all (row ++ x ∷ []) left others
first_joined all row left others x bound lt up h =
    let first : union_of (x ∷ left) others ≡ x ∷ union_of left others = union_first x left others h.joinable.members_ascend.1 (ascends_more (suc x) bound others (omega (arith, lt)) up) in
    record {
      joinable = record {
        members_ascend = ascends_more 0 (suc x) left (omega arith) h.joinable.members_ascend.1;
        others_ascend = h.joinable.others_ascend;
        apart = share_tail x left others h.joinable.apart;
      };
      list = append_assoc row (x ∷ []) (union_of left others) ∙ ap (λ (l : List ℕ). row ++ l) (sym first) ∙ h.list;
    }

below_joined : (taken all row left others : List ℕ) (bound : ℕ) → Below bound taken → Ascends bound others → Joining all row (taken ++ left) others → Joining all (row ++ taken) left others
below_joined [] all row left others bound low up h = subst (λ (r : List ℕ). Joining all r left others) (sym (append-nil row)) h
below_joined (x ∷ taken) all row left others bound low up h =
    subst (λ (r : List ℕ). Joining all r left others) (append_assoc row (x ∷ []) taken) (below_joined taken all (row ++ x ∷ []) left others bound low.1 up (first_joined all row (taken ++ left) others x bound low.0 up h))

ascends_from : (bound : ℕ) (members : List ℕ) → ((x : ℕ) (rest : List ℕ) → members ≡ x ∷ rest → bound ≤ x) → Ascends 0 members → Ascends bound members
ascends_from bound [] first up = tt
ascends_from bound (x ∷ xs) first up = (first x xs refl, up.1)

pub record Added (all new members others : List ℕ) (past : ℕ) : Type 0 where
  pub on : Joining all new members others
  pub up : Ascends past members

-- those that were taken were put behind the row, and the first one that is left is not below the bound
pub members_joined : (all row new members left others : List ℕ) (bound : ℕ) → ((taken : List ℕ) × Below bound taken × (members ≡ taken ++ left) × (new ≡ row ++ taken)) → ((x : ℕ) (rest : List ℕ) → left ≡ x ∷ rest → bound ≤ x)
    → Ascends bound others → Joining all row members others → Added all new left others bound
members_joined all row new members left others bound t first up h =
    let g = below_joined t.0 all row left others bound t.1 up (subst (λ (l : List ℕ). Joining all row l others) t.2 h) in
    record { on = subst (λ (r : List ℕ). Joining all r left others) (sym t.3) g; up = ascends_from bound left first g.joinable.members_ascend }

-- ---- another number, if no member is below it

pub given_number : (all row members coming left : List ℕ) (x : ℕ) → coming ≡ x ∷ left → Joining all row members coming → Joining all row members (x ∷ left)
given_number all row members coming left x is h = subst (λ (l : List ℕ). Joining all row members l) is h

pub given_up : (all row members left : List ℕ) (x : ℕ) → Joining all row members (x ∷ left) → Ascends x (x ∷ left)
given_up all row members left x h = (omega arith, h.joinable.others_ascend.1)

above : (y : ℕ) (xs : List ℕ) → is_in y xs ≡ false → Ascends y xs → Ascends (suc y) xs
above y [] out up = tt
above y (x ∷ xs) out up =
    let ne : y ≡ x → ⊥ = λ e. (let there : is_in y (x ∷ xs) ≡ true = rw (eq-eqb y x e) refl in let f : true ≡ false = sym there ∙ out in absurd cc) in
    (omega (arith, up.0, ne), up.1)

pub number_joined : (all row new members others : List ℕ) (y : ℕ) → Ascends y members → new ≡ row ++ y ∷ [] → Joining all row members (y ∷ others) → Added all new members others (suc y)
number_joined all row new members others y up more h =
    let past : Ascends (suc y) members = above y members (head_shared y members others h.joinable.apart) up in
    let second : union_of members (y ∷ others) ≡ y ∷ union_of members others = union_second y members others past in
    record {
      on = record {
        joinable = record {
          members_ascend = h.joinable.members_ascend;
          others_ascend = ascends_more 0 (suc y) others (omega arith) h.joinable.others_ascend.1;
          apart = tail_shared y members others h.joinable.apart;
        };
        list = ap (λ (l : List ℕ). l ++ union_of members others) more ∙ append_assoc row (y ∷ []) (union_of members others) ∙ ap (λ (l : List ℕ). row ++ l) (sym second) ∙ h.list;
      };
      up = past;
    }

-- there is room for it beside the members
pub number_fits : (all row members others : List ℕ) (y room : ℕ) → length all ≤ room → Joining all row members (y ∷ others) → length row + length members < room
number_fits all row members others y room fits h =
    omega (arith, fits, ap (λ (l : List ℕ). length l) h.list, length-append row (union_of members (y ∷ others)), joined_long members (y ∷ others) h.joinable)

-- the first number of all, before which the members that are not below it were made to wait
pub first_joins : (list front held waiting others : List ℕ) (y : ℕ) → list ≡ front ++ held → waiting ≡ held → Below y front → AreJoinable list (y ∷ others) → Joining (union_of list (y ∷ others)) front waiting (y ∷ others)
first_joins list front held waiting others y is waits low h =
    let whole : Joining (union_of list (y ∷ others)) [] (front ++ held) (y ∷ others) = record {
      joinable = subst (λ (l : List ℕ). AreJoinable l (y ∷ others)) is h;
      list = ap (λ (l : List ℕ). union_of l (y ∷ others)) (sym is);
    } in
    subst (λ (l : List ℕ). Joining (union_of list (y ∷ others)) front l (y ∷ others)) (sym waits) (below_joined front (union_of list (y ∷ others)) [] held (y ∷ others) y low (omega arith, h.others_ascend.1) whole)

pub first_joined_to : (list front held waiting others new : List ℕ) (y : ℕ) → list ≡ front ++ held → waiting ≡ held → Below y front → Ascends y held → new ≡ front ++ y ∷ [] → AreJoinable list (y ∷ others) → Joining (union_of list (y ∷ others)) new waiting others
first_joined_to list front held waiting others new y is waits low up more h =
    (number_joined (union_of list (y ∷ others)) front new waiting others y (subst (Ascends y) (sym waits) up) more (first_joins list front held waiting others y is waits low h)).on

pub none_below : (xs : List ℕ) → Below 0 xs → xs ≡ []
none_below [] low = refl
none_below (x ∷ xs) low = absurd (omega (arith, low.0))

-- ---- a run of numbers

pub run_joined : (n : ℕ) (all row members others : List ℕ) (l : ℕ) → Ascends l members → Joining all row members (range_with_len l n ++ others) → Added all (row ++ range_with_len l n) members others (l + n)
run_joined zero all row members others l up h =
    let same : l ≡ l + 0 = omega arith in
    record {
      on = subst (λ (r : List ℕ). Joining all r members others) (sym (append-nil row)) h;
      up = subst (λ (k : ℕ). Ascends k members) same up;
    }
run_joined (suc n) all row members others l up h =
    let g = number_joined all row (row ++ l ∷ []) members (range_with_len (l + 1) n ++ others) l up refl h in
    let next : suc l ≡ l + 1 = omega arith in
    let end : l + 1 + n ≡ l + suc n = omega arith in
    let r = run_joined n all (row ++ l ∷ []) members others (l + 1) (subst (λ (k : ℕ). Ascends k members) next g.up) g.on in
    record {
      on = subst (λ (k : List ℕ). Joining all k members others) (append_assoc row (l ∷ []) (range_with_len (l + 1) n)) r.on;
      up = subst (λ (k : ℕ). Ascends k members) end r.up;
    }

pub range_long : (n l : ℕ) → length (range_with_len l n) ≡ n
range_long zero l = refl
range_long (suc n) l = ap (λ (k : ℕ). suc k) (range_long n (l + 1))

pub run_fits : (all row members others : List ℕ) (l n room : ℕ) → length all ≤ room → Joining all row members (range_with_len l n ++ others) → length row + length members + n ≤ room
run_fits all row members others l n room fits h =
    omega (arith, fits, ap (λ (r : List ℕ). length r) h.list, length-append row (union_of members (range_with_len l n ++ others)), joined_long members (range_with_len l n ++ others) h.joinable, length-append (range_with_len l n) others, range_long n l)

-- ---- the end

pub union_none : (n : ℕ) (xs : List ℕ) → Ascends n xs → union_of xs [] ≡ xs
union_none n [] up = refl
union_none n (x ∷ xs) up = union_first x xs [] up.1 tt ∙ ap (λ (l : List ℕ). x ∷ l) (union_none (suc x) xs up.1)

pub rest_joined : (all row new members others : List ℕ) → others ≡ [] → new ≡ row ++ members → Joining all row members others → new ≡ all
rest_joined all row new members others none more h =
    let g : Joining all row members [] = subst (λ (l : List ℕ). Joining all row members l) none h in
    more ∙ ap (λ (l : List ℕ). row ++ l) (sym (union_none 0 members g.joinable.members_ascend)) ∙ g.list

-- no other number
pub none_joined : (row others : List ℕ) → others ≡ [] → AreJoinable row others → row ≡ union_of row others
none_joined row others none h = sym (ap (λ (l : List ℕ). union_of row l) none ∙ union_none 0 row h.members_ascend)

pub no_numbers : (lefts lengths : List ℕ) (count : ℕ) → count ≡ 0 → length lefts ≡ count → numbers_inside lefts lengths ≡ []
no_numbers [] lengths count none len = refl
no_numbers (l ∷ ls) lengths count none len = absurd (omega (arith, none, len))

-- ---- the three parts of a list

pub first_two : (xs ys zs list : List ℕ) → Parts xs ys zs list → AreJoinable xs ys
first_two xs ys zs list h = record { members_ascend = h.apart.copied_ascend; others_ascend = h.apart.inside_ascend; apart = h.apart.copied_inside }

pub with_third : (xs ys zs list : List ℕ) → Parts xs ys zs list → AreJoinable (union_of xs ys) zs
with_third xs ys zs list h = record {
  members_ascend = union_ascends 0 xs ys h.apart.copied_ascend h.apart.inside_ascend;
  others_ascend = h.apart.residuals_ascend;
  apart = λ y there. elim (cases_Bool (is_in y xs)) [
    | inl e ↦ h.apart.copied_residuals y e
    | inr e ↦ h.apart.inside_residuals y (let g : (is_in y xs || is_in y ys) ≡ true = sym (in_union y xs ys) ∙ there in rw e at g)
  ];
}
