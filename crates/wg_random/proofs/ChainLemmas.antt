-- A chain of references that is followed.
use Rattle.std.proofs.Common.{◌≡◌, ℕ, zero, suc, ◌+◌, ◌-◌, ◌<◌, ◌≤◌, Bool, inl, inr, List, [], ◌∷◌, ◌++◌, length, Some, None, refl, sym, ap, subst, ◌∙◌, arith}
use Rattle.std.specs.Prelude.{get_or, set}
use Rattle.std.proofs.lemmas.Bool.{cases_lt}
use Rattle.std.proofs.lemmas.List.{length-set, length-append, get_or-set_same, get_or-set_other, get_or_append_left, get_or-append_right}
use Rattle.wg_params.specs.Parameters.{Parameters}
use Rattle.wg_grammar.specs.Record.{Whole}
use Rattle.wg_stream.specs.AllRecords.{known_at}
use Rattle.wg_random.specs.Chain.{ArePages, Fall, Leads, Link, Going, Ended}
use Rattle.wg_stream.specs.References.{StandsOn, Refers}

module _ (p : Parameters) (bits : List Bool) (ws : List Whole) where
  pub ended_of : (chain : List ℕ) (x page depth : ℕ) → Leads p bits ws page None → Going p bits ws chain x page depth → Ended p bits ws chain x depth
  ended_of chain x page depth none g = record {
    first = g.first;
    links = g.links;
    bottom = λ lt. subst (λ (k : ℕ). StandsOn p bits ws k None) (sym (g.here lt)) none.0;
    deep = omega (arith, g.deep, none.1);
  }

  pub no_link : (page back : ℕ) → back ≡ 0 → Refers p bits ws page back → Leads p bits ws page None
  no_link page back none h =
      let at_end : Refers p bits ws page 0 = subst (λ (k : ℕ). Refers p bits ws page k) none h in
      (at_end.proper, at_end.depth)

  pub link_of : (page back : ℕ) → 0 < back → Refers p bits ws page back → Link p bits ws page (page - back)
  link_of page zero some h = absurd (omega (arith, some))
  link_of page (suc b) some h = record { proper = h.proper; depth = h.depth }

  -- one reference more; the chain keeps the page if it has room
  going_on : (chain new : List ℕ) (x page depth below : ℕ) → Link p bits ws page below → ((i : ℕ) → i ≤ depth → i < length new → i < length chain)
      → ((i : ℕ) → i ≤ depth → i < length new → get_or new i 0 ≡ get_or chain i 0) → (depth + 1 < length new → get_or new (depth + 1) 0 ≡ below)
      → Going p bits ws chain x page depth → 0 < length new → Going p bits ws new x below (depth + 1)
  going_on chain new x page depth below link keeps same put g there = record {
    first = same 0 (omega arith) there ∙ g.first;
    links = λ i lt near. elim (cases_lt i depth) [
      | inl less ↦
          let l : Link p bits ws (get_or chain i 0) (get_or chain (suc i) 0) = g.links i less (keeps (suc i) (omega (arith, less)) near) in
          let one = subst (λ (k : ℕ). Link p bits ws (get_or chain i 0) k) (sym (same (suc i) (omega (arith, less)) near)) l in
          subst (λ (k : ℕ). Link p bits ws k (get_or new (suc i) 0)) (sym (same i (omega (arith, less)) (omega (arith, near)))) one
      | inr ge ↦
          let e : i ≡ depth = omega (arith, lt, ge) in
          let kept : depth < length chain = keeps depth (omega arith) (omega (arith, near, e)) in
          let here : get_or new i 0 ≡ page = same i (omega (arith, e)) (omega (arith, near)) ∙ ap (λ (k : ℕ). get_or chain k 0) e ∙ g.here kept in
          let place : suc i ≡ depth + 1 = omega (arith, e) in
          let next : get_or new (suc i) 0 ≡ below = ap (λ (k : ℕ). get_or new k 0) place ∙ put (omega (arith, near, e)) in
          subst (λ (k : ℕ). Link p bits ws k (get_or new (suc i) 0)) (sym here) (subst (λ (k : ℕ). Link p bits ws page k) (sym next) link)
    ];
    here = put;
    deep = omega (arith, g.deep, link.depth);
  }

  -- the next page up
  pub next_up : (chain list : List ℕ) (x depth left : ℕ) → 0 < left → left ≤ depth → depth < length chain → list ≡ (known_at ws (get_or chain left 0)).list
      → Ended p bits ws chain x depth → StandsOn p bits ws (get_or chain (left - 1) 0) (Some list)
  next_up chain list x depth left some le near is h =
      let place : suc (left - 1) ≡ left = omega (arith, some) in
      let l : Link p bits ws (get_or chain (left - 1) 0) (get_or chain (suc (left - 1)) 0) = h.links (left - 1) (omega (arith, some, le)) (omega (arith, le, near, place)) in
      let same : (known_at ws (get_or chain (suc (left - 1)) 0)).list ≡ list = ap (λ (k : ℕ). (known_at ws (get_or chain k 0)).list) place ∙ sym is in
      subst (λ (xs : List ℕ). StandsOn p bits ws (get_or chain (left - 1) 0) (Some xs)) same l.proper

-- ---- a chain of a fixed length

pub set_before : (chain : List ℕ) (depth v i : ℕ) → i ≤ depth → get_or (set chain (depth + 1) v) i 0 ≡ get_or chain i 0
set_before chain depth v i le = get_or-set_other chain (depth + 1) i v 0 (λ e. omega (arith, e, le))

pub set_here : (chain : List ℕ) (depth v : ℕ) → depth + 1 < length chain → get_or (set chain (depth + 1) v) (depth + 1) 0 ≡ v
set_here chain depth v lt = get_or-set_same chain (depth + 1) v 0 lt

pub set_pages : (chain : List ℕ) (n depth v : ℕ) → depth + 1 < length chain → v < n → ArePages n chain depth → ArePages n (set chain (depth + 1) v) (depth + 1)
set_pages chain n depth v lt low pages i le near =
    elim (cases_lt depth i) [
      | inl past ↦ let e : depth + 1 ≡ i = omega (arith, past, le) in subst (λ (k : ℕ). get_or (set chain (depth + 1) v) k 0 < n) e (omega (arith, set_here chain depth v lt, low))
      | inr before ↦ omega (arith, set_before chain depth v i before, pages i before (omega (arith, near, length-set chain (depth + 1) v)))
    ]

pub set_going : (p : Parameters) (bits : List Bool) (ws : List Whole) (chain : List ℕ) (x page depth below : ℕ) → Link p bits ws page below → depth + 1 < length chain
    → Going p bits ws chain x page depth → Going p bits ws (set chain (depth + 1) below) x below (depth + 1)
set_going p bits ws chain x page depth below link lt g =
    let len : length (set chain (depth + 1) below) ≡ length chain = length-set chain (depth + 1) below in
    going_on p bits ws chain (set chain (depth + 1) below) x page depth below link
    (λ i le near. omega (arith, near, len))
    (λ i le near. set_before chain depth below i le)
    (λ near. set_here chain depth below lt)
    g (omega (arith, lt, len))

-- if it has no room, it stays
pub full_going : (p : Parameters) (bits : List Bool) (ws : List Whole) (chain : List ℕ) (x page depth below : ℕ) → Link p bits ws page below → length chain ≤ depth + 1
    → 0 < length chain → Going p bits ws chain x page depth → Going p bits ws chain x below (depth + 1)
full_going p bits ws chain x page depth below link full there g =
    going_on p bits ws chain chain x page depth below link (λ i le near. near) (λ i le near. refl) (λ near. absurd (omega (arith, near, full))) g there

-- ---- a chain that grows

-- what a list is that one number was added to
pub pushed_length : (chain new : List ℕ) (v : ℕ) → new ≡ chain ++ v ∷ [] → length new ≡ length chain + 1
pushed_length chain new v is = omega (arith, ap (λ (l : List ℕ). length l) is, length-append chain (v ∷ []))

push_before : (chain : List ℕ) (v i : ℕ) → i < length chain → get_or (chain ++ v ∷ []) i 0 ≡ get_or chain i 0
push_before chain v i lt = get_or_append_left chain (v ∷ []) 0 i lt

push_here : (chain : List ℕ) (depth v : ℕ) → length chain ≡ depth → get_or (chain ++ v ∷ []) depth 0 ≡ v
push_here chain depth v len =
    let none : depth - depth ≡ 0 = omega arith in
    get_or-append_right chain (v ∷ []) depth depth 0 len (omega arith) ∙ ap (λ (k : ℕ). get_or (v ∷ []) k 0) none

pub pushed_pages : (chain new : List ℕ) (n v : ℕ) → new ≡ chain ++ v ∷ [] → 0 < length chain → v < n → ArePages n chain (length chain - 1) → ArePages n new (length new - 1)
pushed_pages chain new n v is some low pages i le near =
    let len : length new ≡ length chain + 1 = pushed_length chain new v is in
    let same : get_or new i 0 ≡ get_or (chain ++ v ∷ []) i 0 = ap (λ (l : List ℕ). get_or l i 0) is in
    elim (cases_lt i (length chain)) [
      | inl before ↦ omega (arith, same, push_before chain v i before, pages i (omega (arith, before)) before)
      | inr past ↦ let e : length chain ≡ i = omega (arith, past, near, len) in omega (arith, same, push_here chain i v e, low)
    ]

-- one page alone
pub one_are_pages : (chain : List ℕ) (n x : ℕ) → chain ≡ x ∷ [] → x < n → ArePages n chain (length chain - 1)
one_are_pages chain n x is low = subst (λ (l : List ℕ). ArePages n l (length l - 1)) (sym is) only
  where
    only : ArePages n (x ∷ []) 0
    only zero le near = low
    only (suc i) le near = absurd (omega (arith, near))

pub one_falls : (chain : List ℕ) (x : ℕ) → chain ≡ x ∷ [] → Fall chain
one_falls chain x is i near = absurd (omega (arith, near, ap (λ (l : List ℕ). length l) is))

pub pushed_fall : (chain new : List ℕ) (page v : ℕ) → new ≡ chain ++ v ∷ [] → 0 < length chain → get_or chain (length chain - 1) 0 ≡ page → v < page → Fall chain → Fall new
pushed_fall chain new page v is some here low falls i near =
    let len : length new ≡ length chain + 1 = pushed_length chain new v is in
    let same : get_or new i 0 ≡ get_or chain i 0 = ap (λ (l : List ℕ). get_or l i 0) is ∙ push_before chain v i (omega (arith, near, len)) in
    let next : get_or new (suc i) 0 ≡ get_or (chain ++ v ∷ []) (suc i) 0 = ap (λ (l : List ℕ). get_or l (suc i) 0) is in
    elim (cases_lt (suc i) (length chain)) [
      | inl before ↦ omega (arith, same, next, push_before chain v (suc i) before, falls i before)
      | inr past ↦
          let e : length chain ≡ suc i = omega (arith, past, near, len) in
          let last : i ≡ length chain - 1 = omega (arith, e) in
          omega (arith, same, next, push_here chain (suc i) v e, ap (λ (k : ℕ). get_or chain k 0) last, here, low)
    ]

pub pushed_going : (p : Parameters) (bits : List Bool) (ws : List Whole) (chain new : List ℕ) (x page below : ℕ) → new ≡ chain ++ below ∷ [] → 0 < length chain
    → Link p bits ws page below → Going p bits ws chain x page (length chain - 1) → Going p bits ws new x below (length new - 1)
pushed_going p bits ws chain new x page below is there link g =
    let len : length new ≡ length chain + 1 = pushed_length chain new below is in
    let depth : length chain - 1 + 1 ≡ length new - 1 = omega (arith, len, there) in
    let place : length chain - 1 + 1 ≡ length chain = omega (arith, there) in
    let put : get_or new (length chain - 1 + 1) 0 ≡ below =
    ap (λ (k : ℕ). get_or new k 0) place ∙ ap (λ (l : List ℕ). get_or l (length chain) 0) is ∙ push_here chain (length chain) below refl in
    subst (λ (k : ℕ). Going p bits ws new x below k) depth
    (going_on p bits ws chain new x page (length chain - 1) below link
    (λ i le near. omega (arith, le, there))
    (λ i le near. ap (λ (l : List ℕ). get_or l i 0) is ∙ push_before chain below i (omega (arith, le, there)))
    (λ near. put)
    g (omega (arith, len)))

-- a chain that has ended, as it is lent
pub ended_as : (p : Parameters) (bits : List Bool) (ws : List Whole) (chain lent : List ℕ) (x : ℕ) → lent ≡ chain → Ended p bits ws chain x (length chain - 1)
    → Ended p bits ws lent x (length lent - 1)
ended_as p bits ws chain lent x is h = subst (λ (l : List ℕ). Ended p bits ws l x (length l - 1)) (sym is) h
