-- A list and the list that it refers to, gone along together.
use Rattle.std.proofs.Common.{◌≡◌, ℕ, suc, ◌+◌, ◌<◌, ◌≤◌, Bool, true, false, not, cond, List, [], ◌∷◌, ◌++◌, refl, sym, ap, subst, ◌∙◌, inl, inr, arith}
use Rattle.std.proofs.lemmas.Bool.{cases_lt, cond-true, cond-false, not_from_true, not_from_false, eqb-false}
use Rattle.wg_graph.specs.Numbers.{is_in, begins_with}
use Rattle.wg_graph.specs.Ascending.{Ascends, Below}
use Rattle.wg_graph.proofs.Sets.{ascends_more, in_below, in_tail, in_head}
use Rattle.wg_blocks.specs.Canonical.{mask_of}
use Rattle.wg_encoder.specs.declared.blocks.BlockTally.{BlockTally}
use Rattle.wg_encoder.specs.declared.extras.ExtraTally.{ExtraTally}
use Rattle.wg_greedy.specs.Fields.{extras}
use Rattle.wg_encoder.specs.Cost.{room_after}
use Rattle.wg_encoder.specs.Dues.{block_dues, extra_dues, MayCome}
use Rattle.wg_greedy.proofs.Extra.{ascends-filter}
use Rattle.wg_encoder.proofs.Rooms.{after_both, swapped, none_left, same_behind, same_before}

-- ---- one member

-- one below all that are referred to is not copied
pub first_extra : (x number : ℕ) (more rest : List ℕ) → x < number → Ascends number rest → extras (x ∷ more) rest ≡ x ∷ extras more rest
first_extra x number more rest lt up = cond-true (not (is_in x rest)) (x ∷ extras more rest) (extras more rest) (not_from_false _ (in_below number x rest up lt))

pub extras_above : (x : ℕ) (more rest : List ℕ) → Ascends (suc x) more → Ascends (x + 1) (extras more rest)
extras_above x more rest up = ascends-filter (λ y. not (is_in y rest)) (x + 1) more (subst (λ n. Ascends n more) (let e : suc x ≡ x + 1 = omega arith in e) up)

-- what is not below n is masked alike by lists that have the same members there
mask_same : (n : ℕ) (xs zs rest : List ℕ) → ((z : ℕ) → n ≤ z → is_in z xs ≡ is_in z zs) → Ascends n rest → mask_of xs rest ≡ mask_of zs rest
mask_same n xs zs [] same up = refl
mask_same n xs zs (r ∷ rest) same up = (λ i. same r up.0 i ∷ mask_same n xs zs rest same (ascends_more n (suc r) rest (omega (arith, up.0)) up.1) i)

-- for numbers above y it is nothing whether y is referred to
extras_past : (y : ℕ) (more rest : List ℕ) → Ascends (suc y) more → extras more (y ∷ rest) ≡ extras more rest
extras_past y [] rest up = refl
extras_past y (x ∷ more) rest up =
    let later : extras more (y ∷ rest) ≡ extras more rest = extras_past y more rest (ascends_more (suc y) (suc x) more (omega (arith, up.0)) up.1) in
    (λ i. cond (not (in_tail y x rest up.0 i)) (x ∷ later i) (later i))

-- the member y that is referred to is passed in both lists
pub record Passed (y : ℕ) (members new rest : List ℕ) (copied : Bool) : Type 0 where
  pub mask : mask_of members (y ∷ rest) ≡ copied ∷ mask_of new rest
  pub others : extras members (y ∷ rest) ≡ extras new rest

after_first : (y : ℕ) (xs : List ℕ) → Ascends y xs → begins_with y xs ≡ false → Ascends (suc y) xs
after_first y [] up other = tt
after_first y (x ∷ xs) up other = (let apart = eqb-false x y other in omega (arith, apart, up.0), up.1)

pub passed : (y : ℕ) (members new rest : List ℕ) (copied : Bool) → Ascends y members → copied ≡ begins_with y members → members ≡ cond copied (y ∷ new) new → Ascends (suc y) rest → Passed y members new rest copied
passed y members new rest true up told past later =
    let above : Ascends (suc y) new = (let both : Ascends y (y ∷ new) = subst (Ascends y) past up in both.1) in
    record {
      mask = ap (λ xs. mask_of xs (y ∷ rest)) past ∙ (λ i. in_head y new i ∷ mask_same (suc y) (y ∷ new) new rest (λ z le. in_tail y z new le) later i);
      others = ap (λ xs. extras xs (y ∷ rest)) past ∙ cond-false (not (is_in y (y ∷ rest))) (y ∷ extras new (y ∷ rest)) (extras new (y ∷ rest)) (not_from_true _ (in_head y rest)) ∙ extras_past y new rest above;
    }
passed y members new rest false up told past later =
    let above : Ascends (suc y) new = after_first y new (subst (Ascends y) past up) (sym (told ∙ ap (begins_with y) past)) in
    record {
      mask = ap (λ xs. mask_of xs (y ∷ rest)) past ∙ ap (λ b. b ∷ mask_of new rest) (in_below (suc y) y new above (omega arith));
      others = ap (λ xs. extras xs (y ∷ rest)) past ∙ extras_past y new rest above;
    }

-- what may come may come if the first member is passed
pub come_past : (t : ExtraTally) (y : ℕ) (members new : List ℕ) (copied : Bool) → members ≡ cond copied (y ∷ new) new → MayCome t members → MayCome t new
come_past t y members new false past come = subst (MayCome t) past come
come_past t y members new true past come =
    let first : MayCome t (y ∷ new) = subst (MayCome t) past come in
    record {
      ready = first.ready;
      few = first.few;
      end = first.end;
      up = ascends_more (t.run.left + t.run.length) (suc y) new (let low : t.run.left + t.run.length ≤ y = first.up.0 in omega arith) first.up.1;
      low = first.low.1;
    }

-- ---- what is still to come of both

-- the extras below a number are behind
pub below_moved : (number room left : ℕ) (b : BlockTally) (t new : ExtraTally) (members more rest : List ℕ) → Ascends number rest → ((y : ℕ) → number ≤ y → is_in y more ≡ is_in y members)
    → ((rs : List ℕ) → Ascends number rs → room_after left (extra_dues new (extras more rs)) ≡ room_after room (extra_dues t (extras members rs)))
    → room_after left (block_dues b (mask_of more rest) ++ extra_dues new (extras more rest)) ≡ room_after room (block_dues b (mask_of members rest) ++ extra_dues t (extras members rest))
below_moved number room left b t new members more rest up same paid =
    ap (λ mask. room_after left (block_dues b mask ++ extra_dues new (extras more rest))) (mask_same number more members rest same up)
    ∙ same_behind left room (block_dues b (mask_of members rest)) (extra_dues new (extras more rest)) (extra_dues t (extras members rest)) (paid rest up)

-- so is the next member that is referred to
pub member_moved : (y room left : ℕ) (b new : BlockTally) (t : ExtraTally) (members more rest : List ℕ) (copied : Bool) → Passed y members more rest copied
    → ((mask : List Bool) → room_after left (block_dues new mask) ≡ room_after room (block_dues b (copied ∷ mask)))
    → room_after left (block_dues new (mask_of more rest) ++ extra_dues t (extras more rest)) ≡ room_after room (block_dues b (mask_of members (y ∷ rest)) ++ extra_dues t (extras members (y ∷ rest)))
member_moved y room left b new t members more rest copied p paid =
    same_before left room (block_dues new (mask_of more rest)) (block_dues b (copied ∷ mask_of more rest)) (extra_dues t (extras more rest)) (paid (mask_of more rest))
    ∙ sym (λ i. room_after room (block_dues b (p.mask i) ++ extra_dues t (p.others i)))

none_high : (n : ℕ) (xs : List ℕ) → Ascends n xs → Below n xs → xs ≡ []
none_high n [] up low = refl
none_high n (x ∷ xs) up low = absurd (let a : n ≤ x = up.0 in let b : x < n = low.0 in omega arith)

-- at the end of both lists
pub both_ended : (high room first last : ℕ) (b : BlockTally) (t : ExtraTally) (members : List ℕ) → (0 < room → Ascends high members) → Below high members → first ≡ room_after room (extra_dues t []) → last ≡ room_after first (block_dues b [])
    → last ≡ room_after room (block_dues b [] ++ extra_dues t (extras members []))
both_ended high room first last b t members up low others blocks =
    blocks ∙ ap (λ n. room_after n (block_dues b [])) others ∙ swapped room (extra_dues t []) (block_dues b []) ∙ sym (after_both room (block_dues b []) (extra_dues t []))
    ∙ elim (cases_lt 0 room) [
      | inl some ↦ ap (λ xs. room_after room (block_dues b [] ++ extra_dues t (extras xs []))) (sym (none_high high members (up some) low))
      | inr none ↦ let nothing : room ≡ 0 = omega arith in
          ap (λ n. room_after n (block_dues b [] ++ extra_dues t [])) nothing ∙ none_left (block_dues b [] ++ extra_dues t [])
          ∙ sym (ap (λ n. room_after n (block_dues b [] ++ extra_dues t (extras members []))) nothing ∙ none_left (block_dues b [] ++ extra_dues t (extras members [])))
    ]
