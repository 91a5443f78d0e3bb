-- The least of three fronts is the first number of their union.
use Rattle.std.proofs.Common.{◌≡◌, ℕ, suc, true, false, List, ◌∷◌, Option, Some, None, refl, sym, ap, ◌∙◌, arith}
use Rattle.std.proofs.lemmas.Bool.{eq-eqb}
use Rattle.wg_graph.specs.Ascending.{Ascends}
use Rattle.wg_graph.specs.Numbers.{is_in}
use Rattle.wg_graph.proofs.Sets.{ascends_more}
use Rattle.wg_graph.specs.Unions.{union_of}
use Rattle.wg_iterators.specs.declared.front.Front.{Front}
use Rattle.wg_iterators.specs.declared.front.Front.TheVariants.{Copied, Inside, Residual}
use Rattle.wg_iterators.specs.declared.front.Head.{Head}
use Rattle.wg_iterators.specs.Ahead.{ahead, head_of}
use Rattle.wg_iterators.specs.Least.{IsNotAbove, IsLeast}
use Rattle.wg_decoder.specs.Proper.Disjoint.{AreApart}
use Rattle.wg_graph.proofs.NumberByNumber.{union_ascends, union_first, union_second}
use Rattle.wg_decoder.proofs.ProperLemmas.Disjoint.{share_head, share_tail, head_shared, tail_shared}

-- past a number that is not above the head and not in the front
past : (x : ℕ) (o : Option ℕ) (h : Head) (ys : List ℕ) → h ≡ head_of o → IsNotAbove x o
    → is_in x (ahead h ys) ≡ false → Ascends 0 (ahead h ys) → Ascends (suc x) (ahead h ys)
past x None h ys is le out up = rw is tt
past x (Some y) h ys is le out up =
    let ne : x ≡ y → ⊥ = λ e. (let in_it : is_in x (y ∷ ys) ≡ true = rw (eq-eqb x y e) refl in let f : true ≡ false = sym in_it ∙ (rw is at out) in absurd cc) in
    rw is (omega (arith, le, ne), (rw is at up).1)

-- once this front has given its number: it came first in the union, and no number is in two fronts
abbrev pub Given : Front → List ℕ → Head → Head → Head → List ℕ → List ℕ → List ℕ → Type 0
Given (Copied x) union ha hb hc xs ys zs = (union ≡ x ∷ union_of xs (union_of (ahead hb ys) (ahead hc zs))) × AreApart xs (ahead hb ys) (ahead hc zs)
Given (Inside x) union ha hb hc xs ys zs = (union ≡ x ∷ union_of (ahead ha xs) (union_of ys (ahead hc zs))) × AreApart (ahead ha xs) ys (ahead hc zs)
Given (Residual x) union ha hb hc xs ys zs = (union ≡ x ∷ union_of (ahead ha xs) (union_of (ahead hb ys) zs)) × AreApart (ahead ha xs) (ahead hb ys) zs

-- the three heads were read, and this is the least of them
pub next_given : {oa ob oc : List ℕ} {ha hb hc : Head} (a b c : Option ℕ) (xs ys zs : List ℕ) (f : Front)
    → ahead ha xs ≡ oa → ahead hb ys ≡ ob → ahead hc zs ≡ oc → ha ≡ head_of a → hb ≡ head_of b → hc ≡ head_of c
    → IsLeast a b c (Some f) → AreApart oa ob oc → Given f (union_of oa (union_of ob oc)) ha hb hc xs ys zs
next_given {oa} {ob} {oc} {ha} {hb} {hc} a b c xs ys zs (Copied x) sa sb sc ea eb ec (is, le_b, le_c) apart =
    let e : oa ≡ x ∷ xs = sym sa ∙ ap (λ k. ahead k xs) (ea ∙ ap head_of is) in
    let h : AreApart (x ∷ xs) (ahead hb ys) (ahead hc zs) = rw (sb, sc, ← e) apart in
    let up_b = past x b hb ys eb le_b (share_head x xs (ahead hb ys) h.copied_inside) h.inside_ascend in
    let up_c = past x c hc zs ec le_c (share_head x xs (ahead hc zs) h.copied_residuals) h.residuals_ascend in (
      rw (e, ← sb, ← sc) (union_first x xs _ h.copied_ascend.1 (union_ascends (suc x) _ _ up_b up_c)),
      record {
        copied_ascend = ascends_more 0 (suc x) xs (omega arith) h.copied_ascend.1;
        inside_ascend = h.inside_ascend;
        residuals_ascend = h.residuals_ascend;
        copied_inside = share_tail x xs (ahead hb ys) h.copied_inside;
        copied_residuals = share_tail x xs (ahead hc zs) h.copied_residuals;
        inside_residuals = h.inside_residuals;
      },
    )
next_given {oa} {ob} {oc} {ha} {hb} {hc} a b c xs ys zs (Inside x) sa sb sc ea eb ec (is, le_a, le_c) apart =
    let e : ob ≡ x ∷ ys = sym sb ∙ ap (λ k. ahead k ys) (eb ∙ ap head_of is) in
    let h : AreApart (ahead ha xs) (x ∷ ys) (ahead hc zs) = rw (sa, sc, ← e) apart in
    let up_a = past x a ha xs ea le_a (head_shared x (ahead ha xs) ys h.copied_inside) h.copied_ascend in
    let up_c = past x c hc zs ec le_c (share_head x ys (ahead hc zs) h.inside_residuals) h.residuals_ascend in (
      rw (← sa, e, ← sc) (ap (union_of (ahead ha xs)) (union_first x ys _ h.inside_ascend.1 up_c) ∙ union_second x _ _ up_a),
      record {
        copied_ascend = h.copied_ascend;
        inside_ascend = ascends_more 0 (suc x) ys (omega arith) h.inside_ascend.1;
        residuals_ascend = h.residuals_ascend;
        copied_inside = tail_shared x (ahead ha xs) ys h.copied_inside;
        copied_residuals = h.copied_residuals;
        inside_residuals = share_tail x ys (ahead hc zs) h.inside_residuals;
      },
    )
next_given {oa} {ob} {oc} {ha} {hb} {hc} a b c xs ys zs (Residual x) sa sb sc ea eb ec (is, le_a, le_b) apart =
    let e : oc ≡ x ∷ zs = sym sc ∙ ap (λ k. ahead k zs) (ec ∙ ap head_of is) in
    let h : AreApart (ahead ha xs) (ahead hb ys) (x ∷ zs) = rw (sa, sb, ← e) apart in
    let up_a = past x a ha xs ea le_a (head_shared x (ahead ha xs) zs h.copied_residuals) h.copied_ascend in
    let up_b = past x b hb ys eb le_b (head_shared x (ahead hb ys) zs h.inside_residuals) h.inside_ascend in (
      rw (← sa, ← sb, e) (ap (union_of (ahead ha xs)) (union_second x _ zs up_b) ∙ union_second x _ _ up_a),
      record {
        copied_ascend = h.copied_ascend;
        inside_ascend = h.inside_ascend;
        residuals_ascend = ascends_more 0 (suc x) zs (omega arith) h.residuals_ascend.1;
        copied_inside = h.copied_inside;
        copied_residuals = tail_shared x (ahead ha xs) zs h.copied_residuals;
        inside_residuals = tail_shared x (ahead hb ys) zs h.inside_residuals;
      },
    )
