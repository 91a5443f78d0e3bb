use Rattle.std.specs.Cmp.{IsStrictWeakOrder}
use Rattle.std.proofs.Common.{ℕ, List, ◌∷◌, ◌++◌, rules, arith, length, ap, sym, subst}
use Rattle.std.proofs.lemmas.Fn.{always_returns_same}
use Rattle.std.proofs.lemmas.List.FromFn.{length-range_with_len}
use Rattle.std.proofs.lemmas.List.Sorted.{sorted_far}
use Rattle.wg_order.specs.Front.{IsFront}
use Rattle.wg_order.proofs.Fronts.{front_from, less, less_order}
use Rattle.wg_order.proofs.sorting.part.Goals as goal

pub select_nth_unstable_by-front-requires-clause-in_bounds : goal.select_nth_unstable_by-front-requires-clause-in_bounds
select_nth_unstable_by-front-requires-clause-in_bounds c = omega (arith, ap length c.requires.all, length-range_with_len 0 (length c.args.low.now), c.requires.few)

pub returns : goal.returns
returns c =
    let low = c.args.low.now in
    let high = c.args.high.now in
    let lt = less low high in
    let order : IsStrictWeakOrder lt = less_order low high in
    let chosen = c.select_nth_unstable_by-front in
    let front = chosen.result.0.now in
    let x = chosen.result.1.now in
    let back = chosen.result.2.now in
    let sorted = c.sort_unstable_by.new.self in (
      x ∷ back,
      subst (λ (f : List ℕ). IsFront low high (f ++ x ∷ back) (length f)) (sym c.copy_from_slice.ensures.after)
          (front_from low high front sorted x back c.sort_unstable_by.ensures.permutation
          (chosen.ensures.partitioned lt order (always_returns_same _ _ _ (λ a r g h. search rules)))
          (λ i j l w. sorted_far lt order sorted (c.sort_unstable_by.ensures.sorted lt order (always_returns_same _ _ _ (λ a r g h. search rules))) i j 0 l w)
          c.args.pages.now c.requires.all chosen.ensures.permutation),
    )
