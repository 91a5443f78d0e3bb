use Rattle.std.proofs.Common.{arith, rules, ℕ, ◌≡◌, ◌≤◌, List, length, get_or, replicate, refl, ap, ◌∙◌}
use Rattle.std.proofs.lemmas.List.{length-replicate, get_or-replicate}
use Rattle.std.proofs.lemmas.List.Elements.{All-replicate}
use Rattle.std.proofs.lemmas.Result.{err_from_is_err_and}
use Rattle.wg_rank.specs.Sum.{sum_below}
use Rattle.wg_rank.specs.Intervals.{IsTable}
use Rattle.wg_rank.specs.Weights.{weights_or_ones}
use Rattle.wg_rank.specs.declared.limits.TheConstants.{UNITS}
use Rattle.wg_rank.proofs.Sums.{sum_same, sum_zero}
use Rattle.wg_rank.proofs.bounds.Bounds.begin.Goals as goal

table_replicate : (n x : ℕ) (xs : List ℕ) → xs ≡ replicate n x → IsTable xs n (λ _. x)
table_replicate n x xs e = record {
  counted = ap length e ∙ length-replicate n x;
  each = λ v h. rw e (get_or-replicate n v x 0 h);
}

sum_table : (n : ℕ) (xs : List ℕ) → IsTable xs n (λ _. 0) → sum_below (length xs) (λ v. get_or xs v 0) ≡ 0
sum_table n xs t = rw t.counted (sum_same n (λ v. get_or xs v 0) (λ _. 0) (λ v h. t.each v h) ∙ sum_zero n)

pub invariant_of-result : goal.invariant_of-result
invariant_of-result c =
    let e1 = c.in_ok-vec.ensures.items_if_clones_equal (λ y h. search rules) in
    let e2 = c.in_ok-vec-2.ensures.items_if_clones_equal (λ y h. search rules) in
    record {
      few = omega (arith, c.in_ok-vec.ensures.len);
      damped = c.requires.damping;
      counted = omega arith;
      weighed = let e : length c.in_ok-vec.field-0.items ≡ c.args.n = omega (arith, c.in_ok-vec.ensures.len) in rw e c.requires.weights;
      high_pages = omega (arith, c.in_ok-vec.ensures.len, c.in_ok-vec-2.ensures.len);
      inflow_pages = omega (arith, c.in_ok-vec.ensures.len, c.in_ok-vec-3.ensures.len);
      low_total = omega (arith, sum_table c.args.n _ (table_replicate c.args.n 0 _ e1));
      high_units = rw e2 (All-replicate (λ x. x ≤ UNITS) c.args.n _ (omega arith));
    }

pub returns : goal.returns
returns c =
    let e1 = c.in_ok-vec.ensures.items_if_clones_equal (λ y h. search rules) in
    let e2 = c.in_ok-vec-2.ensures.items_if_clones_equal (λ y h. search rules) in
    let pages : length c.in_ok-vec.field-0.items ≡ c.args.n = (table_replicate c.args.n 0 _ e1).counted in
    record {
      damping = refl;
      weights = ap (λ (k : ℕ). weights_or_ones k c.args.weights) pages;
      pages = pages;
      rounds = refl;
      holds = λ d is. record {
        low_is = rw is (table_replicate c.args.n 0 _ e1);
        high_is = rw is (table_replicate c.args.n UNITS _ e2);
      };
    }

pub returns-in_err-vec : goal.returns-in_err-vec
returns-in_err-vec c =
    let e = err_from_is_err_and c.from_residual.result c.from_residual.ensures.1 in
    rw (e.1) record { damping = tt; weights = tt; pages = tt; rounds = tt; holds = tt }

pub returns-in_err-vec-2 : goal.returns-in_err-vec-2
returns-in_err-vec-2 c =
    let e = err_from_is_err_and c.from_residual-in_err-vec-2.result c.from_residual-in_err-vec-2.ensures.1 in
    rw (e.1) record { damping = tt; weights = tt; pages = tt; rounds = tt; holds = tt }

pub returns-in_err-vec-3 : goal.returns-in_err-vec-3
returns-in_err-vec-3 c =
    let e = err_from_is_err_and c.from_residual-in_err-vec-3.result c.from_residual-in_err-vec-3.ensures.1 in
    rw (e.1) record { damping = tt; weights = tt; pages = tt; rounds = tt; holds = tt }
