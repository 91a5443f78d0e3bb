use Rattle.std.proofs.Common.{ℕ, ◌≡◌, ◌+◌, ◌/◌, ap, arith, inl, inr, ◌∙◌}
use Rattle.std.proofs.lemmas.Bool.{cases_eq}
use Rattle.std.proofs.lemmas.List.{get_or-set_same, get_or-set_other, length-set}
use Rattle.wg_rank.proofs.divisor.Divisors.new.Goals as goal

pub loop-by-preserved : goal.loop-by-preserved
loop-by-preserved c =
    let l = c.loop-by in
    let made : c.new.result.inverse ≡ 9223372036854775808 / l.by + 1 = c.new.result.inverted ∙ ap (λ (n : ℕ). 9223372036854775808 / n + 1) c.new.ensures in
    record {
      long = length-set l.inverses l.by c.new.result.inverse ∙ l.invariant.long;
      kept = λ d some below.
          elim (cases_eq d l.by) [
            | inl e ↦ rw e (get_or-set_same l.inverses l.by c.new.result.inverse 0 (omega (arith, l.invariant.long, c.loop-by-test.true)) ∙ made)
            | inr ne ↦ get_or-set_other l.inverses l.by d c.new.result.inverse 0 ne ∙ l.invariant.kept d some (omega (arith, below, ne))
          ];
    }

pub invariant_of-result : goal.invariant_of-result
invariant_of-result c = λ by some below. c.loop-by.invariant.kept by some (omega (arith, below, c.loop-by.invariant.long, c.loop-by-test.false))
