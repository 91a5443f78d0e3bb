use Rattle.std.proofs.Math.Nat.{div-le_self}
use Rattle.std.proofs.Common.{ℕ, List, ◌*◌, ◌/◌, length, ap, sym, ◌∙◌, arith}
use Rattle.std.proofs.lemmas.Bool.{eqb-true}
use Rattle.wg_rank.specs.Intervals.{by_page}
use Rattle.wg_rank.proofs.Settled.{some_page}
use Rattle.wg_rank.proofs.Weighing.{even_part, given_some}
use Rattle.wg_rank.proofs.teleport.part_below.Goals as goal

pub returns-then-is_empty : goal.returns-then-is_empty
returns-then-is_empty c = record {
  value = λ n l.
      c.requires.even
      ∙ ap (λ (x : ℕ). x / c.args.parts) (sym (even_part n c.args.v c.args.shared c.args.weights.now (eqb-true _ _ (sym c.is_empty.ensures ∙ c.if-is_empty.true)) l));
  room = omega (arith, c.requires.few, c.requires.even, div-le_self c.args.shared c.args.parts);
}

pub weighted_below-requires : goal.weighted_below-requires
weighted_below-requires c = record {
  few = c.requires.few;
  small = c.requires.small c.args.v 0 (c.requires.page (some_page (length c.args.weights.now) c.is_empty.result c.is_empty.ensures c.if-is_empty.false));
  some = c.requires.some;
}

pub returns : goal.returns
returns c =
    let some = some_page (length c.args.weights.now) c.is_empty.result c.is_empty.ensures c.if-is_empty.false in
    record {
      value = λ n l. c.weighted_below.ensures.value ∙ ap (λ (l : List ℕ). c.args.shared * by_page l c.args.v / c.args.parts) (sym (given_some n c.args.weights.now some));
      room = c.weighted_below.ensures.room;
    }
