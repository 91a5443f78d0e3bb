use Rattle.std.proofs.Common.{◌∙◌, ◌/◌, ap, arith}
use Rattle.wg_bits.proofs.Sending.{sends_as}
use Rattle.wg_codes.proofs.Lengths.{zeta_field}
use Rattle.wg_codes.proofs.zeta.write.Goals as goal

pub overflow_sub-v : goal.overflow_sub-v
overflow_sub-v g c = (zeta_field c.args.k c.args.v c.over-head.result c.requires.k.0 c.requires.k.1 c.requires.value (c.over-head.ensures ∙ ap (λ m. m / c.args.k) c.highest_one.ensures.index)).0

pub overflow_sub-v-then-v-least : goal.overflow_sub-v-then-v-least
overflow_sub-v-then-v-least g c = (zeta_field c.args.k c.args.v c.over-head.result c.requires.k.0 c.requires.k.1 c.requires.value (c.over-head.ensures ∙ ap (λ m. m / c.args.k) c.highest_one.ensures.index)).0

pub put_headed-requires-clause-width : goal.put_headed-requires-clause-width
put_headed-requires-clause-width g c = let z = zeta_field c.args.k c.args.v c.over-head.result c.requires.k.0 c.requires.k.1 c.requires.value (c.over-head.ensures ∙ ap (λ m. m / c.args.k) c.highest_one.ensures.index) in omega (arith, z.1)

pub put_headed-requires-clause-field : goal.put_headed-requires-clause-field
put_headed-requires-clause-field g c =
    let z = zeta_field c.args.k c.args.v c.over-head.result c.requires.k.0 c.requires.k.1 c.requires.value (c.over-head.ensures ∙ ap (λ m. m / c.args.k) c.highest_one.ensures.index) in (z.2 c.if-v-least.true).0

pub put_headed-requires-else-v-least-clause-width : goal.put_headed-requires-else-v-least-clause-width
put_headed-requires-else-v-least-clause-width g c = (zeta_field c.args.k c.args.v c.over-head.result c.requires.k.0 c.requires.k.1 c.requires.value (c.over-head.ensures ∙ ap (λ m. m / c.args.k) c.highest_one.ensures.index)).1

pub put_headed-requires-else-v-least-clause-field : goal.put_headed-requires-else-v-least-clause-field
put_headed-requires-else-v-least-clause-field g c =
    let z = zeta_field c.args.k c.args.v c.over-head.result c.requires.k.0 c.requires.k.1 c.requires.value (c.over-head.ensures ∙ ap (λ m. m / c.args.k) c.highest_one.ensures.index) in (z.3 c.if-v-least.false).0

pub returns-then-v-least-clause-sends : goal.returns-then-v-least-clause-sends
returns-then-v-least-clause-sends g c =
    let z = zeta_field c.args.k c.args.v c.over-head.result c.requires.k.0 c.requires.k.1 c.requires.value (c.over-head.ensures ∙ ap (λ m. m / c.args.k) c.highest_one.ensures.index) in
    sends_as _ _ _ _ _ _ _ _ _ (z.2 c.if-v-least.true).1 c.put_headed.ensures.sends

pub returns-else-v-least-clause-sends : goal.returns-else-v-least-clause-sends
returns-else-v-least-clause-sends g c =
    let z = zeta_field c.args.k c.args.v c.over-head.result c.requires.k.0 c.requires.k.1 c.requires.value (c.over-head.ensures ∙ ap (λ m. m / c.args.k) c.highest_one.ensures.index) in
    sends_as _ _ _ _ _ _ _ _ _ (z.3 c.if-v-least.false).1 c.put_headed-else-v-least.ensures.sends

pub overflow_mul-width : goal.overflow_mul-width
overflow_mul-width g c = let z = zeta_field c.args.k c.args.v c.over-head.result c.requires.k.0 c.requires.k.1 c.requires.value (c.over-head.ensures ∙ ap (λ m. m / c.args.k) c.highest_one.ensures.index) in omega (arith, z.1)

pub overflow_shl-least : goal.overflow_shl-least
overflow_shl-least g c = let z = zeta_field c.args.k c.args.v c.over-head.result c.requires.k.0 c.requires.k.1 c.requires.value (c.over-head.ensures ∙ ap (λ m. m / c.args.k) c.highest_one.ensures.index) in omega (arith, z.1)

pub returns-then-v-least-clause-failed : goal.returns-then-v-least-clause-failed
returns-then-v-least-clause-failed g c = c.put_headed.ensures.failed

pub returns-else-v-least-clause-failed : goal.returns-else-v-least-clause-failed
returns-else-v-least-clause-failed g c = c.put_headed-else-v-least.ensures.failed

pub overflow_add-width : goal.overflow_add-width
overflow_add-width g c = let z = zeta_field c.args.k c.args.v c.over-head.result c.requires.k.0 c.requires.k.1 c.requires.value (c.over-head.ensures ∙ ap (λ m. m / c.args.k) c.highest_one.ensures.index) in omega (arith, z.1)
