use Rattle.std.proofs.Common.{◌≡◌, ◌≤◌, ◌+◌, ◌-◌, ◌*◌, ◌/◌, ◌%◌, ◌^◌, arith, sym, subst, ap, ◌∙◌}
use Rattle.wg_codes.specs.Words.{highest}
use Rattle.wg_codes.proofs.Lengths.{head_room, length-zeta_short, length-zeta_long}
use Rattle.wg_codes.proofs.ZetaWords.{least_is}
use Rattle.wg_codes.proofs.zeta.length.Goals as goal

pub overflow_sub-v : goal.overflow_sub-v
overflow_sub-v c =
    let r = head_room c.args.k c.args.v c.over-head.result c.requires.k.0 c.requires.k.1 c.requires.value (c.over-head.ensures ∙ ap (λ m. m / c.args.k) c.highest_one.ensures.index) in
    subst (λ m. m ≤ c.args.v + 1) (sym (least_is c.args.k c.over-head.result c.requires.k.0 r.0)) r.1

pub returns-then-v-least : goal.returns-then-v-least
returns-then-v-least c =
    let eh : c.over-head.result ≡ highest (c.args.v + 1) / c.args.k = c.over-head.ensures ∙ ap (λ m. m / c.args.k) c.highest_one.ensures.index in
    let z = length-zeta_short c.args.k c.args.v c.over-head.result eh c.requires.k.0 (omega arith) in
    omega arith

pub returns-else-v-least : goal.returns-else-v-least
returns-else-v-least c =
    let eh : c.over-head.result ≡ highest (c.args.v + 1) / c.args.k = c.over-head.ensures ∙ ap (λ m. m / c.args.k) c.highest_one.ensures.index in
    let r = head_room c.args.k c.args.v c.over-head.result c.requires.k.0 c.requires.k.1 c.requires.value eh in
    let e : (1 * 2 ^ (c.over-head.result * c.args.k)) % 2 ^ 64 ≡ 2 ^ (c.over-head.result * c.args.k) = least_is c.args.k c.over-head.result c.requires.k.0 r.0 in
    let z = length-zeta_long c.args.k c.args.v c.over-head.result eh (omega arith) in
    omega arith
