use Rattle.std.proofs.Common.{◌+◌, ◌-◌, ◌*◌, ◌/◌, ◌%◌, ◌∙◌, ◌≤◌, ℕ, ap, arith}
use Rattle.std.proofs.lemmas.Nat.{div-add-mod'}
use Rattle.wg_rank.proofs.Quotients.{cut_quotient, rest_is, rest_small}
use Rattle.wg_rank.proofs.Weighing.{weighted_room}
use Rattle.wg_rank.proofs.divisor.Divisor.quotient.Goals as goal

pub exact-high-requires : goal.exact-high-requires
exact-high-requires c =
    omega (arith, weighted_room (c.args.value / 1099511627776) c.args.self.now.by 4503599627370495 2048 (omega (arith, c.if-value.false)) (omega (arith, c.if-self.false)))

pub overflow_mul-rest : goal.overflow_mul-rest
overflow_mul-rest c =
    omega (arith, c.if-value.false, ap (λ n. n * c.args.self.now.by) c.exact-high.ensures, div-add-mod' (c.args.value / 1099511627776) c.args.self.now.by)

pub overflow_add-rest : goal.overflow_add-rest
overflow_add-rest c =
    omega (arith, rest_small (c.args.value / 1099511627776) c.args.self.now.by c.exact-high.result c.args.self.now.some c.if-self.false c.exact-high.ensures)

pub overflow_mul-rest-2 : goal.overflow_mul-rest-2
overflow_mul-rest-2 c =
    omega (arith, rest_small (c.args.value / 1099511627776) c.args.self.now.by c.exact-high.result c.args.self.now.some c.if-self.false c.exact-high.ensures)

pub exact-low-requires : goal.exact-low-requires
exact-low-requires c =
    let v : ℕ = c.args.value in
    let d : ℕ = c.args.self.now.by in
    let m : ℕ = 1099511627776 in
    let rest : ℕ = v / m - c.exact-high.result * d in
    let at : rest * m + v % m ≤ 2251799813685247 = omega (arith, rest_small (v / m) d c.exact-high.result c.args.self.now.some c.if-self.false c.exact-high.ensures) in
    omega (arith, weighted_room (rest * m + v % m) d 2251799813685247 2048 at (omega (arith, c.if-self.false)))

pub returns : goal.returns
returns c =
    let v : ℕ = c.args.value in
    let d : ℕ = c.args.self.now.by in
    let m : ℕ = 1099511627776 in
    let top : ℕ = v / m in
    let rest = rest_is top d c.exact-high.result c.exact-high.ensures in
    ap (λ n. n * m + c.exact-low.result) c.exact-high.ensures
    ∙ ap (λ n. top / d * m + n) (c.exact-low.ensures ∙ ap (λ r. (r * m + v % m) / d) rest)
    ∙ cut_quotient v d m c.args.self.now.some
