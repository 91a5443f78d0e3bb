use Rattle.std.proofs.Common.{◌≡◌, ◌+◌, ◌*◌, ◌^◌, ◌%◌, ◌-◌, arith, sym, subst}
use Rattle.std.proofs.lemmas.Nat.{one_shl}
use Rattle.wg_bits.specs.Bits.{rest}
use Rattle.wg_codes.specs.Parts.{IsNumberAt}
use Rattle.wg_codes.proofs.Highest.{number_read}
use Rattle.wg_codes.proofs.headed.number.Goals as goal

pub returns-clause-some : goal.returns-clause-some
returns-clause-some c =
    let e : (1 * 2 ^ c.args.index) % 2 ^ 64 ≡ 2 ^ c.args.index = one_shl c.args.index 64 (omega arith) in (
      subst (λ p. IsNumberAt c.args.index (p - 1 + c.in_ok-low.low) (rest c.args.cursor.now) (rest c.take.new.self)) (sym e)
          (number_read c.args.index c.in_ok-low.low _ _ c.requires c.in_ok-low.ensures.some.0 c.in_ok-low.ensures.some.1),
      c.in_ok-low.ensures.some.2,
    )
