use Rattle.std.proofs.Common.{◌≡◌, ◌<◌, ◌≤◌, ◌+◌, ◌*◌, ◌^◌, ◌%◌, ◌-◌, length, arith, sym, subst}
use Rattle.wg_bits.specs.Bits.{rest, moved}
use Rattle.wg_codes.specs.Words.{shortened}
use Rattle.wg_codes.specs.Parts.{IsShortenedAt}
use Rattle.wg_codes.proofs.Prefix.{restored}
use Rattle.wg_codes.proofs.ZetaWords.{room, least_is, least_small, low_small, place_short, place_long, tail_short, tail_long, tail_cut_early, tail_cut_late}
use Rattle.wg_codes.proofs.zeta.shortened.Goals as goal

pub overflow_add-result : goal.overflow_add-result
overflow_add-result c =
    let s = least_small c.args.k c.args.head c.requires.k.0 (room c.args.k c.args.head c.requires.head) in
    omega arith

pub overflow_mul-result : goal.overflow_mul-result
overflow_mul-result c =
    let fits = room c.args.k c.args.head c.requires.head in
    let s = low_small c.args.k c.args.head c.in-Some.low c.requires.k.0 fits c.in-Some.ensures.some.0 in
    omega arith

pub overflow_add-result-in-Some-take : goal.overflow_add-result-in-Some-take
overflow_add-result-in-Some-take c =
    let fits = room c.args.k c.args.head c.requires.head in
    let s = low_small c.args.k c.args.head c.in-Some.low c.requires.k.0 fits c.in-Some.ensures.some.0 in
    let b : c.in-Some-take.last < 2 = c.in-Some-take.ensures.some.0 in
    omega arith

pub returns-in-None-clause-none : goal.returns-in-None-clause-none
returns-in-None-clause-none c =
    (tail_cut_early c.args.k c.args.head _ c.requires.k.0 (room c.args.k c.args.head c.requires.head) c.in-None.ensures.none.0, c.in-None.ensures.none.1)

pub returns-in-Some-clause-some : goal.returns-in-Some-clause-some
returns-in-Some-clause-some c =
    let fits = room c.args.k c.args.head c.requires.head in
    let e : (1 * 2 ^ (c.args.head * c.args.k)) % 2 ^ 64 ≡ 2 ^ (c.args.head * c.args.k) = least_is c.args.k c.args.head c.requires.k.0 fits in
    let l : c.in-Some.low < 2 ^ (c.args.head * c.args.k) = omega arith in
    subst (λ p. IsShortenedAt c.args.k c.args.head (p + c.in-Some.low - 1) (rest c.args.cursor.now) (rest c.take.new.self)
    × (c.take.new.self ≡ moved c.args.cursor.now (length (shortened c.args.k c.args.head (p + c.in-Some.low - 1 + 1))))) (sym e) (
      tail_short c.args.k c.args.head c.in-Some.low _ _ c.requires.k.0 fits l c.in-Some.ensures.some.1,
      place_short c.args.k c.args.head c.in-Some.low _ _ c.requires.k.0 fits l c.in-Some.ensures.some.2,
    )

pub returns-in-None-take-clause-none : goal.returns-in-None-take-clause-none
returns-in-None-take-clause-none c =
    let fits = room c.args.k c.args.head c.requires.head in
    let e : (1 * 2 ^ (c.args.head * c.args.k)) % 2 ^ 64 ≡ 2 ^ (c.args.head * c.args.k) = least_is c.args.k c.args.head c.requires.k.0 fits in (
      tail_cut_late c.args.k c.args.head c.in-Some.low _ _ c.requires.k.0 fits c.in-Some.ensures.some.0 (omega arith) c.in-Some.ensures.some.1 c.in-None-take.ensures.none.0,
      restored c.args.cursor.now _ _ _ _ _ c.in-Some.ensures.some.2 c.in-None-take.ensures.none.1 c.at-start.ensures.offset c.seek_back.ensures,
    )

pub returns-in-Some-take-clause-some : goal.returns-in-Some-take-clause-some
returns-in-Some-take-clause-some c =
    let fits = room c.args.k c.args.head c.requires.head in
    let e : (1 * 2 ^ (c.args.head * c.args.k)) % 2 ^ 64 ≡ 2 ^ (c.args.head * c.args.k) = least_is c.args.k c.args.head c.requires.k.0 fits in
    let l : 2 ^ (c.args.head * c.args.k) ≤ c.in-Some.low = omega arith in (
      tail_long c.args.k c.args.head c.in-Some.low c.in-Some-take.last _ _ _ c.requires.k.0 fits c.in-Some.ensures.some.0 l c.in-Some-take.ensures.some.0 c.in-Some.ensures.some.1 c.in-Some-take.ensures.some.1,
      place_long c.args.k c.args.head c.in-Some.low c.in-Some-take.last _ _ _ c.requires.k.0 fits c.in-Some.ensures.some.0 l c.in-Some-take.ensures.some.0 c.in-Some.ensures.some.2 c.in-Some-take.ensures.some.2,
    )
