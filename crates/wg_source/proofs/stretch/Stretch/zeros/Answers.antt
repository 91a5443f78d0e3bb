use Rattle.std.proofs.Common.{◌≡◌, ◌∙◌, ◌+◌, ◌*◌, ◌≤◌, ap, sym, subst, length, List, Bool, false, ◌++◌, arith}
use Rattle.std.proofs.Math.ListN.{replicate}
use Rattle.wg_bits.specs.Bits.{Position, rest, BeginsWithNoZero}
use Rattle.wg_bits.proofs.Words.{length-bits_of}
use Rattle.wg_source.specs.Held.{IsInside, ahead}
use Rattle.wg_source.proofs.HeldLemmas.{ahead_moved}
use Rattle.wg_source.proofs.stretch.Stretch.zeros.Goals as goal

pub advance-requires : goal.advance-requires
advance-requires c =
    let bits = ap (λ (p : Position). length p.bits) (c.zeros-zeros.ensures.offset) in
    let place = ap (λ (p : Position). p.at) (c.zeros-zeros.ensures.offset) in
    let old = ap (λ (p : Position). length p.bits) c.cursor-cursor.ensures.position in
    let start = ap (λ (p : Position). p.at) c.cursor-cursor.ensures.position in
    omega (arith, bits, place, old, start, length-bits_of c.args.self.now.bytes, c.at-end.ensures.within, c.at-end.ensures.offset, c.cursor-cursor.ensures.inside.from)

pub returns-clause-zeros : goal.returns-clause-zeros
returns-clause-zeros c =
    subst (λ (z : List Bool). ahead c.args.self.now ≡ replicate c.zeros-zeros.result false ++ z) (ahead_moved _ _ c.cursor-cursor.result c.zeros-zeros.new.self c.zeros-zeros.result c.cursor-cursor.ensures.inside c.cursor-cursor.ensures.position c.zeros-zeros.ensures.offset c.advance.ensures)
    (ap rest (sym c.cursor-cursor.ensures.position) ∙ c.zeros-zeros.ensures.zeros)

pub returns-clause-stops : goal.returns-clause-stops
returns-clause-stops c = λ less.
    subst BeginsWithNoZero (ahead_moved _ _ c.cursor-cursor.result c.zeros-zeros.new.self c.zeros-zeros.result c.cursor-cursor.ensures.inside c.cursor-cursor.ensures.position c.zeros-zeros.ensures.offset c.advance.ensures)
    (c.zeros-zeros.ensures.stops less)

pub returns-clause-inside : goal.returns-clause-inside
returns-clause-inside c =
    let bits = ap (λ (p : Position). length p.bits) (c.zeros-zeros.ensures.offset) in
    let place = ap (λ (p : Position). p.at) (c.zeros-zeros.ensures.offset) in
    let old = ap (λ (p : Position). length p.bits) c.cursor-cursor.ensures.position in
    let start = ap (λ (p : Position). p.at) c.cursor-cursor.ensures.position in
    let fits : c.args.self.now.at + c.zeros-zeros.result ≤ 8 * (c.args.self.now.first + length c.args.self.now.bytes) =
    omega (arith, bits, place, old, start, length-bits_of c.args.self.now.bytes, c.at-end.ensures.within, c.at-end.ensures.offset, c.cursor-cursor.ensures.inside.from) in
    subst IsInside (sym c.advance.ensures) (record { from = omega (arith, c.cursor-cursor.ensures.inside.from); to = fits })
