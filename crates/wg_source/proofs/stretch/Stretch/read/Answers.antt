use Rattle.std.proofs.Common.{◌∙◌, ap, subst, length, arith}
use Rattle.std.proofs.lemmas.List.{length-take-le}
use Rattle.wg_bits.specs.Bits.{Position, rest}
use Rattle.wg_bits.proofs.Words.{length-bits_of}
use Rattle.wg_codes.specs.Reading.{Reads}
use Rattle.wg_codes.specs.Words.{word, top}
use Rattle.wg_grammar.proofs.CursorLemmas.{after_later}
use Rattle.wg_source.specs.Held.{HeldBytes}
use Rattle.wg_source.proofs.stretch.Stretch.read.Goals as goal

pub invariant_of-self : goal.invariant_of-self
invariant_of-self c =
    let s = c.self.inside in
    let v = c.self.invariant in
    let m = after_later c.args.code _ _ c.read-read.result c.read-read.ensures.moves in
    let bits = ap length (m.bits ∙ ap (λ (p : Position). p.bits) c.cursor-cursor.ensures.position) in
    let held = ap (λ (h : HeldBytes). length h.bytes) c.self.view_is in
    (v.0, omega (arith, bits, held, length-bits_of c.args.self.now.bytes, length-take-le s.length s.bytes (omega (arith, v.0)), c.at-here.ensures.within), v.2)

pub returns-clause-found : goal.returns-clause-found
returns-clause-found c = subst (λ (p : Position). Reads (word c.args.code) (top c.args.code) (rest p) c.read-read.result) c.cursor-cursor.ensures.position c.read-read.ensures.found
