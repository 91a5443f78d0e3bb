use Rattle.std.proofs.Common.{◌-◌, ◌*◌, ◌%◌, ◌^◌, ◌≤◌, arith, ap, sym, ◌∙◌, subst}
use Rattle.wg_bits.specs.Bits.{rest}
use Rattle.wg_bits.proofs.Rest.{rest-moved}
use Rattle.wg_codes.specs.Standing.{IsWord}
use Rattle.wg_decoder.specs.Proper.Near.{IsNear}
use Rattle.wg_decoder.proofs.ProperLemmas.Near.{told, top_short, near_passed}
use Rattle.wg_decoder.proofs.proper.lookahead.value.Goals as goal

pub advance-requires : goal.advance-requires
advance-requires c =
    let s = c.requires.stands in
    let here = sym c.look.ensures ∙ sym c.cursor.view_is in
    let within : c.in-Some.word.bits ≤ c.cursor.inside.known = omega (arith, c.if-word-cursor.true) in
    (told c.args.code c.requires.code s.0 _ s.1 (subst (λ q. IsWord c.args.code s.0 (rest q) s.1) here s.2) c.cursor.inside.near c.cursor.inside.known c.cursor.invariant c.in-Some.word c.in-Some.ensures within).1

pub invariant_of-cursor : goal.invariant_of-cursor
invariant_of-cursor c =
    subst (λ z. IsNear (c.cursor.inside.near * 2 ^ c.in-Some.word.bits % 2 ^ 64) (c.cursor.inside.known - c.in-Some.word.bits) z) (sym (ap rest c.advance.ensures ∙ rest-moved c.cursor.inside.cursor c.in-Some.word.bits))
    (near_passed c.cursor.inside.near c.cursor.inside.known c.in-Some.word.bits _ c.cursor.invariant c.if-word-cursor.true)

pub returns-in-Some-clause-short : goal.returns-in-Some-clause-short
returns-in-Some-clause-short c =
    let s = c.requires.stands in
    let here = sym c.look.ensures ∙ sym c.cursor.view_is in
    let within : c.in-Some.word.bits ≤ c.cursor.inside.known = omega (arith, c.if-word-cursor.true) in
    let t = told c.args.code c.requires.code s.0 _ s.1 (subst (λ q. IsWord c.args.code s.0 (rest q) s.1) here s.2) c.cursor.inside.near c.cursor.inside.known c.cursor.invariant c.in-Some.word c.in-Some.ensures within in
    omega (arith, t.0, s.2.0, top_short c.args.code c.requires.code)

pub returns-in-Some-clause-exact : goal.returns-in-Some-clause-exact
returns-in-Some-clause-exact c v behind stand =
    let here = sym c.look.ensures ∙ sym c.cursor.view_is in
    let within : c.in-Some.word.bits ≤ c.cursor.inside.known = omega (arith, c.if-word-cursor.true) in
    let t = told c.args.code c.requires.code v _ behind (subst (λ q. IsWord c.args.code v (rest q) behind) here stand) c.cursor.inside.near c.cursor.inside.known c.cursor.invariant c.in-Some.word c.in-Some.ensures within in
    (t.0, t.2 ∙ sym (ap rest c.advance.ensures ∙ rest-moved c.cursor.inside.cursor c.in-Some.word.bits))
