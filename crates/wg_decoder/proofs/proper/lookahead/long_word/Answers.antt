use Rattle.std.proofs.Common.{◌≡◌, ◌-◌, length, drop, ap, ◌∙◌, arith}
use Rattle.wg_bits.specs.Bits.{Position, rest}
use Rattle.wg_bits.proofs.Rest.{rest-moved}
use Rattle.wg_codes.specs.Words.{word}
use Rattle.wg_codes.proofs.Standing.{not_cut, not_none, read_one}
use Rattle.wg_decoder.proofs.proper.lookahead.long_word.Goals as goal

pub unreachable-requires : goal.unreachable-requires
unreachable-requires c =
    let s = c.requires.stands in
    not_cut c.args.code c.requires.code s.0 _ s.1 s.2 c.in-Cut.ensures.found

pub unreachable-requires-in-NoWord : goal.unreachable-requires-in-NoWord
unreachable-requires-in-NoWord c =
    let s = c.requires.stands in
    not_none c.args.code s.0 _ s.1 s.2 c.in-NoWord.ensures.found

pub returns-clause-exact : goal.returns-clause-exact
returns-clause-exact c v behind stand =
    let one = read_one c.args.code c.requires.code v c.in-Value.value _ behind _ stand c.in-Value.ensures.found.0 c.in-Value.ensures.passed in
    let bits : length (word c.args.code c.in-Value.value) ≡ c.at.result - c.at-start.result =
    omega (arith, c.at.ensures.offset, c.at-start.ensures.offset, ap (λ (p : Position). p.at) c.in-Value.ensures.moves) in (
      one.0,
      one.1 ∙ ap rest c.in-Value.ensures.moves ∙ rest-moved c.args.cursor (length (word c.args.code c.in-Value.value))
          ∙ ap (λ n. drop n (rest c.args.cursor)) bits,
    )
