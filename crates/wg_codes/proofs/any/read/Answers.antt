use Rattle.std.proofs.Common.{◌∙◌, ap, arith}
use Rattle.wg_bits.specs.Bits.{moved}
use Rattle.wg_codes.specs.Words.{word, top}
use Rattle.wg_codes.proofs.Prefix.{rest_after}
use Rattle.wg_codes.proofs.any.read.Goals as goal

pub returns-then-word-remaining-clause-passed : goal.returns-then-word-remaining-clause-passed
returns-then-word-remaining-clause-passed c =
    let t = c.in-Some.ensures in
    rest_after (word c.args.code) (top c.args.code) _ _ _ (t.read _ c.peek.ensures (omega arith))
    (c.advance.ensures ∙ ap (moved c.args.cursor.now) t.size)
