use Rattle.std.proofs.Common.{◌≡◌, ◌∙◌, subst}
use Rattle.wg_bits.specs.Bits.{rest, moved}
use Rattle.wg_codes.specs.Reading.{Reads, after}
use Rattle.wg_codes.specs.Words.{word, top}
use Rattle.wg_codes.proofs.Prefix.{passes}
use Rattle.wg_codes.proofs.any.read_long.Goals as goal

pub returns-clause-found : goal.returns-clause-found
returns-clause-found c =
    subst (λ p. Reads (word c.args.code) (top c.args.code) (rest p) c.read_in_steps-read.result.0) c.again.ensures c.read_in_steps-read.ensures.found

pub returns-clause-passed : goal.returns-clause-passed
returns-clause-passed c =
    passes (word c.args.code) (top c.args.code) _ _ _
    (subst (λ p. Reads (word c.args.code) (top c.args.code) (rest p) c.read_in_steps-read.result.0) c.again.ensures c.read_in_steps-read.ensures.found)
    (c.advance.ensures ∙ subst (λ p. moved p c.read_in_steps-read.result.1 ≡ after (word c.args.code) p c.read_in_steps-read.result.0) c.again.ensures c.read_in_steps-read.ensures.moves)
