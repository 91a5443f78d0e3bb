use Rattle.std.proofs.Common.{sym, subst}
use Rattle.std.specs.Result.{IfOk}
use Rattle.wg_bits.specs.Bits.{bits_of}
use Rattle.wg_params.specs.declared.code.Code.{Code}
use Rattle.wg_grammar.specs.Standing.{IsReadAt}
use Rattle.wg_source.proofs.filling.word_in_pieces.Goals as goal

pub returns-in-Unary-clause-found : goal.returns-in-Unary-clause-found
returns-in-Unary-clause-found g c = λ t file is i.
    subst (λ (code : Code). IfOk c.unary.result (λ x. IsReadAt code (bits_of file) c.args.held.now.at x c.unary.new.held.at)) (sym c.in-Unary.is) (c.unary.ensures.found t file is i)
