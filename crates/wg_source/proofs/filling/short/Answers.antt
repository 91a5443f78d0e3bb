use Rattle.std.proofs.Common.{subst, ℕ, arith}
use Rattle.wg_grammar.specs.Standing.{StopsAt}
use Rattle.wg_source.specs.StepLaws.{then_moved}
use Rattle.wg_source.proofs.FillLemmas.{read_of_file}
use Rattle.wg_source.proofs.filling.short.Goals as goal

pub returns-clause-found : goal.returns-clause-found
returns-clause-found g c = λ t file is i. (
  read_of_file c.args.code file c.fill.new.held c.args.held.now.at c.read.result c.requires.code c.requires.other c.in_ok-fill.ensures.inside c.in_ok-fill.ensures.next c.in_ok-fill.ensures.at
      (c.in_ok-fill.ensures.steps.in_step t file is i) c.read.ensures.found,
  subst (λ (n : ℕ). StopsAt c.args.code n c.read.result c.read.new.self.at) c.in_ok-fill.ensures.at c.read.ensures.stops,
)

pub returns-clause-steps : goal.returns-clause-steps
returns-clause-steps g c = then_moved _ _ _ _ _ _ _ _ _ _ (omega (arith, c.read.ensures.onward)) c.in_ok-fill.ensures.steps c.read.ensures.moved
