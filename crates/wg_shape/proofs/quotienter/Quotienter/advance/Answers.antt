use Rattle.std.proofs.Common.{rules}
use Rattle.wg_shape.proofs.quotienter.Quotienter.advance.Goals as goal

pub returns-clause-least : goal.returns-clause-least
returns-clause-least g c = search rules
