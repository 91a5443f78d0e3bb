use Rattle.std.proofs.Common.{arith, ◌*◌}
use Rattle.std.proofs.Math.Nat.{div-le_self}
use Rattle.wg_rank.proofs.Weighing.{weighted_room}
use Rattle.wg_rank.specs.declared.limits.TheConstants.{UNITS, MOST_WEIGHT}
use Rattle.wg_rank.proofs.teleport.weighted_below.Goals as goal

pub overflow_mul-result : goal.overflow_mul-result
overflow_mul-result c =
    omega (arith, c.from.ensures, weighted_room c.args.shared c.from.result (1000 * UNITS) MOST_WEIGHT c.requires.few (omega (arith, c.from.ensures, c.requires.small)))

pub returns-clause-room : goal.returns-clause-room
returns-clause-room c =
    omega (
      arith,
      c.from.ensures,
      div-le_self (c.args.shared * c.from.result) c.args.parts,
      weighted_room c.args.shared c.from.result (1000 * UNITS) MOST_WEIGHT c.requires.few (omega (arith, c.from.ensures, c.requires.small)),
    )
