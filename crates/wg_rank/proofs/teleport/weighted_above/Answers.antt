use Rattle.std.proofs.Common.{arith, ◌*◌}
use Rattle.wg_rank.proofs.Flow.{div_ceil_le}
use Rattle.wg_rank.proofs.Weighing.{weighted_room}
use Rattle.wg_rank.specs.declared.limits.TheConstants.{UNITS, MOST_WEIGHT}
use Rattle.wg_rank.proofs.teleport.weighted_above.Goals as goal

pub overflow_mul-shared : goal.overflow_mul-shared
overflow_mul-shared c =
    omega (arith, c.from.ensures, weighted_room c.args.shared c.from.result (1000 * UNITS) MOST_WEIGHT c.requires.few (omega (arith, c.from.ensures, c.requires.small)))

pub returns-clause-room : goal.returns-clause-room
returns-clause-room c =
    omega (
      arith,
      c.div_ceil.ensures,
      div_ceil_le (c.args.shared * c.from.result) c.args.parts,
      c.from.ensures,
      weighted_room c.args.shared c.from.result (1000 * UNITS) MOST_WEIGHT c.requires.few (omega (arith, c.from.ensures, c.requires.small)),
    )
