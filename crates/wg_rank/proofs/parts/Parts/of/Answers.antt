use Rattle.std.specs.Int.{div_ceil}
use Rattle.std.proofs.Common.{ℕ, ◌≡◌, ◌*◌, ◌/◌, ◌≤◌, refl, arith, rules}
use Rattle.std.proofs.Math.Nat.{div-le_self}
use Rattle.wg_params.specs.declared.limits.TheConstants.{MOST_PAGES, MOST_DAMPING}
use Rattle.wg_rank.specs.declared.limits.TheConstants.{UNITS}
use Rattle.wg_rank.proofs.Room.{damped_room}
use Rattle.wg_rank.proofs.Flow.{div_ceil_le}
use Rattle.wg_rank.proofs.parts.Parts.of.Goals as goal

-- what the dangling pages give is within the room of all bounds
room_below : (a x d : ℕ) → a ≤ MOST_DAMPING → x ≤ MOST_PAGES * UNITS → a * x / d ≤ MOST_DAMPING * (MOST_PAGES * UNITS)
room_below a x d h k = omega (arith, damped_room a x h k, div-le_self (a * x) d)

room_above : (a x d y : ℕ) → a ≤ MOST_DAMPING → x ≤ MOST_PAGES * UNITS → y ≡ div_ceil (a * x) d → y ≤ MOST_DAMPING * (MOST_PAGES * UNITS)
room_above a x d y h k e = omega (arith, damped_room a x h k, div_ceil_le (a * x) d, e)

pub returns-clause-above : goal.returns-clause-above
returns-clause-above c = c.div_ceil.ensures

pub returns-clause-parts : goal.returns-clause-parts
returns-clause-parts c = omega arith

pub invariant_of-result : goal.invariant_of-result
invariant_of-result c =
    let r = c.requires in
    record {
      damped = r.damped;
      below_room = room_below c.args.damping c.args.dangling.0 (1000 * c.args.n) r.damped r.below_room;
      above_room = room_above c.args.damping c.args.dangling.1 (1000 * c.args.n) _ r.damped r.above_room c.div_ceil.ensures;
      shared_room = omega arith;
      some = omega arith;
      even_part = refl;
      even_part_above = search rules;
      small = search rules;
    }
