use Rattle.std.proofs.Common.{◌≡◌, ◌+◌, length, map, drop}
use Rattle.wg_properties.specs.Flags.{codes_from, codes_of, flag_of, pieces_of}
use Rattle.wg_properties.proofs.flags.codes_of.Given as goal

-- what is left goes on from the codes so far
abbrev pub invariant-loop-piece : goal.invariant-loop-piece
invariant-loop-piece l =
    (l.number ≡ length l.yielded)
    × (codes_from l.zeta (l.number + 1) l.codes (drop l.number (map flag_of (pieces_of l.value))) ≡ codes_of l.zeta l.value)
