use Rattle.std.proofs.Common.{◌≡◌, take}
use Rattle.wg_arcs.proofs.plain.begins_with.Given as goal

-- the bytes so far are the same
abbrev pub invariant-loop-index : goal.invariant-loop-index
invariant-loop-index l = take l.index l.text ≡ take l.index l.front
