use Rattle.std.proofs.Common.{◌+◌, ◌<◌, ◌≤◌, ℕ, get_or}
use Rattle.wg_offsets.specs.declared.places.TheConstants.{MOST_PLACE}
use Rattle.wg_memory.proofs.writing.sound.Given as goal

-- no place so far is below the one before
abbrev pub invariant-loop-page : goal.invariant-loop-page
invariant-loop-page l = (i : ℕ) → i < l.page
    → (get_or l.fn.places i 0 ≤ get_or l.fn.places (i + 1) 0) × (get_or l.fn.places (i + 1) 0 ≤ MOST_PLACE)
