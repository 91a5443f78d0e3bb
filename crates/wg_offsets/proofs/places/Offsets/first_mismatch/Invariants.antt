use Rattle.std.proofs.Common.{◌≡◌, ℕ, ◌<◌}
use Rattle.wg_offsets.specs.Places.{record_length}
use Rattle.wg_offsets.proofs.places.Offsets.first_mismatch.Given as goal

-- the records of the pages before have one length in both
abbrev pub invariant-loop-page : goal.invariant-loop-page
invariant-loop-page l = (x : ℕ) → x < l.page → record_length l.self x ≡ record_length l.other x
