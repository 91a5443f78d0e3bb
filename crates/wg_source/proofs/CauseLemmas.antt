-- Why a read is refused.
use Rattle.std.proofs.Common.{◌≢◌, ℕ, ◌+◌, ◌<◌, Bool, List, Ok, arith, length-drop}
use Rattle.std.specs.FinMap as map
use Rattle.std.specs.Prelude.{IsTrue}
use Rattle.wg_outside.specs.Outside.{Files, Counts}
use Rattle.wg_outside.specs.Reads.{Reads}
use Rattle.wg_outside.specs.declared.limits.TheConstants.{MOST_BYTES}
use Rattle.wg_outside.specs.declared.whole.LoadError.TheVariants as load
use Rattle.wg_source.specs.Held.{HeldBytes}
use Rattle.wg_source.specs.Stepping.{HasCause}
use Rattle.wg_source.proofs.HeldLemmas.{piece_at}

-- why a file is refused of which bytes past the limit were read
pub too_long : (told : Bool) (name : List ℕ) (f : Files) (c1 c2 : List ℕ → Counts) (h : HeldBytes) (at : ℕ) (buf : List ℕ) (count : ℕ)
    → (IsTrue told → Reads (map.get f name) at buf (Ok count)) → count ≢ 0 → MOST_BYTES < at + count
    → HasCause told name f c1 c2 h load.TooLong
too_long told name f c1 c2 h at buf count reads some more = record {
  absent = λ x. absurd (cc x);
  failed = λ x. absurd (cc x);
  memory = λ x. absurd (cc x);
  there = λ t file is x. absurd (cc x);
  long = λ t file is i x.
      omega (arith, (piece_at _ file at buf count is (reads t)).within, length-drop at file, some, more);
}
