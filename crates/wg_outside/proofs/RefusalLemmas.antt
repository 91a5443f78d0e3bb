-- Refusals of several calls.
use Rattle.std.proofs.Common.{◌≡◌, ℕ, ◌≤◌, List, arith, Result, Ok, Err}
use Rattle.std.specs.Result.{IsErrAnd}
use Rattle.wg_outside.specs.Outside.{Counts, NonDecreasing}
use Rattle.wg_outside.specs.Refusals.{FileRefusals, SinkRefusals}
use Rattle.wg_outside.specs.declared.depot.WriteError.{WriteError}
use Rattle.wg_outside.specs.declared.sink.Sink as sink
use Rattle.wg_outside.proofs.FilesLemmas.{none_falls-trans}
use Rattle.wg_outside.proofs.PutsLemmas.{is_that_err, rose_on}

-- ---- of a file

-- nothing was refused
pub file_done : {A : Type 0} (a b : List ℕ → Counts) (n : List ℕ) (x : A) → NonDecreasing a b → FileRefusals a b n (Ok x)
file_done a b n x l = record { failed = λ e. cc (e); memory = λ e. cc (e); later = l }

-- other calls came before
pub file_after : {A : Type 0} (a b c : List ℕ → Counts) (n : List ℕ) (r : Result A WriteError) → NonDecreasing a b → FileRefusals b c n r → FileRefusals a c n r
file_after a b c n r l h = record {
  failed = λ e. rose_on _ _ _ _ (l.write_faults n) (h.failed e) (omega arith);
  memory = λ e. rose_on _ _ _ _ (l.wants n) (h.memory e) (omega arith);
  later = none_falls-trans a b c l h.later;
}

-- the error that the exit of a `?` hands on
pub file_exit : {A B : Type 0} (a b : List ℕ → Counts) (n : List ℕ) (r : Result B WriteError) (e : WriteError) → IsErrAnd r (λ x. x ≡ e) → FileRefusals {A = A} a b n (Err e) → FileRefusals a b n r
file_exit a b n r e is h =
    let that : r ≡ Err e = is_that_err r e is in
    record { failed = λ q. h.failed (cc (that, q)); memory = λ q. h.memory (cc (that, q)); later = h.later }

-- ---- of a sink

-- nothing was refused
pub sink_done : {S A : Type 0} (s : sink.Ghosts S) (a b : S) (x : A) → (s.faults a ≤ s.faults b) × (s.wants a ≤ s.wants b) → SinkRefusals s a b (Ok x)
sink_done s a b x l = record { failed = λ e. cc (e); memory = λ e. cc (e); counts = l }

-- other calls came before
pub sink_after : {S A : Type 0} (s : sink.Ghosts S) (a b c : S) (r : Result A WriteError) → (s.faults a ≤ s.faults b) × (s.wants a ≤ s.wants b) → SinkRefusals s b c r → SinkRefusals s a c r
sink_after s a b c r l h = record {
  failed = λ e. rose_on _ _ _ _ l.0 (h.failed e) (omega arith);
  memory = λ e. rose_on _ _ _ _ l.1 (h.memory e) (omega arith);
  counts = (omega (arith, l.0, h.counts.0), omega (arith, l.1, h.counts.1));
}

-- the error that the exit of a `?` hands on
pub sink_exit : {S A B : Type 0} (s : sink.Ghosts S) (a b : S) (r : Result B WriteError) (e : WriteError) → IsErrAnd r (λ x. x ≡ e) → SinkRefusals {A = A} s a b (Err e) → SinkRefusals s a b r
sink_exit s a b r e is h =
    let that : r ≡ Err e = is_that_err r e is in
    record { failed = λ q. h.failed (cc (that, q)); memory = λ q. h.memory (cc (that, q)); counts = h.counts }
