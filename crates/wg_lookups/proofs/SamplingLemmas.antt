-- Words of an offsets file that are read again.
use Rattle.std.proofs.Common.{◌≡◌, ◌<◌, ◌≤◌, ◌/◌, ℕ, Bool, List, length, Result, Ok, Err, arith, refl}
use Rattle.std.specs.{Bool.IsTrue, Result.IfErr}
use Rattle.std.specs.FinMap as map
use Rattle.wg_bits.specs.Bits.{bits_of}
use Rattle.wg_outside.specs.{Outside.Files, Outside.Counts, declared.whole.LoadError.LoadError}
use Rattle.wg_grammar.specs.{Errors.OnFault, Errors.OnRefusal, Errors.WantsNoMemory, declared.error.ReadError.ReadError}
use Rattle.wg_offsets.specs.Sampling.{IsSampleOf, Sampled, bit_before}
use Rattle.wg_grammar.specs.declared.fault.OffsetWord.{OffsetWord}
use Rattle.wg_grammar.specs.declared.error.ReadError.TheVariants as words
use Rattle.wg_offsets.specs.declared.samples.TheConstants.{SAMPLED}
use Rattle.wg_offsets.proofs.SamplesLemmas.{prefix_fits}
use Rattle.wg_source.specs.{Held.HeldBytes, StepLaws.cause_after}
use Rattle.wg_source.specs.Stepping.{Moves, HasCause as HasReadCause}
use Rattle.wg_lookups.specs.{Sampling.HasWordCause, Sampling.IsSampledOn, declared.sampled.SampledFile.SampledFile}

-- the cause of an error after a move
pub word_caused : {A : Type 0} (told : Bool) (f1 f2 : Files) (c1 c2 c3 : List ℕ → Counts) (s : SampledFile) (h : HeldBytes) (x : Result A (ReadError OffsetWord LoadError))
    → Moves told s.file.name f1 f2 c1 c2 s.file.held h
    → WantsNoMemory x → OnRefusal x (λ e. HasReadCause told s.file.name f2 c2 c3 h e) → (IsTrue told → (places : List ℕ) → IsSampledOn (map.get f1 s.file.name) s places → OnFault x (λ w. ⊥))
    → IfErr x (HasWordCause told f1 c1 c3 s)
word_caused told f1 f2 c1 c2 c3 s h (Ok a) moves other cause right = tt
word_caused told f1 f2 c1 c2 c3 s h (Err (words.Refused e)) moves other cause right = cause_after told s.file.name s.file.name f1 f2 c1 c2 c3 s.file.held h e refl moves cause
word_caused told f1 f2 c1 c2 c3 s h (Err words.Memory) moves other cause right = other
word_caused told f1 f2 c1 c2 c3 s h (Err (words.Fault w)) moves other cause right = λ t places on. right t places on

-- a bit that is kept is one of the file that was sampled
pub bit_fits : (s : Sampled) (bytes : List ℕ) (places : List ℕ) (page : ℕ) → page / SAMPLED < length s.places → IsSampleOf (bits_of bytes) s places → bit_before s page ≤ length (bits_of bytes)
bit_fits s bytes places page lt h = let a = h.samples (page / SAMPLED) lt in prefix_fits s.code (bits_of bytes) _ _ _ a.0 a.1

-- so no such file ends before it
pub not_cut : (s : Sampled) (bytes places : List ℕ) (page bit : ℕ) → length (bits_of bytes) < bit → page / SAMPLED < length s.places → bit ≡ bit_before s page → IsSampleOf (bits_of bytes) s places → ⊥
not_cut s bytes places page bit past lt is h = omega (arith, past, is, bit_fits s bytes places page lt h)
