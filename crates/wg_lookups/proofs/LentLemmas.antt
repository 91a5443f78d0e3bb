-- What is said of a source of a file is said of the depot that is seen again behind it.
use Rattle.std.proofs.Common.{◌≡◌, ℕ, Bool, List, Some, Result, Err, refl, sym, subst, arith}
use Rattle.std.specs.{Bool.IsTrue, Result.IfErr}
use Rattle.std.specs.FinMap as map
use Rattle.wg_bits.specs.Bits.{bits_of}
use Rattle.wg_outside.specs.{Outside.Files, Outside.Counts, declared.whole.LoadError.LoadError}
use Rattle.wg_params.specs.{declared.code.Code.Code, Parameters.Parameters}
use Rattle.wg_source.specs.{Held.HeldBytes, Held.IsHeldOf, Stepping.Steps, Stepping.Moves, Stepping.HasCause}
use Rattle.wg_grammar.specs.Errors.{OfFault, OfRefusal, OnFault, OnRefusal, WantsNoMemory}
use Rattle.wg_offsets.specs.{Words.ReadsOffsets, Sampling.IsSampleOf}
use Rattle.wg_grammar.specs.{declared.error.ReadError.ReadError, declared.fault.OffsetWord.OffsetWord}
use Rattle.wg_outcomes.specs.declared.ending.Ending.{Ending}
use Rattle.wg_readings.specs.{Pairing.IsStopped, Pairing.word_ending, Finding.IsOpenOn}
use Rattle.wg_readings.proofs.PairingLemmas.{word_stopped}
use Rattle.wg_lookups.specs.{Sampling.HasWordCause, declared.sampled.SampledFile.SampledFile}
use Rattle.wg_lookups.proofs.SamplingLemmas.{word_caused}

-- the bits of a file that is there, of which this is held
abbrev pub HasBitsOf : Bool → Files → List ℕ → HeldBytes → List Bool → Type 0
HasBitsOf told f name h bits = IsTrue told × ((file : List ℕ) × (map.get f name ≡ Some file) × IsHeldOf file h × (bits_of file ≡ bits))

-- the bits of a file that was found
pub found_bits : (told : Bool) (f : Files) (name : List ℕ) (h : HeldBytes) → IsTrue told → (o : IsOpenOn (map.get f name) h) → HasBitsOf told f name h (bits_of o.file)
found_bits told f name h t o = (t, (o.file, o.is, o.held, refl))

-- they are there after a move, too
pub found_moved : (told : Bool) (name1 name2 : List ℕ) (f1 f2 : Files) (c1 c2 : List ℕ → Counts) (h1 h2 : HeldBytes) → name2 ≡ name1 → Moves told name1 f1 f2 c1 c2 h1 h2
    → IsTrue told → (o : IsOpenOn (map.get f1 name1) h1) → HasBitsOf told f2 name2 h2 (bits_of o.file)
found_moved told name1 name2 f1 f2 c1 c2 h1 h2 is l t o = grind arith

-- the depot is seen again behind the source
module _ {D N : Type 0} (files : D → Files) (counts : D → List ℕ → Counts) (d1 d2 d3 : D) (m n : N) (end : m ≡ n → d3 ≡ d2) (left : n ≡ m) (told : Bool) where
  pub steps_lent : (name : List ℕ) (h1 h2 : HeldBytes) → Steps told name (files d1) (files d2) (counts d1) (counts d2) h1 h2 → Steps told name (files d1) (files d3) (counts d1) (counts d3) h1 h2
  steps_lent name h1 h2 a = subst (λ (d : D). Steps told name (files d1) (files d) (counts d1) (counts d) h1 h2) (sym (end (sym left))) a

  pub moves_lent : (name : List ℕ) (h1 h2 : HeldBytes) → Moves told name (files d1) (files d2) (counts d1) (counts d2) h1 h2 → Moves told name (files d1) (files d3) (counts d1) (counts d3) h1 h2
  moves_lent name h1 h2 a = subst (λ (d : D). Moves told name (files d1) (files d) (counts d1) (counts d) h1 h2) (sym (end (sym left))) a

  pub cause_lent : (name : List ℕ) (h : HeldBytes) (e : LoadError) → HasCause told name (files d1) (counts d1) (counts d2) h e → HasCause told name (files d1) (counts d1) (counts d3) h e
  cause_lent name h e a = subst (λ (d : D). HasCause told name (files d1) (counts d1) (counts d) h e) (sym (end (sym left))) a

  -- the offsets file was not read to its end
  pub stopped_lent : (name : List ℕ) (h : HeldBytes) (p : Parameters) (code : Code) (pages : ℕ) → code ≡ p.offsets → pages ≡ p.nodes → (e : ReadError OffsetWord LoadError) (ending : Ending)
      → ending ≡ word_ending p.arcs e
      → OfRefusal e (HasCause told name (files d1) (counts d1) (counts d2) h) → ((bits : List Bool) → HasBitsOf told (files d1) name h bits → OfFault e (λ w. ReadsOffsets code pages bits (Err w)))
      → (IsTrue told → IsOpenOn (map.get (files d1) name) h) → IsStopped told (files d1) (counts d1) (counts d3) p name ending
  stopped_lent name h p code pages is_code is_pages e ending is refused fault open_on =
      subst (IsStopped told (files d1) (counts d1) (counts d3) p name) (sym is)
      (word_stopped told name (files d1) (counts d1) (counts d3) h p e
      (subst (λ (d : D). OfRefusal e (HasCause told name (files d1) (counts d1) (counts d) h)) (sym (end (sym left))) refused) open_on
      (λ t file there at.
      subst (λ (c : Code). OfFault e (λ w. ReadsOffsets c p.nodes (bits_of file) (Err w))) is_code
      (subst (λ (k : ℕ). OfFault e (λ w. ReadsOffsets code k (bits_of file) (Err w))) is_pages
      (fault (bits_of file) (t, (file, there, at, refl))))))

  -- words of the offsets file were not read again
  pub words_lent : {A : Type 0} (d : D) (s : SampledFile) (name : List ℕ) (h : HeldBytes) → name ≡ s.file.name → Moves told s.file.name (files d1) (files d) (counts d1) (counts d) s.file.held h
      → (x : Result A (ReadError OffsetWord LoadError)) → WantsNoMemory x → OnRefusal x (HasCause told name (files d) (counts d) (counts d2) h)
      → ((bits : List Bool) (places : List ℕ) → HasBitsOf told (files d) name h bits → IsSampleOf bits s.samples places → OnFault x (λ w. ⊥))
      → IfErr x (HasWordCause told (files d1) (counts d1) (counts d3) s)
  words_lent d s name h is moves x other refused right =
      word_caused told (files d1) (files d) (counts d1) (counts d) (counts d3) s h x moves other
      (subst (λ (k : List ℕ). OnRefusal x (HasCause told k (files d) (counts d) (counts d3) h)) is
      (subst (λ (b : D). OnRefusal x (HasCause told name (files d) (counts d) (counts b) h)) (sym (end (sym left))) refused))
      (λ t places on. right (bits_of on.open_on.file) places (found_moved told s.file.name name (files d1) (files d) (counts d1) (counts d) s.file.held h is moves t on.open_on) on.is)
