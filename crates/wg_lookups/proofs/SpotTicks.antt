-- The records that `spot` opens.
use Rattle.std.proofs.Common.{◌≡◌, inl, inr, ℕ, List, Option, Some, Result, Ok, Err, refl, arith}
use Rattle.std.specs.FinMap as map
use Rattle.std.specs.Result.{IsErrAnd}
use Rattle.wg_outside.specs.Outside.{Files}
use Rattle.wg_outside.proofs.PutsLemmas.{is_that_err}
use Rattle.wg_bits.specs.Bits.{bits_of}
use Rattle.wg_params.specs.Parameters.{Parameters}
use Rattle.wg_source.specs.Held.{HeldBytes, IsHeldOf}
use Rattle.wg_grammar.specs.{declared.error.ReadError.ReadError, declared.fault.ArchiveFault.ArchiveFault}
use Rattle.wg_random.specs.Spot.{ChainAnswers}
use Rattle.wg_outcomes.specs.{Names.file_of, Names.held_by, declared.ending.Ending.Ending, declared.status.Input.Input}
use Rattle.wg_outcomes.specs.declared.status.Input.TheVariants.{Graph}
use Rattle.wg_readings.specs.Finding.{IsOpenOn}
use Rattle.wg_lookups.proofs.ShownLemmas.{if_always}
use Rattle.wg_lookups.specs.{Sampling.IsSampled, Spotting.IsChainOpened, Spotting.OpensChain, Spotting.SpotsByChain}
use Rattle.wg_lookups.specs.{declared.chain_files.Unread.Unread, declared.sampled.SampledFile.SampledFile}

-- a job that has ended before it opened any
pub none_spotted : (held : Input → Option (List ℕ)) (p : Parameters) (bytes : List ℕ) (page n : ℕ) (r : Result (Unit {0}) Ending) (e : Ending) → IsErrAnd r (λ x. x ≡ e) → SpotsByChain held p bytes page n n r
none_spotted held p bytes page n r e is = rw (is_that_err r e is) record { each = tt; most = inl refl }

-- the graph file that was found is the one that the depot held from the start
pub graph_at : (base : List ℕ) (files files1 files2 : Files) (name : List ℕ) (h : HeldBytes) → file_of base Graph ≡ Some name → files1 ≡ files → files2 ≡ files1 → IsOpenOn (map.get files1 name) h
    → (bytes : List ℕ) → held_by (file_of base) files Graph ≡ Some bytes → (map.get files2 name ≡ Some bytes) × IsHeldOf bytes h
graph_at base files files1 files2 name h named same same2 found bytes is = grind arith

module _ (base : List ℕ) (files files1 : Files) (p q : Parameters) (bytes : List ℕ) (page from to : ℕ) where
  opened : (answer : Result (List ℕ) (ReadError ArchiveFault Unread)) → files1 ≡ files → p ≡ q → (s : SampledFile) → (stored : IsSampled (file_of base) files1 p s)
      → ChainAnswers p (bits_of bytes) stored.places page from to answer
      → IsChainOpened (held_by (file_of base) files) q bytes page from to answer
  opened answer same params s stored answers = grind arith

  -- its successors were not read
  pub unlisted_by : (r : Result (Unit {0}) Ending) (e : Ending) → IsErrAnd r (λ x. x ≡ e) → files1 ≡ files → p ≡ q → {s : SampledFile} → (stored : IsSampled (file_of base) files1 p s)
      → OpensChain p (bits_of bytes) stored.places page from to (Err e) → SpotsByChain (held_by (file_of base) files) q bytes page from to r
  unlisted_by r e is same params {s} stored (inl none) = rw (is_that_err r e is) record { each = tt; most = inl none }
  unlisted_by r e is same params {s} stored (inr (why, answers)) =
      rw (is_that_err r e is) record { each = tt; most = inr (Err why, opened (Err why) same params s stored answers) }

  -- they were
  pub listed_by : (list : List ℕ) (r : Result (Unit {0}) Ending) → files1 ≡ files → p ≡ q → {s : SampledFile} → (stored : IsSampled (file_of base) files1 p s)
      → OpensChain p (bits_of bytes) stored.places page from to (Ok list) → SpotsByChain (held_by (file_of base) files) q bytes page from to r
  listed_by list r same params {s} stored answers =
      let h = opened (Ok list) same params s stored answers in
      record { each = if_always r (list, h); most = inr (Ok list, h) }
