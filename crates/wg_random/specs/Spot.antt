-- What a call answers that reads one page of an archive that was not checked.
use Rattle.std.specs.Prelude.{◌≡◌, ℕ, ◌+◌, ◌-◌, ◌<◌, ◌≤◌, Bool, List, length, get_or, Result, Ok, Err}
use Rattle.wg_params.specs.Parameters.{Parameters}
use Rattle.wg_grammar.specs.Context.{Known}
use Rattle.wg_decoder.specs.Chains.{HeadReads, ChainReads, IsChain}
use Rattle.wg_grammar.specs.declared.error.ReadError.{ReadError}
use Rattle.wg_grammar.specs.declared.fault.ArchiveFault.{ArchiveFault}
use Rattle.wg_grammar.specs.declared.error.ReadError.TheVariants.{Fault, Memory, Refused}
use Rattle.wg_random.specs.declared.error.SpotError.{SpotError}
use Rattle.wg_random.specs.declared.error.SpotError.TheVariants as errors

-- pages from x on, each of which refers to the next, and the last to none
pub record IsWholeChain (p : Parameters) (bits : List Bool) (offsets : List ℕ) (x : ℕ) (chain : List ℕ) : Type 0 where
  pub links : IsChain p bits offsets x chain
  pub last : HeadReads p bits offsets (get_or chain (length chain - 1) 0) (Ok 0)

-- The list of page x, or why there is none: this is the fault of its chain, or memory ran out, or a word was
-- refused. The count rises by one for each page of the chain, and by no more than that if the chain was not read to
-- its end.
abbrev pub ChainAnswers : {R : Type 0} → Parameters → List Bool → List ℕ → ℕ → ℕ → ℕ
    → Result (List ℕ) (ReadError ArchiveFault R)
    → Type 0
ChainAnswers p bits offsets x from to (Ok list) =
    (zs : List ℕ) × (k : Known) × ChainReads p bits offsets x zs (Ok k) × (list ≡ k.list) × (to ≡ from + length zs + 1)
ChainAnswers p bits offsets x from to (Err (Fault f)) = (zs : List ℕ) × ChainReads p bits offsets x zs (Err f)
    × (to ≡ from + length zs + 1)
ChainAnswers p bits offsets x from to (Err Memory) = (chain : List ℕ) × IsChain p bits offsets x chain
    × (to ≤ from + length chain)
ChainAnswers p bits offsets x from to (Err (Refused r)) = (chain : List ℕ) × IsChain p bits offsets x chain
    × (to ≤ from + length chain)

-- The list of page x, or why there is none, of bits in memory, which refuse no word. There may be no such page.
abbrev pub SpotAnswers : Parameters → List Bool → List ℕ → ℕ → ℕ → ℕ → Result (List ℕ) SpotError → Type 0
SpotAnswers p bits offsets x from to (Ok list) =
    (x < p.nodes) × (zs : List ℕ) × (k : Known) × ChainReads p bits offsets x zs (Ok k) × (list ≡ k.list)
    × (to ≡ from + length zs + 1)
SpotAnswers p bits offsets x from to (Err errors.NoPage) = (p.nodes ≤ x) × (to ≡ from)
SpotAnswers p bits offsets x from to (Err (errors.Archive f)) = (x < p.nodes) × (zs : List ℕ)
    × ChainReads p bits offsets x zs (Err f) × (to ≡ from + length zs + 1)
SpotAnswers p bits offsets x from to (Err errors.Memory) = (x < p.nodes) × (chain : List ℕ)
    × IsChain p bits offsets x chain × (to ≤ from + length chain)
