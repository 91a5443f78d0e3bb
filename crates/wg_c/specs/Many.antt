-- Why a call for several pages ends before the last of them.
use Rattle.std.specs.Prelude.{◌≡◌, ◌⊎◌, ℕ, ◌≤◌, Bool, List, Err}
use Rattle.wg_params.specs.Parameters.{Parameters}
use Rattle.wg_decoder.specs.Chains.{SpotReads}
use Rattle.wg_grammar.specs.declared.fault.ArchiveFault.{ArchiveFault}
use Rattle.wg_memory.specs.Answers.{Falls}
use Rattle.wg_memory.specs.Many.{HasNoRoom}
use Rattle.wg_c.specs.declared.fault.WgFault.{WgFault}
use Rattle.wg_c.specs.Faults.{fault_in}

-- the status says why a page is not read, if so much of the room is used; with status 9 this is the fault
abbrev pub Ends : Parameters → List Bool → List ℕ → ℕ → ℕ → ℕ → WgFault → ℕ → Type 0
Ends p bits places page used room fault status =
    ((status ≡ 10) × (p.nodes ≤ page))
    ⊎ ((status ≡ 9) × (f : ArchiveFault) × SpotReads p bits places page (Err f) × (fault ≡ fault_in f))
    ⊎ ((status ≡ 18) × (y : ℕ) × Falls places y) ⊎ ((status ≡ 17) × HasNoRoom p bits places page used room)
    ⊎ (status ≡ 3)
