-- What holds of pages that are read by their chains alone.
use Rattle.std.specs.Prelude.{◌≡◌, ℕ, ◌<◌, Bool, List, [], get_or, Result, Ok}
use Rattle.wg_params.specs.Parameters.{Parameters, IsWithinLimits}
use Rattle.wg_grammar.specs.declared.fault.ArchiveFault.{ArchiveFault}
use Rattle.wg_grammar.specs.Archive.{Accepted, ReadsGraph}
use Rattle.wg_grammar.specs.Context.{Known}
use Rattle.wg_decoder.specs.Chains.{SpotReads}

-- A page has at most one list, or at most one fault, and never both.
abbrev pub SpotIsOne : Type 0
SpotIsOne =
    (p : Parameters) (bits : List Bool) (offsets : List ℕ) (x : ℕ) (v w : Result Known ArchiveFault) → IsWithinLimits p
    → SpotReads p bits offsets x v → SpotReads p bits offsets x w → v ≡ w

-- It has a list or a fault.
abbrev pub SpotIsSome : Type 0
SpotIsSome =
    (p : Parameters) (bits : List Bool) (offsets : List ℕ) (x : ℕ) → IsWithinLimits p
    → (w : Result Known ArchiveFault) × SpotReads p bits offsets x w

-- If the bits stand for a graph, and the offsets are those of its records, a page has its list of this graph.
abbrev pub SpotAgrees : Type 0
SpotAgrees =
    (p : Parameters) (bits : List Bool) (a : Accepted) (x : ℕ) → ReadsGraph p bits (Ok a) → x < p.nodes
    → (k : Known) × (k.list ≡ get_or a.graph x []) × SpotReads p bits a.places x (Ok k)
