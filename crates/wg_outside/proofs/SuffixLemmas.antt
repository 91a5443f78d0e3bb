-- The files of an archive have names of their own.
use Rattle.std.proofs.Common.{◌≡◌, ◌≢◌, ℕ, List, length, ap, arith}
use Rattle.std.proofs.lemmas.List.{append_cancel_left}
use Rattle.wg_outside.specs.Suffixes.{graph_name, offsets_name}
use Rattle.wg_outside.specs.declared.suffixes.TheConstants.{GRAPH, OFFSETS}

pub graph_offsets : (base : List ℕ) → graph_name base ≢ offsets_name base
graph_offsets base same = let e : 6 ≡ 8 = ap (λ (s : List ℕ). length s) (append_cancel_left base GRAPH.now OFFSETS.now same) in absurd (omega (arith, e))
