-- The properties file has a name of its own among the files of an archive.
use Rattle.std.proofs.Common.{◌≡◌, ◌≢◌, ℕ, List, length, ap, arith}
use Rattle.std.proofs.lemmas.List.{append_cancel_left}
use Rattle.wg_outside.specs.Suffixes.{properties_name, graph_name, offsets_name}
use Rattle.wg_outside.specs.declared.suffixes.TheConstants.{PROPERTIES, GRAPH, OFFSETS}

pub properties_graph : (base : List ℕ) → properties_name base ≢ graph_name base
properties_graph base same = let e : 11 ≡ 6 = ap (λ (s : List ℕ). length s) (append_cancel_left base PROPERTIES.now GRAPH.now same) in absurd (omega (arith, e))

pub properties_offsets : (base : List ℕ) → properties_name base ≢ offsets_name base
properties_offsets base same = let e : 11 ≡ 8 = ap (λ (s : List ℕ). length s) (append_cancel_left base PROPERTIES.now OFFSETS.now same) in absurd (omega (arith, e))
