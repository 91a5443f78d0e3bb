-- Bits stand for one graph at most.
use Rattle.std.proofs.Common.{◌≡◌, ℕ, Bool, List, Ok, Err, Result, ap}
use Rattle.std.proofs.Math.Logic.{∥∥₁_elim, ∥∥₁_prop}
use Rattle.std.specs.Coded.{Coded-set, coded_ℕ, coded_list}
use Rattle.wg_params.specs.Parameters.{Parameters}
use Rattle.wg_grammar.specs.declared.fault.ArchiveFault.{ArchiveFault}
use Rattle.wg_grammar.specs.Archive.{Accepted}
use Rattle.wg_grammar.proofs.OneGraph.{graph_one}
use Rattle.wg_stream.specs.Sweeping.{StandFor, HaveGraph}
use mathlib.Core.HLevel.{Σ_prop_path}

abbrev graph_in : Result Accepted ArchiveFault → List (List ℕ) → List (List ℕ)
graph_in (Ok a) none = a.graph
graph_in (Err e) none = none

pub one_set : (g h : List (List ℕ)) → IsProp (g ≡ h)
one_set g h = Coded-set (coded_list (coded_list coded_ℕ)) g h

pub stand_one : (p : Parameters) (bits : List Bool) (g h : List (List ℕ)) → StandFor p bits g → StandFor p bits h
    → g ≡ h
stand_one p bits g h a b =
    ap (λ (w : Result Accepted ArchiveFault). graph_in w g)
    (graph_one p a.limits bits (Ok (record { graph = g; places = a.places }))
    (Ok (record { graph = h; places = b.places })) a.reads b.reads)

pub have_one : (p : Parameters) (bits : List Bool) → IsProp (HaveGraph p bits)
have_one p bits = λ u v. Σ_prop_path (λ g. ∥∥₁_prop)
    (∥∥₁_elim u.1 (one_set u.0 v.0) (λ a. ∥∥₁_elim v.1 (one_set u.0 v.0) (λ b. stand_one p bits u.0 v.0 a b)))
