-- A call failed on one of the two files, as seen from an earlier moment.
use Rattle.std.proofs.Common.{◌≡◌, ℕ, List, sym, subst, inl, inr}
use Rattle.wg_outside.specs.Outside.{Counts, NonDecreasing}
use Rattle.wg_outside.specs.Suffixes.{graph_name, offsets_name}
use Rattle.wg_outside.specs.declared.output.Output.TheVariants as output
use Rattle.wg_outside.proofs.LoadLemmas.{risen}
use Rattle.wg_encoder.specs.declared.error.EncodeError.{EncodeError}
use Rattle.wg_encoder.specs.declared.error.EncodeError.TheVariants as error
use Rattle.wg_encoder.specs.Gone.{HasFailed, HasFailedOn}

pub failed_since : (base : List ℕ) (a b c : List ℕ → Counts) (why : EncodeError) → NonDecreasing a b → HasFailed base b c why → HasFailed base a c why
failed_since base a b c (error.Failed output.Graph) on h = risen _ _ _ (on.write_faults (graph_name base)) h
failed_since base a b c (error.Failed output.Offsets) on h = risen _ _ _ (on.write_faults (offsets_name base)) h
failed_since base a b c error.Memory on h = tt
failed_since base a b c (error.Failed output.Properties) on h = h
failed_since base a b c (error.Failed output.Certificate) on h = h
failed_since base a b c (error.Failed output.Out) on h = h

pub failed_by_memory : (base : List ℕ) (a b : List ℕ → Counts) (why : EncodeError) → why ≡ error.Memory → HasFailed base a b why
failed_by_memory base a b why is = subst (HasFailed base a b) (sym is) tt

pub failed_on_graph : (base : List ℕ) (a b : List ℕ → Counts) (why : EncodeError) → HasFailedOn output.Graph (a (graph_name base)).write_faults (b (graph_name base)).write_faults why → HasFailed base a b why
failed_on_graph base a b why h = elim h [
  | inl f ↦ subst (HasFailed base a b) (sym f.0) f.1
  | inr m ↦ failed_by_memory base a b why m
]

pub failed_on_offsets : (base : List ℕ) (a b : List ℕ → Counts) (why : EncodeError) → HasFailedOn output.Offsets (a (offsets_name base)).write_faults (b (offsets_name base)).write_faults why → HasFailed base a b why
failed_on_offsets base a b why h = elim h [
  | inl f ↦ subst (HasFailed base a b) (sym f.0) f.1
  | inr m ↦ failed_by_memory base a b why m
]
