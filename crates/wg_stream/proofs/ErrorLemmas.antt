-- An error of a record is one of the graph file, and what holds of an answer that is none.
use Rattle.std.proofs.Common.{◌≡◌, Result, Ok, Err}
use Rattle.std.specs.Result.{OnOk}
use Rattle.wg_grammar.specs.declared.error.ReadError.{ReadError}
use Rattle.wg_grammar.specs.declared.error.ReadError.TheVariants.{Fault, Memory, Refused}
use Rattle.wg_grammar.specs.declared.fault.Fault.{Fault as RecordFault}
use Rattle.wg_grammar.specs.Errors.{OfFault, of_record}
use Rattle.wg_stream.specs.Errors.{IsOfGraph}

pub on_ok : {A E : Type 0} (x : Result A E) (P Q : Type 0) → (P → Q) → OnOk x P → OnOk x Q
on_ok (Ok a) P Q on h = on h
on_ok (Err e) P Q on h = tt

pub holds_ok : {A E : Type 0} (x : Result A E) → OnOk x (Unit {0})
holds_ok (Ok a) = tt
holds_ok (Err e) = tt

pub record_of_graph : {R : Type 0} (x : ReadError RecordFault R) → OfFault (of_record x) IsOfGraph
record_of_graph (Fault f) = tt
record_of_graph Memory = tt
record_of_graph (Refused r) = tt

-- one answer is no other
pub no_err : {A E : Type 0} {e : E} {a : A} → ◌≡◌ {A = Result A E} (Ok a) (Err e) → ⊥
no_err is = absurd (cc is)
