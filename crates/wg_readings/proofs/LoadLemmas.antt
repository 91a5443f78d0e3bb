-- A file that is read whole, and then validated.
use Rattle.std.proofs.Common.{◌≡◌, ◌∙◌, ◌⊎◌, inl, inr, ℕ, Bool, List, Option, Result, Ok, Err, sym, ap, subst, arith}
use Rattle.std.specs.{Bool.IsTrue, Result.IfErr, Result.IfOk}
use Rattle.wg_outside.specs.{Outside.Files, Outside.Counts, declared.output.Output.Output}
use Rattle.wg_params.specs.Parameters.{Parameters}
use Rattle.wg_graph.specs.Digraph.{Digraph}
use Rattle.wg_outcomes.specs.{Answers.Steps, Answers.status_in, Causes.HasCause, Promised.IsBadFile, Readings.Readings}
use Rattle.wg_outcomes.specs.{Judged.Judged, Judged.with_digraph, Judged.with_file, declared.ending.Ending.Ending}
use Rattle.wg_readings.specs.Loading.{Loads, LoadsGraph, LoadsText, Reads, ReadsNamed}
use Rattle.wg_outcomes.specs.Names.{IsOfInput, file_of, held_by, text_named}
use Rattle.wg_outcomes.specs.{declared.status.Input.Input, declared.status.Status.TheVariants.Memory}
use Rattle.wg_outcomes.specs.declared.status.Input.TheVariants.{Graph, Text}
use Rattle.wg_outcomes.proofs.Statuses.{IsOwn, bad_own}
use Rattle.wg_readings.proofs.ReadingsLaws.{the_readings}

-- memory ran out before the file was asked for
pub loads_none : (names : Input → Option (List ℕ)) (i : Input) (td : Bool) (files : Files) (counts : List ℕ → Counts) (e : Ending) → e.status ≡ Memory → Loads names i td files files counts counts (Err e)
loads_none names i td files counts e want = grind arith

-- nothing outside is the cause of an end
pub end_caused : {B : Type 0} (names : Input → Option (List ℕ)) (outputs : Output → Option (List ℕ)) (old new : List ℕ → Counts) (f f' : ℕ) (r : Result B Ending) → IfErr r (λ e. IsOwn e.status) → HasCause names outputs old new f f' (status_in r)
end_caused names outputs old new f f' r h = grind arith

-- ---- a file that is validated as `inner` says
module _ {B : Type 0} (i : Input) (names : Input → Option (List ℕ)) (IsFault : Ending → Type 0) (inner : List ℕ → (B → Judged) → Judged) (td : Bool) (files files' : Files) (counts counts' : List ℕ → Counts) where
  abbrev step : Option (List ℕ) → (B → Judged) → Judged
  step held next = with_file i held (λ bytes. inner bytes next)

  abbrev pub HasRead : Result B Ending → Type 0
  HasRead r = ReadsNamed i names IsFault step td files files' counts counts' r

  pub named_unloaded : (e : Ending) → Loads names i td files files' counts counts' (Err e) → HasRead (Err e)
  named_unloaded e l = grind arith

  module _ (bytes slice : List ℕ) (is : slice ≡ bytes) (l : Loads names i td files files' counts counts' (Ok bytes)) where
    goes : IsTrue td → (next : B → Judged) → step (held_by names files i) next ≡ inner slice next
    goes t next = l.steps t (λ x. inner x next) ∙ ap (λ (x : List ℕ). inner x next) (sym is)

    -- it ends the job as `IsEnd` says, if it does
    pub loaded_by : (IsEnd : Ending → Type 0) → ((e : Ending) → IsEnd e → IsOwn e.status × (IsOfInput i e.status ⊎ IsFault e)) → (r : Result B Ending) → Steps (inner slice) r → IfErr r IsEnd → HasRead r
    loaded_by IsEnd ends r steps only = grind arith

    pub named_loaded : ((e : Ending) → IsFault e → IsOwn e.status) → (r : Result B Ending) → Steps (inner slice) r → IfErr r (λ e. (e.status ≡ Memory) ⊎ IsFault e) → HasRead r
    named_loaded own r steps only = loaded_by (λ e. (e.status ≡ Memory) ⊎ IsFault e) either r steps only
      where
        either : (e : Ending) → (e.status ≡ Memory) ⊎ IsFault e → IsOwn e.status × (IsOfInput i e.status ⊎ IsFault e)
        either e (inl want) = (subst IsOwn (sym want) tt, inl (inl want))
        either e (inr fault) = (own e fault, inr fault)

-- ---- an ASCIIGraph text
pub text_unloaded : (name : List ℕ) (td : Bool) (files files' : Files) (counts counts' : List ℕ → Counts) (e : Ending) → Loads (text_named name) Text td files files' counts counts' (Err e) → LoadsText name td files files' counts counts' (Err e)
text_unloaded name td files files' counts counts' e l = grind arith

-- ---- one of an archive's files
module _ {B : Type 0} (base : List ℕ) (i : Input) (promised : ℕ) (inner : Readings → List ℕ → (B → Judged) → Judged) (td : Bool) (files files' : Files) (counts counts' : List ℕ → Counts) where
  abbrev step_of : Readings → Option (List ℕ) → (B → Judged) → Judged
  step_of q held next = with_file i held (λ bytes. inner q bytes next)

  pub record IsRead (r : Result B Ending) : Type 0 where
    pub reads : Reads {A = B} {B = B} base i promised step_of td files files' counts counts' r
    pub goes : IsTrue td → (q : Readings) → Steps (step_of q (held_by (file_of base) files i)) r

  each : (r : Result B Ending) → ((q : Readings) → ReadsNamed i (file_of base) (IsBadFile i promised) (step_of q) td files files' counts counts' r) → IsRead r
  each (Ok b) h = let k = h the_readings in record { reads = record { ends = tt; same = k.same; later = k.later }; goes = λ t q. (h q).steps t }
  each (Err e) h =
      let k = h the_readings in
      record {
        reads = record { ends = record { only = k.only; causes = k.causes; refused = λ t q. (h q).steps t }; same = k.same; later = k.later };
        goes = λ t q. (h q).steps t;
      }

  pub read_unloaded : (e : Ending) → Loads (file_of base) i td files files' counts counts' (Err e) → IsRead (Err e)
  read_unloaded e l = each (Err e) (λ q. named_unloaded i (file_of base) (IsBadFile i promised) (inner q) td files files' counts counts' e l)

  pub read_loaded : (bytes slice : List ℕ) → slice ≡ bytes → Loads (file_of base) i td files files' counts counts' (Ok bytes) → (r : Result B Ending) → ((q : Readings) → Steps (inner q slice) r)
      → IfErr r (IsBadFile i promised) → IsRead r
  read_loaded bytes slice is l r steps bad =
      each r (λ q.
      loaded_by i (file_of base) (IsBadFile i promised) (inner q) td files files' counts counts' bytes slice is l (IsBadFile i promised) (λ e b. (bad_own i promised e b, inr b)) r (steps q) bad)

-- ---- a graph file that stays held while its lists are read
module _ (base : List ℕ) (p : Parameters) (td : Bool) (files files' : Files) (counts counts' : List ℕ → Counts) where
  pub graph_unloaded : (e : Ending) → Loads (file_of base) Graph td files files' counts counts' (Err e) → LoadsGraph base p td files files' counts counts' (Err e)
  graph_unloaded e l = let k = read_unloaded base Graph p.arcs (λ r. with_digraph r p) td files files' counts counts' e l in record { reads = k.reads; goes = k.goes; nodes = tt }

  pub graph_loaded : (bytes slice : List ℕ) → slice ≡ bytes → Loads (file_of base) Graph td files files' counts counts' (Ok bytes)
      → (r : Result Digraph Ending) → ((q : Readings) → Steps (with_digraph q p slice) r) → IfErr r (IsBadFile Graph p.arcs) → IfOk r (λ g. g.nodes ≡ p.nodes)
      → LoadsGraph base p td files files' counts counts' r
  graph_loaded bytes slice is l r steps bad nodes =
      let k = read_loaded base Graph p.arcs (λ q. with_digraph q p) td files files' counts counts' bytes slice is l r steps bad in
      record { reads = k.reads; goes = k.goes; nodes = nodes }
