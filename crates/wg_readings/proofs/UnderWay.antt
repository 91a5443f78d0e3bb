-- A reading of a graph file that is under way.
use Rattle.std.proofs.Common.{◌≡◌, ℕ, ◌≤◌, Bool, List, [], ◌∷◌, ◌++◌, length, sym, ◌∙◌, ap, subst, arith, append_assoc, length-append, Ok, ◌+◌, true, Option, Some, Err}
use Rattle.wg_params.specs.Parameters.{Parameters, IsWithinLimits}
use Rattle.wg_grammar.specs.{Record.Whole, Archive.Accepted, Archive.Pages, Archive.ReadsGraph, Archive.context_of}
use Rattle.wg_grammar.proofs.{OneRecord.record_one, OneGraph.graph_one}
use Rattle.wg_stream.specs.{Prefix.PagesRead, Prefix.AreBehind, declared.state.State.TheVariants.Open}
use Rattle.wg_readings.specs.Passes.{accepted_of, Advances, FollowsFile, IsFound, IsFresh, IsGraphFile, graph_then}
use Rattle.std.specs.Bool.{IsTrue}
use Rattle.std.specs.FinMap as map
use Rattle.wg_outside.specs.{Outside.Files, Outside.Counts, Outside.NonDecreasing, declared.suffixes.TheConstants.GRAPH}
use Rattle.wg_outside.proofs.FilesLemmas.{none_falls-trans}
use Rattle.wg_bits.specs.Bits.{bits_of}
use Rattle.wg_stream.specs.declared.state.State.{State}
use Rattle.wg_stream.specs.Reading.{Reading, AgreesIn, IsInStep, IsJudged, StaysInStep}
use Rattle.wg_outcomes.specs.{Answers.Steps, Causes.HasCause, Names.file_of, Names.held_by, Names.no_outputs}
use Rattle.wg_outcomes.specs.{Readings.Readings, declared.ending.Ending.Ending, declared.status.Input.Input}
use Rattle.wg_outcomes.specs.{declared.status.Input.TheVariants.Graph, declared.status.Status.Status}

-- ---- records that were read are the first of all records of their bits
module _ (p : Parameters) (bits : List Bool) where
  -- the records behind stay behind
  stay_behind : (behind : List Whole) (at : ℕ) (ws last : List Whole) (end : ℕ) → Pages p bits behind at ws last end → (rest : List Whole) × (last ≡ rest ++ behind)
  stay_behind behind at [] last end h = ([], h.0)
  stay_behind behind at (w ∷ ws) last end h =
      let k = stay_behind (w ∷ behind) w.end ws last end h.2 in
      (k.0 ++ w ∷ [], k.1 ∙ sym (append_assoc k.0 (w ∷ []) behind))

  -- fewer records are the first of more
  pages_one : IsWithinLimits p → (behind : List Whole) (at : ℕ) (ks ls last all : List Whole) (end far : ℕ) → Pages p bits behind at ks last end → Pages p bits behind at ls all far
      → length last ≤ length all → (rest : List Whole) × (all ≡ rest ++ last)
  pages_one limits behind at [] ls last all end far a b few = grind (arith, stay_behind)
  pages_one limits behind at (k ∷ ks) [] last all end far a b few =
      let r = stay_behind (k ∷ behind) k.end ks last end a.2 in
      absurd (omega (arith, few, ap length b.0, ap length r.1, length-append r.0 (k ∷ behind)))
  pages_one limits behind at (k ∷ ks) (l ∷ ls) last all end far a b few =
      let same : l ≡ k = cc (record_one p limits (context_of p behind) bits at (Ok l) (Ok k) b.1 a.1) in
      let rest : Pages p bits (k ∷ behind) k.end ls all far = subst (λ (r : Whole). Pages p bits (r ∷ behind) r.end ls all far) same b.2 in
      pages_one limits (k ∷ behind) k.end ks ls last all end far a.2 rest few

first_of : (p : Parameters) → IsWithinLimits p → (bits : List Bool) (x : Accepted) (whole : List Whole) (r : PagesRead) (at : ℕ) → r.params ≡ p → r.page ≤ p.nodes
    → AreBehind bits r at whole → ReadsGraph p bits (Ok x) → (rest : List Whole) × (x ≡ accepted_of (rest ++ whole))
first_of p limits bits x whole r at same few read g = grind (arith, pages_one)

-- So many records were read, of which this holds; no file has changed.
pub record IsUnderWay (told : Bool) (base : List ℕ) (p : Parameters) (files files' : Files) (counts counts' : List ℕ → Counts) (n : ℕ) (r : Reading) (P : List Whole → Type 0) : Type 0 where
  pub state : r.state ≡ Open
  pub params : r.pages.params ≡ p
  pub name : r.name ≡ base ++ GRAPH.now
  pub page : r.pages.page ≡ n
  pub same : files' ≡ files
  pub later : NonDecreasing counts counts'
  pub found : IsTrue told → IsFound files r
  pub follows : IsTrue told → (file : List ℕ) → map.get files (base ++ GRAPH.now) ≡ Some file → (whole : List Whole) × IsInStep file r whole × P whole

-- ---- causes of later moments
pub cause_later : (names : Input → Option (List ℕ)) (a b c : List ℕ → Counts) (s : Status) → NonDecreasing a b → HasCause names no_outputs b c 0 0 s → HasCause names no_outputs a c 0 0 s
cause_later names a b c s on h = grind arith

module _ (told : Bool) (base : List ℕ) (p : Parameters) (files : Files) (counts : List ℕ → Counts) where
  pub begins : (r : Reading) (P : List Whole → Type 0) → IsFresh base p r → P [] → IsUnderWay told base p files files counts counts 0 r P
  begins r P fresh none = grind arith

  module _ (files1 files2 : Files) (counts1 counts2 : List ℕ → Counts) (n : ℕ) (a b : Reading) (P : List Whole → Type 0) (h : IsUnderWay told base p files files1 counts counts1 n a P) where
    there_by : IsTrue told → (file : List ℕ) → map.get files a.name ≡ Some file → (whole : List Whole) × IsInStep file a whole × P whole
    there_by t file is = h.follows t file (ap (λ (n : List ℕ). map.get files n) (sym h.name) ∙ is)

    pub on_file : IsTrue told → FollowsFile files a
    on_file t file is = let k = there_by t file is in (k.0, k.1)

    pub goes_further : (Q : List Whole → Type 0) → Advances {B = Unit {0}} told files1 files2 counts1 counts2 p a b (Ok tt) → b.state ≡ Open → b.pages.page ≡ a.pages.page + 1
        → (IsTrue told → (held : Files) → files1 ≡ held → (file : List ℕ) → map.get held a.name ≡ Some file → (whole : List Whole) → IsInStep file a whole → StaysInStep file b whole (Ok true))
        → ((whole : List Whole) (w : Whole) → length whole ≡ n → w.known.list ≡ b.pages.list → w.end ≡ b.at → P whole → Q (w ∷ whole))
        → IsUnderWay told base p files files2 counts counts2 (n + 1) b Q
    goes_further Q step going more in_step on = record {
      state = going;
      params = step.params ∙ h.params;
      name = step.name ∙ h.name;
      page = more ∙ ap (λ (k : ℕ). k + 1) h.page;
      same = step.same ∙ h.same;
      later = none_falls-trans _ _ _ h.later step.later;
      found = λ t looked.
          let f = step.there t files h.same (h.found t) in
          (f.0, ap (λ (n : List ℕ). map.get files n) step.name ∙ f.1);
      follows = λ t file is.
          let k = h.follows t file is in
          let s = in_step t files h.same file (ap (λ (n : List ℕ). map.get files n) h.name ∙ is) k.0 k.1 in
          let read : AgreesIn Open file a k.0 = subst (λ (x : State). AgreesIn x file a k.0) h.state k.1 in
          (s.0 ∷ k.0, s.3, on k.0 s.0 (read.records.count ∙ h.page) s.1 s.2 k.2);
    }

    module _ {B : Type 0} (e : Ending) (step : Advances {B = B} told files1 files2 counts1 counts2 p a b (Err e)) where
      pub ends_told : IsTrue told → IsWithinLimits p → (r : Readings) → Steps {B = Accepted} (graph_then r p (held_by (file_of base) files Graph)) (Err e)
      ends_told t limits r =
          subst (λ (n : List ℕ). Steps {B = Accepted} (graph_then r p (map.get files n)) (Err e)) h.name
          (step.refused t limits files h.same (h.found t) (on_file t) r)

      pub ends_caused : HasCause (file_of base) no_outputs counts counts2 0 0 e.status
      ends_caused = cause_later (file_of base) counts counts1 counts2 e.status h.later (step.causes (file_of base) (ap Some (sym h.name)))

    -- what was validated to its end
    pub judged_by : Advances {B = Unit {0}} told files1 files2 counts1 counts2 p a b (Ok tt)
        → (IsTrue told → (held : Files) → files1 ≡ held → (file : List ℕ) → map.get held a.name ≡ Some file → (whole : List Whole) → IsInStep file a whole → IsJudged file p (Ok (accepted_of whole)))
        → IsTrue told → (x : Accepted) × IsGraphFile (held_by (file_of base) files Graph) p x
    judged_by step judged t =
        let f = step.there t files h.same (h.found t) in
        let k = there_by t f.0 f.1 in
        (accepted_of k.0, record { file = f.0; is = ap (λ (n : List ℕ). map.get files n) (sym h.name) ∙ f.1; judged = judged t files h.same f.0 f.1 k.0 k.1 })

    -- of a file that stands for a graph, the records that were read are all of its records
    pub all_read : IsWithinLimits p
        → (IsTrue told → (held : Files) → files1 ≡ held → (file : List ℕ) → map.get held a.name ≡ Some file → (whole : List Whole) → IsInStep file a whole → IsJudged file p (Ok (accepted_of whole)))
        → IsTrue told → (x : Accepted) → IsGraphFile (held_by (file_of base) files Graph) p x → (whole : List Whole) × P whole × (x ≡ accepted_of whole)
    all_read limits judged t x g =
        let there : map.get files a.name ≡ Some g.file = ap (λ (n : List ℕ). map.get files n) h.name ∙ g.is in
        let k = there_by t g.file there in
        let j = judged t files h.same g.file there k.0 k.1 in
        (k.0, k.2, cc (graph_one p limits (bits_of g.file) (Ok x) (Ok (accepted_of k.0)) g.judged.reads j.reads))

    -- and before the end they are the first of its records
    pub first_read : IsWithinLimits p → n ≤ p.nodes → IsTrue told → (x : Accepted) → IsGraphFile (held_by (file_of base) files Graph) p x
        → (whole : List Whole) × P whole × (rest : List Whole) × (x ≡ accepted_of (rest ++ whole))
    first_read limits few t x g =
        let there : map.get files a.name ≡ Some g.file = ap (λ (n : List ℕ). map.get files n) h.name ∙ g.is in
        let k = there_by t g.file there in
        let read : AgreesIn Open g.file a k.0 = subst (λ (s : State). AgreesIn s g.file a k.0) h.state k.1 in
        let r = first_of p limits (bits_of g.file) x k.0 a.pages a.at h.params (omega (arith, h.page, few)) read.records g.judged.reads in
        (k.0, k.2, r.0, r.1)

-- at a later moment
pub way_later : (told : Bool) (base : List ℕ) (p : Parameters) (files files1 files2 : Files) (counts counts1 counts2 : List ℕ → Counts) (n : ℕ) (r : Reading) (P : List Whole → Type 0) → files2 ≡ files1 → NonDecreasing counts1 counts2
    → IsUnderWay told base p files files1 counts counts1 n r P → IsUnderWay told base p files files2 counts counts2 n r P
way_later told base p files files1 files2 counts counts1 counts2 n r P same later h = grind arith
