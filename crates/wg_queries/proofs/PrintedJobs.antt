-- A pass over a graph file that prints a text, and a job that validates the file before.
use Rattle.std.proofs.Common.{◌≡◌, ◌⊎◌, inl, inr, ℕ, ◌<◌, ◌≤◌, Bool, List, [], ◌∷◌, ◌++◌, length, take, refl, sym, ◌∙◌, ap, subst, append_assoc, Some, Result, Ok, Err, arith, ◌≢◌, true, false, is_some, Option}
use Rattle.std.specs.{Bool.IsTrue, Result.IfErr, Result.IsErrAnd}
use Rattle.std.specs.FinMap as map
use Rattle.std.proofs.lemmas.List.{append-nil, length-append, take_at}
use Rattle.wg_outside.specs.{Outside.Files, Outside.Counts, Outside.Increased, Outside.NonDecreasing, Puts.Puts}
use Rattle.wg_lines.specs.Printing.{HasPrinted, HasPrintedLess}
use Rattle.wg_outside.specs.{declared.output.Output.TheVariants.Out, declared.output.Output.Output}
use Rattle.wg_outside.proofs.{FilesLemmas.none_falls-trans, PutsLemmas.is_that_err}
use Rattle.wg_lines.proofs.PrintLemmas.{puts_in_the_end}
use Rattle.wg_params.specs.Parameters.{Parameters, IsWithinLimits}
use Rattle.wg_grammar.specs.{Archive.Accepted, Record.Whole}
use Rattle.wg_stream.specs.Reading.{Reading, IsInStep, IsJudged}
use Rattle.wg_outcomes.specs.Answers.{IsHindrance, IsUnput, status_in, Answers, HasOutput, without}
use Rattle.wg_outcomes.specs.{Names.file_of, Names.no_outputs, Names.held_by, declared.ending.Ending.Ending}
use Rattle.wg_readings.specs.{Passes.Advances, Passes.accepted_of, Passes.graph_then, Loading.JudgesGraph}
use Rattle.wg_outcomes.specs.{Promised.IsStopAt, Promised.ArePromised, Promised.promised_in, Reached.Reaches}
use Rattle.wg_outcomes.specs.Performs.{OutCounts, Outside, outside, Performs, judged_on}
use Rattle.wg_queries.specs.Printed.{PrintsGraph, PutsUpTo}
use Rattle.wg_outcomes.specs.{declared.status.Input.TheVariants.Graph, Causes.HasCause, declared.status.Input.Input}
use Rattle.wg_outcomes.specs.declared.status.Status.TheVariants.{Memory, WriteFault}
use Rattle.wg_readings.proofs.{JudgeLemmas.read_hindered, JobSteps.ComesTo, JobSteps.Hold, JobSteps.reaches}
use Rattle.wg_outcomes.proofs.Statuses.{IsOwn, any_faults, bad_own, no_write, own_caused, unput_cause, unput_hinders, cause_named}
use Rattle.wg_readings.proofs.UnderWay.{IsUnderWay, all_read, ends_caused, first_read, cause_later}
use Rattle.wg_words.specs.declared.jobs.Job.{Job}
use Rattle.wg_outcomes.specs.Judged.{Judged, accepted, output_of, status_of}
use Rattle.wg_outcomes.specs.JobFiles.{input_name, output_name, prints_in_parts, prints_while_reading, writes_files}
use Rattle.wg_outcomes.proofs.PerformsLemmas.{files_same, nothing_whole}
use Rattle.wg_readings.proofs.JobPasses.{StopsOrUnput, graph_known, pass_possible, pass_read}

-- ---- texts that grow with the records

-- each record adds something to the end of the text
abbrev pub Grows : (Accepted → List ℕ) → Type 0
Grows text = (w : Whole) (ws : List Whole) → (piece : List ℕ) × (text (accepted_of (w ∷ ws)) ≡ text (accepted_of ws) ++ piece)

grows_on : (text : Accepted → List ℕ) → Grows text → (rest whole : List Whole) → (more : List ℕ) × (text (accepted_of (rest ++ whole)) ≡ text (accepted_of whole) ++ more)
grows_on text grows [] whole = ([], sym (append-nil (text (accepted_of whole))))
grows_on text grows (w ∷ rest) whole =
    let k = grows_on text grows rest whole in
    let s = grows w (rest ++ whole) in
    (k.0 ++ s.0, s.1 ∙ ap (λ (l : List ℕ). l ++ s.0) k.1 ∙ append_assoc (text (accepted_of whole)) k.0 s.0)

-- what went out is a prefix of a longer text
prefix_out : (old new out left more due text : List ℕ) → new ≡ old ++ out → text ≡ out ++ left → due ≡ text ++ more → new ≡ old ++ take (length out) due
prefix_out old new out left more due text taken bytes whole =
    let all : due ≡ out ++ (left ++ more) = whole ∙ ap (λ (l : List ℕ). l ++ more) bytes ∙ append_assoc out left more in
    taken ∙ ap (λ (l : List ℕ). old ++ l) (sym (ap (take (length out)) all ∙ take_at out (left ++ more) (length out) refl))

-- which lacks something
less_out : (out left more due text : List ℕ) → 0 < length left → text ≡ out ++ left → due ≡ text ++ more → length out < length due
less_out out left more due text some bytes whole = omega (arith, some, ap length whole, ap length bytes, length-append text more, length-append out left)

-- a stop at a file is no fault of an output
not_of_out : (n : ℕ) (e : Ending) → IsStopAt Graph n e → e.status ≡ WriteFault Out → ⊥
not_of_out n e h h2 = grind arith

puts_some : (due old new : List ℕ) (r : Result (Unit {0}) Ending) → Puts due old new r → PutsUpTo due old new r
puts_some due old new r h = grind arith

-- ---- why a pass ended

hinders_in : (r : Result (Unit {0}) Ending) → IfErr r (λ e. IsUnput e.status) → IfErr r (λ e. IsHindrance e.status)
hinders_in r h = grind arith

only_in : (n : ℕ) (r : Result (Unit {0}) Ending) → IfErr r (λ e. IsUnput e.status) → IfErr r (λ e. IsStopAt Graph n e ⊎ IsUnput e.status)
only_in n r h = grind arith

-- the exit of a `?`
pub prints_exit : (base : List ℕ) (p : Parameters) (text : Accepted → List ℕ) (td to : Bool) (before after : Outside) (r : Result (Unit {0}) Ending) (e : Ending) → IsErrAnd r (λ x. x ≡ e)
    → PrintsGraph base p text td to before after (Err e) → PrintsGraph base p text td to before after r
prints_exit base p text td to before after r e is h = subst (λ (x : Result (Unit {0}) Ending). PrintsGraph base p text td to before after x) (sym (is_that_err r e is)) h

module _ (base : List ℕ) (p : Parameters) (text : Accepted → List ℕ) (td to : Bool) (files : Files) (counts : List ℕ → Counts) (t0 : List ℕ) (f0 : OutCounts) where
  -- nothing was begun, since memory ran out
  pub prints_none : (e : Ending) → e.status ≡ Memory → PrintsGraph base p text td to (outside files counts t0 f0) (outside files counts t0 f0) (Err e)
  prints_none e want = grind (arith, append-nil, IsOwn, own_caused, unput_hinders)

  module _ (limits : IsWithinLimits p) (grows : Grows text) (files1 : Files) (counts1 : List ℕ → Counts) (n : ℕ) (a : Reading) (t1 : List ℕ) where
    -- the reading stopped
    pub prints_read : (waits : List ℕ) (h : IsUnderWay td base p files files1 counts counts1 n a (λ whole. IsTrue to → HasPrinted t0 t1 [] (text (accepted_of whole)) waits)) → n ≤ p.nodes
        → (files2 : Files) (counts2 : List ℕ → Counts) (b : Reading) (f1 : OutCounts) (e : Ending) → Advances {B = Unit {0}} td files1 files2 counts1 counts2 p a b (Err e)
        → PrintsGraph base p text td to (outside files counts t0 f0) (outside files2 counts2 t1 f1) (Err e)
    prints_read waits h few files2 counts2 b f1 e step = record {
      same = step.same ∙ h.same;
      later = none_falls-trans _ _ _ h.later step.later;
      only = inl step.only;
      causes = any_faults (file_of base) no_outputs counts counts2 f0.faults f1.faults e.status (ends_caused td base p files counts files1 files2 counts1 counts2 n a b _ h e step);
      hindered = λ t x g. read_hindered base p td files counts limits files1 files2 counts1 counts2 n a b _ h e step t x g;
      puts = λ t o x g.
          let k = first_read td base p files counts files1 files1 counts1 counts1 n a a _ h limits few t x g in
          let m = grows_on text grows k.2 k.0 in
          let q = k.1 o in
          (length q.out, λ is. absurd (not_of_out p.arcs e step.only is), prefix_out t0 t1 q.out waits m.0 (text x) (text (accepted_of k.0)) q.taken q.bytes (ap text k.3 ∙ m.1));
    }

    -- the output stopped
    pub prints_less : (h : IsUnderWay td base p files files1 counts counts1 n a (λ whole. IsTrue to → HasPrintedLess t0 t1 [] (text (accepted_of whole)))) → n ≤ p.nodes
        → (f1 : OutCounts) (e : Ending) → IsUnput e.status → (e.status ≡ WriteFault Out → Increased f0.faults f1.faults)
        → PrintsGraph base p text td to (outside files counts t0 f0) (outside files1 counts1 t1 f1) (Err e)
    prints_less h few f1 e only rose = record {
      same = h.same;
      later = h.later;
      only = inr only;
      causes = unput_cause (file_of base) no_outputs counts counts1 f0.faults f1.faults (Err e) only rose;
      hindered = λ t x g. unput_hinders e.status only;
      puts = λ t o x g.
          let k = first_read td base p files counts files1 files1 counts1 counts1 n a a _ h limits few t x g in
          let m = grows_on text grows k.2 k.0 in
          let q = k.1 o in (
            length q.out,
            λ is. less_out q.out q.left m.0 (text x) (text (accepted_of k.0)) q.some q.bytes (ap text k.3 ∙ m.1),
            prefix_out t0 t1 q.out q.left m.0 (text x) (text (accepted_of k.0)) q.taken q.bytes (ap text k.3 ∙ m.1),
          );
    }

    -- all was read, and what waits goes out
    pub prints_all : (waits : List ℕ) (h : IsUnderWay td base p files files1 counts counts1 n a (λ whole. IsTrue to → HasPrinted t0 t1 [] (text (accepted_of whole)) waits))
        → (files2 : Files) (counts2 : List ℕ → Counts) (b : Reading) → Advances {B = Unit {0}} td files1 files2 counts1 counts2 p a b (Ok tt)
        → (IsTrue td → (held : Files) → files1 ≡ held → (file : List ℕ) → map.get held a.name ≡ Some file → (whole : List Whole) → IsInStep file a whole → IsJudged file p (Ok (accepted_of whole)))
        → (t2 : List ℕ) (f1 : OutCounts) (r : Result (Unit {0}) Ending) → (IsTrue to → Puts waits t1 t2 r) → IfErr r (λ e. IsUnput e.status) → (status_in r ≡ WriteFault Out → Increased f0.faults f1.faults)
        → PrintsGraph base p text td to (outside files counts t0 f0) (outside files2 counts2 t2 f1) r
    prints_all waits h files2 counts2 b step judged t2 f1 r put only rose = record {
      same = step.same ∙ h.same;
      later = none_falls-trans _ _ _ h.later step.later;
      only = only_in p.arcs r only;
      causes = unput_cause (file_of base) no_outputs counts counts2 f0.faults f1.faults r only rose;
      hindered = λ t x g. hinders_in r only;
      puts = λ t o x g.
          let k = all_read td base p files counts files1 files2 counts1 counts2 n a b _ h limits judged t x g in
          subst (λ (y : List ℕ). PutsUpTo y t0 t2 r) (sym (ap text k.2)) (puts_some (text (accepted_of k.0)) t0 t2 r (puts_in_the_end t0 t1 t2 (text (accepted_of k.0)) waits r (k.1 o) (put o)));
    }

-- ---- the job
output_up_to : (due old new : List ℕ) (r : Result (Unit {0}) Ending) → IfErr r (λ e. IsHindrance e.status) → ((o : Output) → o ≢ Out → status_in r ≢ WriteFault o) → PutsUpTo due old new r
    → HasOutput due old new (status_in r)
output_up_to due old new r h h2 h3 = grind arith

pass_promised : (held : Input → Option (List ℕ)) (r : Result (Unit {0}) Ending) → IfErr r (λ e. IsHindrance e.status) → ArePromised held (status_in r) (promised_in r)
pass_promised held r h = grind arith

answers_in : (j : Judged) (text : List ℕ) (r : Result (Unit {0}) Ending) → j ≡ accepted text → IfErr r (λ e. IsHindrance e.status) → Answers j (status_in r)
answers_in j text r h h2 = grind arith

-- the cause of a pass's end, by the names of the job
pass_caused : (names inputs : Input → Option (List ℕ)) (outputs : Output → Option (List ℕ)) (n : ℕ) (old mid new : List ℕ → Counts) (f f' : ℕ) (r : Result (Unit {0}) Ending) → inputs Graph ≡ names Graph
    → IfErr r (StopsOrUnput n) → NonDecreasing old mid → HasCause names no_outputs mid new f f' (status_in r) → HasCause inputs outputs old new f f' (status_in r)
pass_caused names inputs outputs n old mid new f f' (Ok done) named only later h = unput_cause inputs outputs old new f f' (Ok done) tt h.out_fault
pass_caused names inputs outputs n old mid new f f' (Err e) named (inl (inl only)) later h =
    cause_named Graph e.status names inputs outputs old new f f' only named
    (cause_later names old mid new e.status later (record {
      read_fault = h.read_fault;
      missing = h.missing;
      write_fault = h.write_fault;
      out_fault = λ is. absurd (no_write Graph e.status Out only is);
    }))
pass_caused names inputs outputs n old mid new f f' (Err e) named (inl (inr bad)) later h = own_caused inputs outputs old new f f' e.status (bad_own Graph n e bad)
pass_caused names inputs outputs n old mid new f f' (Err e) named (inr unput) later h = unput_cause inputs outputs old new f f' (Err e) unput h.out_fault

in_parts : (job : Job) → prints_while_reading job ≡ true → prints_in_parts job ≡ true
in_parts job h = grind arith

-- the file was validated, and a text of its graph was printed while it was read again
pub printed_again : (base : List ℕ) (p : Parameters) (print : Accepted → List ℕ) (job : Job) (td to : Bool) (before mid after : Outside) (read : List Input) (files : Files) (counts : List ℕ → Counts) (r : Result (Unit {0}) Ending)
    → writes_files job ≡ false → prints_while_reading job ≡ true → (named : input_name job Graph ≡ file_of base Graph)
    → mid.taken ≡ before.taken → mid.out ≡ before.out
    → ((h : Input → Option (List ℕ)) → Hold (input_name job) before.files read h → Hold (input_name job) before.files read (without Graph h))
    → ComesTo job p td before files counts read (λ q h. graph_then q p (h Graph) (λ a. accepted (print a)))
    → JudgesGraph base p td files mid.files counts mid.counts (Ok tt)
    → PrintsGraph base p print td to mid after r
    → Performs job td to before after (status_in r) (promised_in r)
printed_again base p print job td to before mid after read files counts r none prints named silent same_out apart k j h =
    let known = graph_known job base td before p files mid.files counts mid.counts read (λ a q h. accepted (print a)) named k j in record {
      answers = λ t q. let a = known t in answers_in (judged_on q job before.files) (print a.0) r (a.2 q) (h.hindered t a.0 a.1);
      possible = pass_possible job p.arcs r (ap is_some named) h.only;
      causes = subst (λ (f : OutCounts). HasCause (input_name job) (output_name job) before.counts after.counts f.faults after.out.faults (status_in r)) same_out
          (pass_caused (file_of base) (input_name job) (output_name job) p.arcs before.counts mid.counts after.counts mid.out.faults after.out.faults r named h.only (none_falls-trans _ _ _ k.later j.reads.later) h.causes);
      reached = λ t q i is. subst (λ (x : Input). Reaches q job (held_by (input_name job) before.files) x) (pass_read p.arcs r i h.only is) (reaches job base td to before p files counts read Graph named (λ q. graph_then q p) (λ a q h. accepted (print a)) k apart (λ t q n. refl) t q);
      needed = λ t q o is. let a = known t in ap status_of (a.2 q);
      output = λ t o q.
          let a = known t in
          subst (λ (due : List ℕ). HasOutput due before.taken after.taken (status_in r)) (sym (ap output_of (a.2 q)))
          (subst (λ (old : List ℕ). HasOutput (print a.0) old after.taken (status_in r)) silent
          (output_up_to (print a.0) mid.taken after.taken r (h.hindered t a.0 a.1) h.causes.write_fault (h.puts t o a.0 a.1)));
      silent = λ apart. absurd (let no : true ≡ false = sym prints ∙ apart in cc);
      unprinted = λ apart. absurd (let no : true ≡ false = sym (in_parts job prints) ∙ apart in cc);
      printed_last = λ t q want. inr (nothing_whole job none q (held_by (input_name job) before.files) after.files);
      files = λ t q. files_same job none before after (status_in r) (h.same ∙ j.reads.same ∙ k.same) q;
      same = λ is. h.same ∙ j.reads.same ∙ k.same;
      later = none_falls-trans _ _ _ (none_falls-trans _ _ _ k.later j.reads.later) h.later;
      promised = λ t. let a = known t in pass_promised (held_by (input_name job) before.files) r (h.hindered t a.0 a.1);
    }
