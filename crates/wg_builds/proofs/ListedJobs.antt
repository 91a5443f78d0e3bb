-- An arc list that is read line by line, while its lists are encoded: how it ends.
use Rattle.std.proofs.Common.{rules, ◌≡◌, ℕ, ◌≤◌, Bool, List, [], ◌∷◌, ◌++◌, length, take, Some, None, Err, refl, sym, ap, subst, ◌∙◌, arith}
use Rattle.std.specs.Bool.{IsTrue}
use Rattle.std.specs.FinMap as map
use Rattle.wg_outside.specs.Outside.{Files, Counts, NonDecreasing}
use Rattle.wg_outside.specs.declared.limits.TheConstants.{MOST_BYTES}
use Rattle.wg_num.specs.Lines.{lines_of}
use Rattle.wg_params.specs.declared.layout.Layout.{Layout}
use Rattle.wg_graph.specs.{Digraph.Digraph, Digraph.IsGraph, Growing.padded}
use Rattle.wg_graph.proofs.Arcs.{length-arcs_from}
use Rattle.wg_arcs.specs.{Growing.SoFar, Listing.AreListed, Listing.arcs_on, Growing.ArcLinesRead}
use Rattle.wg_arcs.specs.{declared.fault.ArcsKind.ArcsKind, declared.fault.ArcsError.ArcsError}
use Rattle.wg_arcs.specs.declared.fault.ArcsError.TheVariants as error
use Rattle.wg_arcs.proofs.{ListedLemmas.all_pages, ListedLemmas.count_known, Order.Arc, Soundness.all_read}
use Rattle.wg_encoder.specs.ArchiveInMemory.{EncodedSoFar, HasEncoded}
use Rattle.wg_words.specs.{Jobs.writing, declared.jobs.Origin.TheVariants.Build}
use Rattle.wg_outcomes.specs.{Commands.builds, JobFiles.input_name, Judged.with_list, Names.held_by, Names.list_named}
use Rattle.wg_outcomes.specs.{Promised.ArePromised, Performs.Outside, Performs.Performs, declared.ending.Ending.Ending}
use Rattle.wg_outcomes.specs.{declared.status.Input.TheVariants.ArcList, declared.status.Status.Status}
use Rattle.wg_outcomes.specs.declared.status.Status.TheVariants.{BadArcs, Done, Memory}
use Rattle.wg_outcomes.proofs.{Statuses.IsOwn, Statuses.own_caused, FileLemmas.held_goes}
use Rattle.wg_readings.specs.Loading.{Loads, LoadsList}
use Rattle.wg_readings.proofs.JobSteps.{IsRefusal, ends_at}
use Rattle.wg_readings.proofs.ReadingsLemmas.{list_goes_on, list_refused}
use Rattle.wg_builds.specs.{Encoded.Encodes, Listed.IsFault, Listed.status_of_list}

-- the lines that come next are lent now
pub lent_now : (n m : ℕ) (all next later : List (List ℕ)) (text lent : List ℕ) (count : ℕ) (arcs : List Arc) → m ≡ n → next ≡ lines_of lent ++ later → text ≡ lent → SoFar n all next count arcs → SoFar m all (lines_of text ++ later) count arcs
lent_now n m all next later text lent count arcs nodes lines same so = grind arith

-- no memory is left
pub list_unheld : (name : List ℕ) (n : ℕ) (td : Bool) (f h : Files) (a c : List ℕ → Counts) → h ≡ f → NonDecreasing a c → LoadsList name n td f h a c (Err (record { status = Memory; promised = 0 }))
list_unheld name n td f h a c same later = search rules

-- other reads came before
pub list_unread_after : (name : List ℕ) (n : ℕ) (td : Bool) (f g h : Files) (a b c : List ℕ → Counts) (e : Ending) → g ≡ f → NonDecreasing a b → Loads (list_named name) ArcList td g h b c (Err e) → LoadsList name n td f h a c (Err e)
list_unread_after name n td f g h a b c e same later l = grind arith

module _ (name : List ℕ) (n : ℕ) (td : Bool) (files files' : Files) (counts counts' : List ℕ → Counts) (same : files' ≡ files) (later : NonDecreasing counts counts') where
  -- ---- memory ran out, or a line is at fault
  list_wants : (e : Ending) → e.status ≡ Memory → LoadsList name n td files files' counts counts' (Err e)
  list_wants e want = grind arith

  pub list_stops : (e : Ending) (x : ArcsError) → e.status ≡ status_of_list x → (IsTrue td → (file : List ℕ) × (map.get files name ≡ Some file) × (length file ≤ MOST_BYTES) × IsFault n (lines_of file) x) → LoadsList name n td files files' counts counts' (Err e)
  list_stops e x h h2 = grind (arith, IsOwn, own_caused, list_refused, held_goes, list_wants)

  -- ---- the list was read, and its lists are encoded
  pub list_encoded : (s : ArcLinesRead) (done : List (List ℕ)) (list : List ℕ) → s.nodes ≡ n → AreListed done list None s
      → (IsTrue td → (file : List ℕ) × (map.get files name ≡ Some file) × (length file ≤ MOST_BYTES) × SoFar n (lines_of file) [] s.line (arcs_on done list))
      → (e : EncodedSoFar) → HasEncoded e (take n (padded n (done ++ list ∷ []))) → e.page ≡ n → Encodes (λ r. LoadsList name n td files files' counts counts' r) e n s.arcs
  list_encoded s done list nodes h told e encoded page =
      let lists : List (List ℕ) = take n (padded n (done ++ list ∷ [])) in
      let g : Digraph = record { nodes = n; lists = lists } in
      let p = all_pages done list s lists h (λ i. take (sym nodes i) (padded (sym nodes i) (done ++ list ∷ []))) in
      let proper : IsGraph g = subst (λ (m : ℕ). IsGraph (record { nodes = m; lists = lists })) nodes p.0 in
      record {
        graph = g;
        loads = record {
          steps = λ t r next.
              let x = told t in
              let arcs = all_read n (lines_of x.0) s.line (arcs_on done list) g x.3 refl p.1 proper in
              held_goes ArcList (map.get files name) x.0 x.1 x.2 (λ bytes. with_list r n bytes next) ∙ list_goes_on r n x.0 g arcs next;
          only = tt;
          nodes = refl;
          causes = own_caused _ _ _ _ _ _ Done tt;
          same = same;
          later = later;
        };
        encoded = encoded;
        nodes = refl;
        arcs = sym (length-arcs_from 0 lists) ∙ ap length p.1 ∙ count_known done list s h;
        page = page;
      }

-- ---- an arc list that was not read ends the job
pub list_unread : (arcs base : List ℕ) (n : ℕ) (l : Layout) (td to : Bool) (before after : Outside) (e : Ending) → after.taken ≡ before.taken → LoadsList arcs n td before.files after.files before.counts after.counts (Err e)
    → Performs (writing base l (Build arcs n)) td to before after e.status e.promised
list_unread arcs base n l td to before after e silent h =
    ends_at (writing base l (Build arcs n)) td to before after e silent h.same h.later (λ t r. h.steps t r (λ g. builds l g)) (list_named arcs) ArcList
    (λ x. (line : ℕ) × (kind : ArcsKind) × (x.status ≡ BadArcs line kind)) refl refl h.only h.causes (λ t r. refl)
    (λ fault. subst (IsRefusal (writing base l (Build arcs n))) (sym fault.2) (record { own = tt; stop = tt; possible = refl }))
    (λ t fault. subst (λ (s : Status). ArePromised (held_by (input_name (writing base l (Build arcs n))) before.files) s e.promised) (sym fault.2) tt)
