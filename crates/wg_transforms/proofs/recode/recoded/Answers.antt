use Rattle.std.proofs.Common.{◌≡◌, inr, ℕ, ◌+◌, ◌<◌, ◌≤◌, Bool, List, [], ◌∷◌, ◌++◌, refl, sym, ap, subst, ◌∙◌, Some, Ok, Err, length, arith}
use Rattle.std.specs.Bool.{IsTrue}
use Rattle.std.specs.FinMap as map
use Rattle.wg_outside.specs.Outside.{Files, Counts, NonDecreasing}
use Rattle.wg_outside.proofs.{FilesLemmas.none_falls-trans, FilesLemmas.none_falls-refl, PutsLemmas.is_that_err}
use Rattle.wg_params.specs.Parameters.{Parameters, IsWithinLimits}
use Rattle.wg_grammar.specs.{Archive.Accepted, Archive.lists_of, Laws.accepted_graph, Record.Whole}
use Rattle.wg_stream.proofs.PrefixLemmas.{lists_more}
use Rattle.wg_stream.specs.Reading.{Reading, IsInStep, IsJudged}
use Rattle.wg_outcomes.specs.{Answers.IsHindrance, Names.file_of, Names.held_by, declared.ending.Ending.Ending}
use Rattle.wg_outcomes.specs.{declared.status.Input.TheVariants.Graph, declared.status.Status.TheVariants.Memory}
use Rattle.wg_readings.specs.{Loading.JudgesGraph, Loading.LoadsGraph, Passes.Advances, Passes.accepted_of}
use Rattle.wg_readings.proofs.{JudgeLemmas.reads_want, JudgeLemmas.graph_stops, PassLemmas.graph_goes}
use Rattle.wg_readings.proofs.UnderWay.{IsUnderWay, all_read, judged_by, begins, goes_further}
use Rattle.wg_graph.specs.Ascending.{Below}
use Rattle.wg_transforms.proofs.recode.recoded.Goals as goal

lists_on : (w : Whole) (whole : List Whole) (lists : List (List ℕ)) (list : List ℕ) → lists_of whole ≡ lists → w.known.list ≡ list → lists_of (w ∷ whole) ≡ lists ++ list ∷ []
lists_on w whole lists list before is = lists_more w whole ∙ ap (λ (l : List (List ℕ)). l ++ w.known.list ∷ []) before ∙ ap (λ (x : List ℕ). lists ++ x ∷ []) is

module _ (base : List ℕ) (p : Parameters) (td : Bool) (files files' : Files) (counts counts' : List ℕ → Counts) (e : Ending) where
  -- the graph file ended it
  graph_stopped : JudgesGraph base p td files files' counts counts' (Err e) → LoadsGraph base p td files files' counts counts' (Err e)
  graph_stopped j = record {
    reads = record {
      ends = record { only = j.reads.ends.only; causes = j.reads.ends.causes; refused = λ t r next. j.reads.ends.refused t r (λ a. next (accepted_graph p a)) };
      same = j.reads.same;
      later = j.reads.later;
    };
    goes = λ t r next. j.reads.ends.refused t r (λ a. next (accepted_graph p a));
    nodes = tt;
  }

  -- memory ran out
  graph_wants : files' ≡ files → NonDecreasing counts counts' → e.status ≡ Memory → LoadsGraph base p td files files' counts counts' (Err e)
  graph_wants same later want = record { reads = reads_want _ _ _ _ _ _ _ _ _ e want same later; goes = λ t r next. inr (subst IsHindrance (sym want) tt); nodes = tt }

-- all was read
graph_read : (base : List ℕ) (p : Parameters) (td : Bool) (files files1 files2 : Files) (counts counts1 counts2 : List ℕ → Counts) (n : ℕ) (a b : Reading) (lists : List (List ℕ))
    (h : IsUnderWay td base p files files1 counts counts1 n a (λ whole. lists_of whole ≡ lists)) (limits : IsWithinLimits p) (step : Advances {B = Unit {0}} td files1 files2 counts1 counts2 p a b (Ok tt))
    → (IsTrue td → (held : Files) → files1 ≡ held → (file : List ℕ) → map.get held a.name ≡ Some file → (whole : List Whole) → IsInStep file a whole → IsJudged file p (Ok (accepted_of whole)))
    → LoadsGraph base p td files files2 counts counts2 (Ok (record { nodes = p.nodes; lists = lists }))
graph_read base p td files files1 files2 counts counts1 counts2 n a b lists h limits step judged = record {
  reads = record { ends = tt; same = step.same ∙ h.same; later = none_falls-trans _ _ _ h.later step.later };
  goes = λ t r next.
      let x = judged_by td base p files counts files1 files2 counts1 counts2 n a b _ h step judged t in
      let k = all_read td base p files counts files1 files2 counts1 counts2 n a b _ h limits judged t x.0 x.1 in
      graph_goes r p limits (held_by (file_of base) files Graph) x.0 x.1 (λ y. next (accepted_graph p y))
      ∙ ap (λ (l : List (List ℕ)). next (record { nodes = p.nodes; lists = l })) (ap (λ (y : Accepted). y.graph) k.2 ∙ k.1);
  nodes = refl;
}

-- this page is one of the graph
page_below : (x page end n : ℕ) → x ≡ page → page < end → end ≡ n → x < n
page_below x page end n is more all = omega (arith, is, more, all)

-- the list's arcs are among those that were read
arcs_fit : (a b b' k k' m m' : ℕ) → a ≡ b → b' ≡ b + k' → k ≡ k' → b' ≤ m → m ≡ m' → a + k ≤ m'
arcs_fit a b b' k k' m m' is more same within most = omega (arith, is, more, same, within, most)

-- a page more is behind, and its arcs
one_behind : (x page before : ℕ) → x ≡ before + 1 → before ≡ page → x ≡ page + 1
one_behind x page before on is = omega (arith, on, is)

arcs_behind : (a b c k k' c' : ℕ) → a ≡ b + k → b ≡ c → k ≡ k' → c' ≡ c + k' → a ≡ c'
arcs_behind a b c k k' c' on is same read = omega (arith, on, is, same, read)

pub returns-in_err-reader : goal.returns-in_err-reader
returns-in_err-reader g c =
    rw (is_that_err c.from_residual.result _ c.from_residual.ensures.1)
    record { makes = tt; ends = graph_wants _ _ _ _ _ _ _ _ refl (none_falls-refl _) c.in_err-reader.ensures.only }

pub returns-in_err-encoder : goal.returns-in_err-encoder
returns-in_err-encoder g c =
    rw (is_that_err c.from_residual-in_err-encoder.result _ c.from_residual-in_err-encoder.ensures.1)
    record { makes = tt; ends = graph_wants _ _ _ _ _ _ _ _ refl (none_falls-refl _) refl }

pub loop-page-init : goal.loop-page-init
loop-page-init g c =
    let e = c.in_ok-encoder.ensures in
    record {
      so_far = ([], e.encoded, begins _ _ _ _ _ _ (λ whole. lists_of whole ≡ []) c.in_ok-reader.ensures.fresh refl);
      params = e.params;
      page = e.page;
      arcs = e.arcs ∙ sym c.in_ok-reader.ensures.fresh.arcs;
    }

pub returns-in_err-next_record : goal.returns-in_err-next_record
returns-in_err-next_record g c =
    rw (is_that_err c.from_residual-in_err-next_record.result _ c.from_residual-in_err-next_record.ensures.1)
    record {
      makes = tt;
      ends =
          graph_stopped _ _ _ _ _ _ _ _
          (graph_stops _ _ _ _ _ _ _ _ _ _ _ _ _ c.loop-page.invariant.so_far.2 c.nodes-page-end.ensures.limits _ c.in_err-next_record.ensures.advances);
    }

pub next_record-requires : goal.next_record-requires
next_record-requires g c =
    let way = c.loop-page.invariant.so_far.2 in
    record {
      «open» = way.state;
      params = way.params;
      more = page_below _ _ _ _ way.page c.loop-page-test.true c.nodes-page-end.ensures.value;
    }

pub add-requires : goal.add-requires
add-requires g c =
    let i = c.loop-page.invariant in
    let way = i.so_far.2 in
    let r = c.in_ok-next_record.ensures in
    let one = r.advances.params ∙ way.params in
    let nodes = ap (λ (q : Parameters). q.nodes) one ∙ sym c.requires.nodes ∙ sym (ap (λ (q : Parameters). q.nodes) i.params) in
    let arcs = ap (λ (q : Parameters). q.arcs) one ∙ sym c.requires.arcs ∙ sym (ap (λ (q : Parameters). q.arcs) i.params) in
    record {
      page = subst (λ (n : ℕ). c.loop-page.encoder.page < n) (sym c.requires.nodes ∙ sym (ap (λ (q : Parameters). q.nodes) i.params))
          (page_below _ _ _ _ i.page c.loop-page-test.true c.nodes-page-end.ensures.value);
      list = record { ascends = c.list.ensures.ascends; below = subst (λ (n : ℕ). Below n c.list.result.now) nodes c.list.ensures.below };
      arcs = arcs_fit _ _ _ _ _ _ _ i.arcs r.arcs (ap (λ (l : List ℕ). length l) c.list.ensures.value) c.list.ensures.within arcs;
    }

pub returns-in_err-encoder-2 : goal.returns-in_err-encoder-2
returns-in_err-encoder-2 g c =
    let way = c.loop-page.invariant.so_far.2 in
    let step = c.in_ok-next_record.ensures.advances in
    rw (is_that_err c.from_residual-in_err-encoder-2.result _ c.from_residual-in_err-encoder-2.ensures.1)
    record { makes = tt; ends = graph_wants _ _ _ _ _ _ _ _ (step.same ∙ way.same) (none_falls-trans _ _ _ way.later step.later) refl }

pub loop-page-preserved : goal.loop-page-preserved
loop-page-preserved g c =
    let i = c.loop-page.invariant in
    let lists = i.so_far.0 in
    let r = c.in_ok-next_record.ensures in
    let n = c.in_ok-encoder-2.ensures in
    let list = c.list.result.now in
    record {
      so_far = (
        lists ++ list ∷ [],
        n.encoded lists i.so_far.1,
        goes_further _ _ _ _ _ _ _ _ _ _ _ _ _ i.so_far.2 (λ whole. lists_of whole ≡ lists ++ list ∷ []) r.advances r.open r.page r.in_step
            (λ whole w count is end had. lists_on w whole lists list had (is ∙ sym c.list.ensures.value)),
      );
      params = n.params ∙ i.params;
      page = one_behind _ _ _ n.page i.page;
      arcs = arcs_behind _ _ _ _ _ _ n.arcs i.arcs (ap (λ (l : List ℕ). length l) c.list.ensures.value) r.arcs;
    }

pub returns-in_err-end_records : goal.returns-in_err-end_records
returns-in_err-end_records g c =
    rw (is_that_err c.from_residual-in_err-end_records.result _ c.from_residual-in_err-end_records.ensures.1)
    record {
      makes = tt;
      ends =
          graph_stopped _ _ _ _ _ _ _ _
          (graph_stops _ _ _ _ _ _ _ _ _ _ _ _ _ c.loop-page.invariant.so_far.2 c.nodes-page-end.ensures.limits _ c.in_err-end_records.ensures.advances);
    }

pub returns-in_err-archive : goal.returns-in_err-archive
returns-in_err-archive g c =
    let way = c.loop-page.invariant.so_far.2 in
    let step = c.in_ok-end_records.ensures.advances in
    rw (is_that_err c.from_residual-in_err-archive.result _ c.from_residual-in_err-archive.ensures.1)
    record { makes = tt; ends = graph_wants _ _ _ _ _ _ _ _ (step.same ∙ way.same) (none_falls-trans _ _ _ way.later step.later) refl }

pub returns : goal.returns
returns g c =
    let i = c.loop-page.invariant in
    let e = c.in_ok-end_records.ensures in
    let made_is = sym i.params in
    record {
      makes = record {
        graph = record { nodes = c.args.params.now.nodes; lists = i.so_far.0 };
        loads = graph_read _ _ _ _ _ _ _ _ _ _ _ _ i.so_far.0 i.so_far.2 c.nodes-page-end.ensures.limits e.advances e.judged;
        arcs = sym i.so_far.1.arcs ∙ i.arcs ∙ e.total;
        is = c.in_ok-archive.ensures i.so_far.0 i.so_far.1 (λ j. record (made_is j) { arcs = c.args.made.now.arcs });
      };
      ends = tt;
    }
