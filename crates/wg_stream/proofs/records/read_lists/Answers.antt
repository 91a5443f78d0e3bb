use Rattle.std.proofs.Common.{◌≡◌, ◌+◌, ◌∙◌, ℕ, List, ◌∷◌, ◌++◌, [], Ok, Err, length, refl, sym, ap, subst, arith}
use Rattle.std.proofs.lemmas.List.{length-append}
use Rattle.wg_outside.proofs.PutsLemmas.{is_that_err}
use Rattle.std.proofs.lemmas.Result.{err_from_is_err_and}
use Rattle.wg_params.specs.Parameters.{Parameters}
use Rattle.wg_graph.specs.Ascending.{Below}
use Rattle.wg_grammar.specs.Archive.{lists_of, places_of, ReadsGraph}
use Rattle.wg_grammar.proofs.ErrorLemmas.{fault_weaker, faults_weaker, refusal_weaker, refusals_weaker}
use Rattle.wg_stream.proofs.ErrorLemmas.{on_ok, holds_ok}
use Rattle.wg_stream.proofs.PrefixLemmas.{no_arcs, lists_more, arcs_more}
use Rattle.wg_stream.proofs.records.read_lists.Goals as goal

pub loop-page-init : goal.loop-page-init
loop-page-init g c = record {
  same_params = refl;
  same_page = c.requires.page;
  same_nodes = refl;
  counted = no_arcs c.args.graph.now c.requires.none ∙ sym c.requires.arcs;
  begun = ap length c.requires.none;
  later = g.met.S.Source.stays _;
  read = λ bits r start. ([], start, c.requires.none);
}

pub next-requires : goal.next-requires
next-requires g c =
    let h = c.loop-page.invariant in
    omega (arith, h.same_page, ap (λ (q : Parameters). q.nodes) h.same_params, c.loop-page-test.true, c.nodes-nodes.ensures.value, c.requires.nodes)

pub returns-in_err-next-clause-later : goal.returns-in_err-next-clause-later
returns-in_err-next-clause-later g c = g.met.S.Source.goes_on _ _ _ c.loop-page.invariant.later c.in_err-next.ensures.later

pub returns-in_err-next-clause-refused : goal.returns-in_err-next-clause-refused
returns-in_err-next-clause-refused g c =
    let p = err_from_is_err_and c.from_residual.result c.from_residual.ensures.1 in
    rw (p.1, p.2) (refusal_weaker c.in_err-next.field-0.0 _ _ (λ x h. g.met.S.Source.still_caused _ _ _ x c.loop-page.invariant.later h) c.in_err-next.ensures.refused)

pub returns-in_err-next-clause-fault : goal.returns-in_err-next-clause-fault
returns-in_err-next-clause-fault g c = λ bits r start.
    let l = c.loop-page in
    let k = l.invariant.read bits r start in
    let on = g.met.S.Source.same_bits _ _ bits l.invariant.later r in
    rw (is_that_err c.from_residual.result _ c.from_residual.ensures.1) (fault_weaker c.in_err-next.field-0.0 _ _
    (λ f h. subst (λ (q : Parameters). ReadsGraph q bits (Err f)) l.invariant.same_params h)
    (c.in_err-next.ensures.fault bits k.0 on k.1))

pub push_list-requires-clause-page : goal.push_list-requires-clause-page
push_list-requires-clause-page g c =
    let h = c.loop-page.invariant in
    omega (arith, h.begun, h.same_nodes, c.loop-page-test.true, c.nodes-nodes.ensures.value)

pub push_list-requires-clause-below : goal.push_list-requires-clause-below
push_list-requires-clause-below g c =
    let h = c.loop-page.invariant in
    let nodes = ap (λ (q : Parameters). q.nodes) (c.in_ok-next.ensures.params ∙ h.same_params) ∙ sym c.requires.nodes ∙ sym h.same_nodes in
    subst (λ (n : ℕ). Below n c.list.result.now) nodes c.list.ensures.below

pub push_list-requires-clause-room : goal.push_list-requires-clause-room
push_list-requires-clause-room g c =
    let h = c.loop-page.invariant in
    let n = c.in_ok-next.ensures in
    omega (arith, h.counted, n.arcs, ap length c.list.ensures.value, c.list.ensures.arcs, ap (λ (q : Parameters). q.arcs) (n.params ∙ h.same_params), c.requires.limits.arcs)

pub returns-in_err-push_list-clause-later : goal.returns-in_err-push_list-clause-later
returns-in_err-push_list-clause-later g c = g.met.S.Source.goes_on _ _ _ c.loop-page.invariant.later c.in_ok-next.ensures.later

pub loop-page-preserved : goal.loop-page-preserved
loop-page-preserved g c =
    let s = g.S.Source in
    let l = c.loop-page in
    let h = l.invariant in
    let n = c.in_ok-next.ensures in
    let pushed : c.push_list.new.self.lists ≡ l.graph.lists ++ c.next.new.self.list ∷ [] = c.in_ok-push_list.ensures.ok ∙ ap (λ (s : List ℕ). l.graph.lists ++ s ∷ []) c.list.ensures.value in
    record {
      same_params = n.params ∙ h.same_params;
      same_page = n.page ∙ ap (λ (k : ℕ). k + 1) h.same_page;
      same_nodes = c.push_list.ensures.nodes ∙ h.same_nodes;
      counted = omega (arith, arcs_more l.graph c.push_list.new.self c.next.new.self.list pushed, h.counted, n.arcs);
      begun = omega (arith, ap length pushed, length-append l.graph.lists (c.next.new.self.list ∷ []), h.begun);
      later = g.met.S.Source.goes_on _ _ _ h.later n.later;
      read = λ bits r start.
          let k = h.read bits r start in
          let on = g.met.S.Source.same_bits _ _ bits h.later r in
          let more = n.reads bits k.0 on k.1 in (
            more.0 ∷ k.0,
            more.3,
            pushed ∙ ap (λ (s : List (List ℕ)). s ++ c.next.new.self.list ∷ []) k.2 ∙ ap (λ (xs : List ℕ). lists_of k.0 ++ xs ∷ []) (sym more.1) ∙ sym (lists_more more.0 k.0),
          );
    }

pub finish-requires : goal.finish-requires
finish-requires g c =
    let l = c.loop-page in
    let h = l.invariant in
    omega (arith, h.same_page, ap (λ (q : Parameters). q.nodes) h.same_params, c.loop-page-test.false, c.nodes-nodes.ensures.value, c.requires.nodes, l.auto._page-end)

pub returns : goal.returns
returns g c = record {
  nodes = c.loop-page.invariant.same_nodes;
  later = g.met.S.Source.goes_on _ _ _ c.loop-page.invariant.later c.finish.ensures.later;
  refused = refusals_weaker c.finish.result _ _ (λ x h. g.met.S.Source.still_caused _ _ _ x c.loop-page.invariant.later h) c.finish.ensures.refused;
  all =
      let l = c.loop-page in
      let all : length l.graph.lists ≡ c.args.graph.now.nodes = omega (arith, l.invariant.begun, c.loop-page-test.false, c.nodes-nodes.ensures.value, l.auto._page-end) in
      on_ok c.finish.result (Unit {0}) _ (λ _. all) (holds_ok c.finish.result);
  reads = λ bits r start.
      let l = c.loop-page in
      let h = l.invariant in
      let k = h.read bits r start in
      let on = g.met.S.Source.same_bits _ _ bits h.later r in
      on_ok c.finish.result _ _ (λ ends. (
        places_of k.0,
        subst (λ (s : List (List ℕ)). ReadsGraph c.args.pages.now.params bits (Ok (record { graph = s; places = places_of k.0 }))) (sym k.2)
            (subst (λ (q : Parameters). ReadsGraph q bits (Ok (record { graph = lists_of k.0; places = places_of k.0 }))) h.same_params ends),
      )) (c.finish.ensures.reads bits k.0 on k.1);
  fault = λ bits r start.
      let h = c.loop-page.invariant in
      let k = h.read bits r start in
      let on = g.met.S.Source.same_bits _ _ bits h.later r in
      faults_weaker c.finish.result _ _ (λ f e. subst (λ (q : Parameters). ReadsGraph q bits (Err f)) h.same_params e) (c.finish.ensures.fault bits k.0 on k.1);
}
