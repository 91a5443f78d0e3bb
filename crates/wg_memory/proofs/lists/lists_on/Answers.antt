use Rattle.std.proofs.Common.{◌+◌, ◌≤◌, ◌∙◌, ℕ, List, [], ◌∷◌, ◌++◌, Err, length, refl, sym, ap, subst, arith}
use Rattle.wg_outside.proofs.PutsLemmas.{is_that_err}
use Rattle.wg_params.specs.Parameters.{Parameters}
use Rattle.wg_grammar.specs.Archive.{lists_of, ReadsGraph}
use Rattle.wg_stream.specs.Prefix.{AreBehind}
use Rattle.wg_grammar.proofs.ErrorLemmas.{fault_weaker, faults_weaker}
use Rattle.wg_stream.proofs.PrefixLemmas.{lists_more}
use Rattle.wg_memory.proofs.ListsLemmas.{all_lists, on_both, put_more}
use Rattle.wg_memory.proofs.lists.lists_on.Goals as goal

pub loop-page-init : goal.loop-page-init
loop-page-init c = record {
  same_params = refl;
  same_page = c.requires.none;
  same_arcs = c.requires.no_arcs;
  same_bits = refl;
  ends_long = refl;
  all_long = refl;
  whole = refl;
  read = ([], subst (λ (n : ℕ). AreBehind c.args.source.now.bits c.args.pages.now n []) (sym c.requires.start) c.requires.behind, refl);
}

pub next-requires : goal.next-requires
next-requires c =
    let h = c.loop-page.invariant in
    omega (arith, h.same_page, h.ends_long, ap (λ (q : Parameters). q.nodes) h.same_params, c.loop-page-test.true, c.requires.ends)

pub returns-in_err-next-clause-fault : goal.returns-in_err-next-clause-fault
returns-in_err-next-clause-fault c =
    let h = c.loop-page.invariant in
    let bits = c.args.source.now.bits in
    rw (is_that_err c.from_residual.result _ c.from_residual.ensures.1) (fault_weaker c.in_err-next.field-0.0 _ _
    (λ f k. subst (λ (q : Parameters). ReadsGraph q bits (Err f)) h.same_params k)
    (c.in_err-next.ensures.fault bits h.read.0 h.same_bits h.read.1))

pub loop-page-preserved : goal.loop-page-preserved
loop-page-preserved c =
    let l = c.loop-page in
    let h = l.invariant in
    let n = c.in_ok-next.ensures in
    let p = c.put-arcs.ensures in
    let few = ap (λ (q : Parameters). q.arcs) (n.params ∙ h.same_params) in
    let listed = ap length c.list.ensures.value in
    let fits : c.put-arcs.result ≤ length c.put-arcs.new.all = omega (arith, p.count, p.long, n.arcs, h.same_arcs, h.all_long, c.requires.all, listed, c.list.ensures.arcs, few) in
    let more = n.reads c.args.source.now.bits h.read.0 h.same_bits h.read.1 in
    let both = put_more l.ends l.all c.put_one.new.array c.put-arcs.new.all c.list.result.now l.page l.arcs c.put-arcs.result p.count fits h.whole p.put c.put_one.ensures.put in
    record {
      same_params = n.params ∙ h.same_params;
      same_page = n.page ∙ ap (λ (k : ℕ). k + 1) h.same_page;
      same_arcs = omega (arith, n.arcs, h.same_arcs, p.count, listed);
      same_bits = n.later.bits ∙ h.same_bits;
      ends_long = c.put_one.ensures.long ∙ h.ends_long;
      all_long = p.long ∙ h.all_long;
      whole = both.0;
      read = (
        more.0 ∷ h.read.0,
        more.3,
        both.1 ∙ ap (λ (s : List (List ℕ)). s ++ c.list.result.now ∷ []) h.read.2 ∙ ap (λ (xs : List ℕ). lists_of h.read.0 ++ xs ∷ []) (c.list.ensures.value ∙ sym more.1) ∙ sym (lists_more more.0 h.read.0),
      );
    }

pub returns-clause-lists : goal.returns-clause-lists
returns-clause-lists c =
    let l = c.loop-page in
    let h = l.invariant in
    let every_page : length l.ends ≤ l.page = omega (arith, h.ends_long, c.loop-page-test.false) in
    on_both c.finish.result _ _ _ (λ total reads. all_lists c.args.pages.now.params l.pages.params c.args.source.now.bits l.ends l.all l.page l.arcs h.read.0 h.same_params every_page
    (omega (arith, total, h.same_arcs, h.all_long, c.requires.all, ap (λ (q : Parameters). q.arcs) h.same_params)) h.whole h.read.2 reads)
    c.finish.ensures.total (c.finish.ensures.reads c.args.source.now.bits h.read.0 h.same_bits h.read.1)

pub returns-clause-fault : goal.returns-clause-fault
returns-clause-fault c =
    let h = c.loop-page.invariant in
    let bits = c.args.source.now.bits in
    faults_weaker c.finish.result _ _ (λ f k. subst (λ (q : Parameters). ReadsGraph q bits (Err f)) h.same_params k) (c.finish.ensures.fault bits h.read.0 h.same_bits h.read.1)
