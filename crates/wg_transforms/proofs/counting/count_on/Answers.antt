use Rattle.std.proofs.Common.{rules, ◌≡◌, ◌+◌, ◌∙◌, ℕ, ◌∷◌, Ok, Err, length, refl, sym, ap, subst, arith}
use Rattle.std.specs.Prelude.{max}
use Rattle.wg_outside.proofs.PutsLemmas.{is_that_err}
use Rattle.wg_params.specs.Parameters.{Parameters}
use Rattle.wg_grammar.specs.Archive.{lists_of, places_of, ReadsGraph}
use Rattle.wg_transpose.specs.SoFar.{AreCounts, predecessors_below}
use Rattle.wg_transpose.proofs.Steps.{few_counts}
use Rattle.wg_grammar.proofs.ErrorLemmas.{fault_weaker}
use Rattle.wg_stream.proofs.SweepLemmas.{one_greater}
use Rattle.wg_transforms.proofs.CountingLemmas.{graph_behind, record_counted}
use Rattle.wg_transforms.proofs.counting.count_on.Goals as goal

pub returns-in_err-next-clause-fault : goal.returns-in_err-next-clause-fault
returns-in_err-next-clause-fault c =
    let h = c.loop-page.invariant in
    let bits = c.args.source.now.bits in
    rw (is_that_err c.from_residual.result _ c.from_residual.ensures.1) (fault_weaker c.in_err-next.field-0.0 _ _
    (λ f k. subst (λ (q : Parameters). ReadsGraph q bits (Err f)) h.same_params k)
    (c.in_err-next.ensures.fault bits h.read.0 h.same_bits h.read.1))

pub count_arcs-requires-clause-room : goal.count_arcs-requires-clause-room
count_arcs-requires-clause-room c =
    let h = c.loop-page.invariant in
    few_counts (graph_behind c.args.nodes h.read.0) c.loop-page._page c.loop-page.counts (omega (arith, c.loop-page-test.true, c.requires.few)) h.read.3

pub loop-page-preserved : goal.loop-page-preserved
loop-page-preserved c =
    let l = c.loop-page in
    let h = l.invariant in
    let n = c.in_ok-next.ensures in
    let more = n.reads c.args.source.now.bits h.read.0 h.same_bits h.read.1 in
    let most : c.max-greatest.result ≡ max l.greatest (length c.list-list.result.now) = search rules in
    record {
      same_params = n.params ∙ h.same_params;
      same_page = n.page ∙ ap (λ (k : ℕ). k + 1) h.same_page;
      same_bits = n.later.bits ∙ h.same_bits;
      read = (
        more.0 ∷ h.read.0,
        more.3,
        one_greater h.read.0 more.0 l.greatest _ (length c.list-list.result.now) _ c.list-list.result.now more.1 c.list-list.ensures.value refl most h.read.2,
        record_counted c.args.nodes h.read.0 more.0 l._page (h.read.1.count ∙ h.same_page) c.list-list.result.now l.counts c.count_arcs.new.counts (c.list-list.ensures.value ∙ sym more.1) c.count_arcs.auto.counts
            c.count_arcs.ensures.each h.read.3,
      );
    }

pub returns-in_err-finish-clause-fault : goal.returns-in_err-finish-clause-fault
returns-in_err-finish-clause-fault c =
    let h = c.loop-page.invariant in
    let bits = c.args.source.now.bits in
    rw (is_that_err c.from_residual-in_err-finish.result _ c.from_residual-in_err-finish.ensures.1) (fault_weaker c.in_err-finish.field-0.0 _ _
    (λ f k. subst (λ (q : Parameters). ReadsGraph q bits (Err f)) h.same_params k)
    (c.in_err-finish.ensures.fault bits h.read.0 h.same_bits h.read.1))

pub returns-clause-finds : goal.returns-clause-finds
returns-clause-finds c =
    let h = c.loop-page.invariant in
    let bits = c.args.source.now.bits in
    let behind = h.read.0 in
    let nodes = c.requires.nodes in
    let all : c.loop-page._page ≡ c.args.nodes = omega (arith, c.loop-page-test.false, c.loop-page.auto._page-end) in
    let counted = subst (λ (k : ℕ). AreCounts c.args.nodes (predecessors_below (graph_behind c.args.nodes behind) k) c.loop-page.counts) all h.read.3 in
    record {
      accepted = record { graph = lists_of behind; places = places_of behind };
      reads = subst (λ (q : Parameters). ReadsGraph q bits (Ok (record { graph = lists_of behind; places = places_of behind }))) h.same_params (c.in_ok-finish.ensures.reads bits behind h.same_bits h.read.1);
      greatest_is = h.read.2;
      counted = subst (λ (k : ℕ). AreCounts k (predecessors_below (graph_behind k behind) k) c.loop-page.counts) nodes counted;
    }
