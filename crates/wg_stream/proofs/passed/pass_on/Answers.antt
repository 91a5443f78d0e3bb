use Rattle.std.proofs.Common.{rules, ◌≡◌, ◌+◌, ◌∙◌, ℕ, List, [], ◌∷◌, ◌++◌, Ok, Err, length, refl, sym, ap, subst, arith}
use Rattle.std.specs.Prelude.{max}
use Rattle.std.proofs.lemmas.List.{length-append}
use Rattle.wg_outside.proofs.PutsLemmas.{is_that_err}
use Rattle.wg_params.specs.Parameters.{Parameters}
use Rattle.wg_grammar.specs.Archive.{lists_of, places_of, ReadsGraph}
use Rattle.wg_offsets.specs.Places.{last_place}
use Rattle.wg_offsets.proofs.WordsLemmas.{last_more}
use Rattle.wg_stream.specs.Prefix.{AreBehind}
use Rattle.wg_grammar.proofs.ErrorLemmas.{fault_weaker}
use Rattle.wg_stream.proofs.PrefixLemmas.{places_more}
use Rattle.wg_stream.proofs.SweepLemmas.{one_greater}
use Rattle.wg_stream.proofs.passed.pass_on.Goals as goal

pub loop-page-init : goal.loop-page-init
loop-page-init c =
    let one : c.push.new.self ≡ 0 ∷ [] = c.in_ok-push.ensures.ok ∙ ap (λ (l : List ℕ). l ++ 0 ∷ []) c.requires.empty in
    let start = c.requires.start in
    record {
      same_params = refl;
      same_page = c.requires.none;
      same_bits = refl;
      counted = ap length one;
      last = ap last_place one ∙ sym start;
      read = ([], subst (λ (n : ℕ). AreBehind c.args.source.now.bits c.args.pages.now n []) (sym start) c.requires.behind, one, refl);
    }

pub next-requires : goal.next-requires
next-requires c =
    let h = c.loop-page.invariant in
    omega (arith, h.same_page, ap (λ (q : Parameters). q.nodes) h.same_params, c.loop-page-test.true, c.requires.nodes)

pub returns-in_err-next-clause-fault : goal.returns-in_err-next-clause-fault
returns-in_err-next-clause-fault c =
    let h = c.loop-page.invariant in
    let bits = c.args.source.now.bits in
    rw (is_that_err c.from_residual-in_err-next.result _ c.from_residual-in_err-next.ensures.1) (fault_weaker c.in_err-next.field-0.0 _ _
    (λ f k. subst (λ (q : Parameters). ReadsGraph q bits (Err f)) h.same_params k)
    (c.in_err-next.ensures.fault bits h.read.0 h.same_bits h.read.1))

pub loop-page-preserved : goal.loop-page-preserved
loop-page-preserved c =
    let l = c.loop-page in
    let h = l.invariant in
    let n = c.in_ok-next.ensures in
    let end = c.next.new.source.at in
    let pushed : c.push-in-loop-page.new.self ≡ l.offsets ++ end ∷ [] = c.in_ok-push-2.ensures.ok ∙ ap (λ (e : ℕ). l.offsets ++ e ∷ []) c.at.ensures.offset in
    let more = n.reads c.args.source.now.bits h.read.0 h.same_bits h.read.1 in
    let most : c.max-greatest.result ≡ max l.greatest (length c.list.result.now) = search rules in
    record {
      same_params = n.params ∙ h.same_params;
      same_page = n.page ∙ ap (λ (k : ℕ). k + 1) h.same_page;
      same_bits = n.later.bits ∙ h.same_bits;
      counted = omega (arith, ap length pushed, length-append l.offsets (end ∷ []), h.counted);
      last = ap last_place pushed ∙ last_more l.offsets end;
      read = (
        more.0 ∷ h.read.0,
        more.3,
        pushed ∙ ap (λ (xs : List ℕ). xs ++ end ∷ []) h.read.2 ∙ ap (λ (e : ℕ). places_of h.read.0 ++ e ∷ []) (sym more.2) ∙ sym (places_more more.0 h.read.0),
        one_greater h.read.0 more.0 l.greatest _ (length c.list.result.now) _ c.list.result.now more.1 c.list.ensures.value refl most h.read.3,
      );
    }

pub finish-requires : goal.finish-requires
finish-requires c =
    let l = c.loop-page in
    let h = l.invariant in
    omega (arith, h.same_page, ap (λ (q : Parameters). q.nodes) h.same_params, c.loop-page-test.false, c.requires.nodes, l.auto._page-end)

pub returns-in_err-finish-clause-fault : goal.returns-in_err-finish-clause-fault
returns-in_err-finish-clause-fault c =
    let h = c.loop-page.invariant in
    let bits = c.args.source.now.bits in
    rw (is_that_err c.from_residual-in_err-finish.result _ c.from_residual-in_err-finish.ensures.1) (fault_weaker c.in_err-finish.field-0.0 _ _
    (λ f k. subst (λ (q : Parameters). ReadsGraph q bits (Err f)) h.same_params k)
    (c.in_err-finish.ensures.fault bits h.read.0 h.same_bits h.read.1))

pub returns-clause-finds : goal.returns-clause-finds
returns-clause-finds c =
    let h = c.loop-page.invariant in
    let bits = c.args.source.now.bits in
    let ends = subst (λ (q : Parameters). ReadsGraph q bits (Ok (record { graph = lists_of h.read.0; places = places_of h.read.0 }))) h.same_params (c.in_ok-finish.ensures.reads bits h.read.0 h.same_bits h.read.1) in (
      lists_of h.read.0,
      subst (λ (s : List ℕ). ReadsGraph c.args.pages.now.params bits (Ok (record { graph = lists_of h.read.0; places = s }))) (sym h.read.2) ends,
      h.read.3,
    )
