use Rattle.std.proofs.Common.{◌≡◌, ◌+◌, ◌∙◌, ℕ, List, [], ◌∷◌, ◌++◌, Ok, Err, length, take, map, refl, sym, ap, subst, arith}
use Rattle.std.proofs.lemmas.List.{map-append, take_all}
use Rattle.wg_outside.proofs.PutsLemmas.{is_that_err}
use Rattle.wg_params.specs.Parameters.{Parameters}
use Rattle.wg_grammar.specs.Archive.{lists_of, places_of, ReadsGraph}
use Rattle.wg_stream.specs.Prefix.{AreBehind}
use Rattle.wg_grammar.proofs.ErrorLemmas.{fault_weaker, faults_weaker}
use Rattle.wg_stream.proofs.PrefixLemmas.{lists_more}
use Rattle.wg_stream.proofs.ErrorLemmas.{on_ok}
use Rattle.wg_memory.proofs.outdegrees.outdegrees_on.Goals as goal

pub loop-page-init : goal.loop-page-init
loop-page-init c = record {
  same_params = refl;
  same_page = c.requires.none;
  same_bits = refl;
  long = refl;
  read = ([], subst (λ (n : ℕ). AreBehind c.args.source.now.bits c.args.pages.now n []) (sym c.requires.start) c.requires.behind, refl);
}

pub next-requires : goal.next-requires
next-requires c =
    let h = c.loop-page.invariant in
    omega (arith, h.same_page, h.long, ap (λ (q : Parameters). q.nodes) h.same_params, c.loop-page-test.true, c.requires.many)

pub returns-in_err-next-clause-fault : goal.returns-in_err-next-clause-fault
returns-in_err-next-clause-fault c =
    let h = c.loop-page.invariant in
    let bits = c.args.source.now.bits in
    rw (is_that_err c.from_residual.result _ c.from_residual.ensures.1) (fault_weaker c.in_err-next.field-0.0 _ _
    (λ f k. subst (λ (q : Parameters). ReadsGraph q bits (Err f)) h.same_params k)
    (c.in_err-next.ensures.fault bits h.read.0 h.same_bits h.read.1))

pub loop-page-preserved : goal.loop-page-preserved
loop-page-preserved c =
    let l = c.loop-page in
    let h = l.invariant in
    let n = c.in_ok-next.ensures in
    let more = n.reads c.args.source.now.bits h.read.0 h.same_bits h.read.1 in
    record {
      same_params = n.params ∙ h.same_params;
      same_page = n.page ∙ ap (λ (k : ℕ). k + 1) h.same_page;
      same_bits = n.later.bits ∙ h.same_bits;
      long = c.put_one.ensures.long ∙ h.long;
      read = (
        more.0 ∷ h.read.0,
        more.3,
        c.put_one.ensures.put ∙ ap (λ (s : List ℕ). s ++ length c.list.result.now ∷ []) h.read.2 ∙ ap (λ (xs : List ℕ). map length (lists_of h.read.0) ++ length xs ∷ []) (c.list.ensures.value ∙ sym more.1)
            ∙ sym (map-append length (lists_of h.read.0) (more.0.known.list ∷ [])) ∙ ap (λ (s : List (List ℕ)). map length s) (sym (lists_more more.0 h.read.0)),
      );
    }

pub returns-clause-outdegrees : goal.returns-clause-outdegrees
returns-clause-outdegrees c =
    let l = c.loop-page in
    let h = l.invariant in
    let bits = c.args.source.now.bits in
    let all : take l.page l.outdegrees ≡ l.outdegrees = take_all l.page l.outdegrees (omega (arith, h.long, c.loop-page-test.false)) in
    on_ok c.finish.result _ _ (λ reads. (
      record { graph = lists_of h.read.0; places = places_of h.read.0 },
      subst (λ (q : Parameters). ReadsGraph q bits (Ok (record { graph = lists_of h.read.0; places = places_of h.read.0 }))) h.same_params reads,
      sym all ∙ h.read.2,
    )) (c.finish.ensures.reads bits h.read.0 h.same_bits h.read.1)

pub returns-clause-fault : goal.returns-clause-fault
returns-clause-fault c =
    let h = c.loop-page.invariant in
    let bits = c.args.source.now.bits in
    faults_weaker c.finish.result _ _ (λ f k. subst (λ (q : Parameters). ReadsGraph q bits (Err f)) h.same_params k) (c.finish.ensures.fault bits h.read.0 h.same_bits h.read.1)
