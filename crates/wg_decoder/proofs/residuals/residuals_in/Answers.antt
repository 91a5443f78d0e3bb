use Rattle.std.proofs.Common.{◌≡◌, ◌∙◌, ℕ, suc, ◌<◌, List, [], ◌++◌, drop, None, sym, subst, arith, ap}
use Rattle.std.proofs.lemmas.Result.{err_from_is_err_and}
use Rattle.std.proofs.lemmas.List.{take_rest}
use Rattle.wg_codes.specs.Fold.{number_of_gap}
use Rattle.wg_graph.specs.Joined.{Joined}
use Rattle.wg_graph.proofs.Unions.{joined_none}
use Rattle.wg_grammar.proofs.ErrorLemmas.{fault_weaker, refusal_weaker}
use Rattle.wg_decoder.proofs.Orders.{from_0, from_1, from_next}
use Rattle.wg_decoder.proofs.ResidualLemmas.{residuals_begin, residuals_fail, own_first, joining_first, joining_more, joining_fails, joining_all}
use Rattle.wg_decoder.proofs.residuals.residuals_in.Goals as goal

pub returns-in_err-last : goal.returns-in_err-last
returns-in_err-last g c =
    let q = c.args.params.now in
    let page = c.args.page in
    let at = g.S.Source.offset c.args.source.now in
    let n = c.in_err-last.ensures in
    let p = err_from_is_err_and c.from_residual.result c.from_residual.ensures.1 in
    rw (p.1, p.2) record {
      later = n.later;
      refused = n.refused;
      ok = tt;
      fault = λ bits r.
          fault_weaker c.in_err-last.field-0.0 _ _
          (λ e h. residuals_fail q page c.args.missing (number_of_gap page None) bits at [] at e c.requires.some (own_first page) (residuals_begin q page c.args.missing bits at) h)
          (rw (c.requires.code, c.nodes-nodes.ensures.value) at (n.fault bits r));
    }

pub returns-in_err-taken : goal.returns-in_err-taken
returns-in_err-taken g c =
    let p = err_from_is_err_and c.from_residual-in_err-taken.result c.from_residual-in_err-taken.ensures.1 in
    rw (p.1, p.2) record { later = c.in_ok-last.ensures.later; refused = tt; ok = tt; fault = λ bits r. tt }

pub rest-init : goal.rest-init
rest-init g c =
    let q = c.args.params.now in
    let s = g.S.Source in
    let members = c.args.others.now in
    let y = c.in_ok-last.last in
    let taken = c.in_ok-taken.taken in
    let fits : y < q.nodes = rw c.nodes-nodes.ensures.value at c.in_ok-last.ensures.below in
    let none : Joined members [] 0 c.args.list.now 0 = subst (λ (out : List ℕ). Joined members [] 0 out 0) (sym c.requires.empty) (joined_none members c.requires.ascends) in
    record {
      later = c.in_ok-last.ensures.later;
      inside = fits;
      within = c.in_ok-taken.ensures.within;
      joining = joining_first q c.args.page c.args.missing members (s.reads_from c.args.source.now) (s.offset c.args.source.now) y taken c.join.new.out (s.offset c.first_number.new.source) c.requires.some
          (λ bits r. rw c.requires.code at (c.in_ok-last.ensures.ok bits r)) fits (c.in_ok-taken.ensures.joined [] 0 (from_0 y) none);
    }

pub rest-preserved : goal.rest-preserved
rest-preserved g c =
    let q = c.args.params.now in
    let s = g.S.Source in
    let members = c.args.others.now in
    let i = c.rest.invariant in
    let x = c.rest.last in
    let y = c.in_ok-last-2.last in
    let fits : y < q.nodes = rw c.nodes-nodes.ensures.value at c.in_ok-last-2.ensures.below in
    let h = i.joining in
    let joined = c.in_ok-taken-2.ensures.joined h.residuals (suc x) (from_next x y c.in_ok-last-2.ensures.above) h.joined in
    record {
      later = g.met.S.Source.goes_on _ _ _ i.later c.in_ok-last-2.ensures.later;
      inside = fits;
      within = c.in_ok-taken-2.ensures.within;
      joining = joining_more q c.args.page c.args.missing members (s.reads_from c.args.source.now) (s.offset c.args.source.now) c.rest._count x c.rest.taken c.rest.list (s.offset c.rest.source) y c.in_ok-taken-2.taken c.join-in-rest.new.out (s.offset c.later_number.new.source) (from_1 _ c.rest.auto._count) c.rest-test.true h
          (λ bits r. rw c.requires.code at (c.in_ok-last-2.ensures.ok bits (g.met.S.Source.same_bits _ _ bits i.later r))) fits joined;
    }

pub returns-in_err-last-2 : goal.returns-in_err-last-2
returns-in_err-last-2 g c =
    let q = c.args.params.now in
    let s = g.S.Source in
    let i = c.rest.invariant in
    let n = c.in_err-last-2.ensures in
    let p = err_from_is_err_and c.from_residual-in_err-last-2.result c.from_residual-in_err-last-2.ensures.1 in
    rw (p.1, p.2) record {
      later = g.met.S.Source.goes_on _ _ _ i.later n.later;
      refused = refusal_weaker c.in_err-last-2.field-0.0 _ _ (λ x h. g.met.S.Source.still_caused _ _ _ x i.later h) n.refused;
      ok = tt;
      fault = λ bits r.
          fault_weaker c.in_err-last-2.field-0.0 _ _
          (λ e h. joining_fails q c.args.page c.args.missing c.args.others.now (s.reads_from c.args.source.now) bits (s.offset c.args.source.now) c.rest._count c.rest.last c.rest.taken c.rest.list (s.offset c.rest.source) e (from_1 _ c.rest.auto._count) c.rest-test.true r i.joining h)
          (rw (c.requires.code, c.nodes-nodes.ensures.value) at (n.fault bits (g.met.S.Source.same_bits _ _ bits i.later r)));
    }

pub returns-in_err-taken-2 : goal.returns-in_err-taken-2
returns-in_err-taken-2 g c =
    let p = err_from_is_err_and c.from_residual-in_err-taken-2.result c.from_residual-in_err-taken-2.ensures.1 in
    rw (p.1, p.2) record {
      later = g.met.S.Source.goes_on _ _ _ c.rest.invariant.later c.in_ok-last-2.ensures.later;
      refused = tt;
      ok = tt;
      fault = λ bits r. tt;
    }

pub returns-in_err-extend : goal.returns-in_err-extend
returns-in_err-extend g c =
    let p = err_from_is_err_and c.from_residual-in_err-extend.result c.from_residual-in_err-extend.ensures.1 in
    rw (p.1, p.2) record { later = c.rest.invariant.later; refused = tt; ok = tt; fault = λ bits r. tt }

pub returns : goal.returns
returns g c =
    let q = c.args.params.now in
    let s = g.S.Source in
    let members = c.args.others.now in
    let i = c.rest.invariant in
    let is : c.extend.new.self ≡ c.rest.list ++ drop c.rest.taken members = c.in_ok-extend.ensures.ok ∙ ap (λ (xs : List ℕ). c.rest.list ++ xs) (take_rest members c.rest.taken) in
    record {
      later = i.later;
      refused = tt;
      ok = joining_all q c.args.page c.args.missing members (s.reads_from c.args.source.now) (s.offset c.args.source.now) c.rest._count c.rest.last c.rest.taken c.rest.list (s.offset c.rest.source) c.extend.new.self (omega arith) i.inside c.requires.below i.joining is;
      fault = λ bits r. tt;
    }
