use Rattle.std.proofs.Common.{◌+◌, ◌<◌, ◌∙◌, drop, sym, ap, subst, arith}
use Rattle.std.proofs.lemmas.Result.{err_from_is_err_and}
use Rattle.wg_graph.specs.Digraph.{IsGraph, successors}
use Rattle.wg_grammar.specs.Context.{Context}
use Rattle.wg_encoder.specs.Encoding.{Encoded, Encoding, HasWritten}
use Rattle.wg_encoder.specs.Gone.{HasSentAll, HasSentUpTo}
use Rattle.wg_encoder.proofs.OfGraph.{front, front_on, stopped, arcs_fit}
use Rattle.wg_encoder.proofs.encoder.Encoder.next.Goals as goal

pub next-requires-clause-arcs : goal.next-requires-clause-arcs
next-requires-clause-arcs g c =
    let is = subst (λ (e : Encoding). IsGraph e.graph) (sym c.self.view_is) c.limits.ensures in
    let here = subst (λ (e : Encoding). e.page < e.graph.nodes) (sym c.self.view_is) c.requires.more in
    let list = c.list-list.ensures.value ∙ ap (successors c.self.inside.graph.now) c.page.ensures.value in
    arcs_fit c.self.inside.graph.now c.self.inside.lists.next.page _ _ c.list-list.result.now is here list c.self.invariant.2 (ap (λ (k : Context). k.arcs_before) c.self.invariant.3.context)

pub returns-in_err-lists : goal.returns-in_err-lists
returns-in_err-lists g c =
    let n = c.in_err-lists.ensures in
    let e = err_from_is_err_and c.from_residual.result c.from_residual.ensures.1 in
    let is = subst (λ (e : Encoding). IsGraph e.graph) (sym c.self.view_is) c.limits.ensures in
    let here = subst (λ (e : Encoding). e.page < e.graph.nodes) (sym c.self.view_is) c.requires.more in
    let list = c.list-list.ensures.value ∙ ap (successors c.self.inside.graph.now) c.page.ensures.value in
    let page = c.self.inside.lists.next.page in
    rw (e.1, e.2) record {
      on = tt;
      ok = λ t h. tt;
      err = λ t h.
          let sent = subst (HasSentUpTo (g.D.Depot.files c.args.depot.now) c.args.base.now) (sym c.self.view_is) h in
          stopped _ c.args.base.now c.args.self _ c.list-list.result.now c.in_err-lists.field-0.0 c.self.view_is is here list
          (n.err (front c.self.inside.graph.now page) (drop (page + 1) c.self.inside.graph.now.lists) c.self.invariant.3 t sent);
      only_two = n.only_two;
      fault = n.fault;
      later = n.later;
    }

pub invariant_of-result : goal.invariant_of-result
invariant_of-result g c =
    let is = subst (λ (e : Encoding). IsGraph e.graph) (sym c.self.view_is) c.limits.ensures in
    let here = subst (λ (e : Encoding). e.page < e.graph.nodes) (sym c.self.view_is) c.requires.more in
    let list = c.list-list.ensures.value ∙ ap (successors c.self.inside.graph.now) c.page.ensures.value in
    let page = c.self.inside.lists.next.page in
    let on = ap (λ (k : Encoded). k.next.page) c.in_ok-lists.ensures.on in (
      omega (arith, on, here),
      ap (λ (k : Encoded). k.params.nodes) c.in_ok-lists.ensures.on ∙ c.self.invariant.1,
      ap (λ (k : Encoded). k.params.arcs) c.in_ok-lists.ensures.on ∙ c.self.invariant.2,
      subst (HasWritten c.in_ok-lists.lists) (front_on c.self.inside.graph.now page c.in_ok-lists.lists.next.page c.list-list.result.now is here list on)
          (c.in_ok-lists.ensures.written (front c.self.inside.graph.now page) c.self.invariant.3),
    )

pub returns-clause-ok : goal.returns-clause-ok
returns-clause-ok g c t h =
    let is = subst (λ (e : Encoding). IsGraph e.graph) (sym c.self.view_is) c.limits.ensures in
    let here = subst (λ (e : Encoding). e.page < e.graph.nodes) (sym c.self.view_is) c.requires.more in
    let list = c.list-list.ensures.value ∙ ap (successors c.self.inside.graph.now) c.page.ensures.value in
    let page = c.self.inside.lists.next.page in
    let on = ap (λ (k : Encoded). k.next.page) c.in_ok-lists.ensures.on in
    let sent = subst (HasSentUpTo (g.D.Depot.files c.args.depot.now) c.args.base.now) (sym c.self.view_is) h in
    subst (HasSentAll (g.D.Depot.files c.next.new.depot) c.args.base.now c.in_ok-lists.lists) (front_on c.self.inside.graph.now page c.in_ok-lists.lists.next.page c.list-list.result.now is here list on)
    (c.in_ok-lists.ensures.ok (front c.self.inside.graph.now page) c.self.invariant.3 t sent)
