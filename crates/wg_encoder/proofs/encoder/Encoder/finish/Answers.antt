use Rattle.std.proofs.Common.{◌≡◌, ◌∙◌, ℕ, List, length, sym, ap, subst}
use Rattle.std.specs.Result.{IfOk, IfErr, OnOk}
use Rattle.wg_graph.specs.Digraph.{IsGraph}
use Rattle.wg_greedy.specs.Archive.{graph_bits}
use Rattle.wg_encoder.specs.Encoding.{Encoding}
use Rattle.wg_encoder.specs.Gone.{HasSentUpTo, HasStopped, IsWritten}
use Rattle.wg_encoder.proofs.OfGraph.{front, whole_front}
use Rattle.wg_encoder.proofs.encoder.Encoder.finish.Goals as goal

pub finish-requires : goal.finish-requires
finish-requires g c = subst (λ (e : Encoding). e.page ≡ e.graph.nodes) (sym c.self.view_is) c.requires.done ∙ sym c.self.invariant.1

pub returns-clause-bits : goal.returns-clause-bits
returns-clause-bits g c =
    let s = c.self.inside in
    let is = subst (λ (e : Encoding). IsGraph e.graph) (sym c.self.view_is) c.limits.ensures in
    let done = subst (λ (e : Encoding). e.page ≡ e.graph.nodes) (sym c.self.view_is) c.requires.done in
    let whole = whole_front s.graph.now s.lists.next.page is done in
    let bits : s.lists.total ≡ length (graph_bits c.args.self.params c.args.self.graph.lists) =
    c.self.invariant.3.is_total ∙ ap (λ (ls : List (List ℕ)). length (graph_bits s.lists.params ls)) whole ∙ ap (λ (e : Encoding). length (graph_bits e.params e.graph.lists)) c.self.view_is in
    subst (λ (n : ℕ). IfOk c.finish.result (λ b. b ≡ n)) bits c.finish.ensures.bits

pub returns-clause-ok : goal.returns-clause-ok
returns-clause-ok g c t h =
    let s = c.self.inside in
    let is = subst (λ (e : Encoding). IsGraph e.graph) (sym c.self.view_is) c.limits.ensures in
    let done = subst (λ (e : Encoding). e.page ≡ e.graph.nodes) (sym c.self.view_is) c.requires.done in
    let sent = subst (HasSentUpTo (g.D.Depot.files c.args.depot.now) c.args.base.now) (sym c.self.view_is) h in
    let files = g.D.Depot.files c.finish.new.depot in
    subst (λ (e : Encoding). OnOk c.finish.result (IsWritten files c.args.base.now e.params e.graph.lists)) c.self.view_is
    (subst (λ (ls : List (List ℕ)). OnOk c.finish.result (IsWritten files c.args.base.now s.lists.params ls)) (whole_front s.graph.now s.lists.next.page is done)
    (c.finish.ensures.ok (front s.graph.now s.lists.next.page) c.self.invariant.3 t sent))

pub returns-clause-err : goal.returns-clause-err
returns-clause-err g c t h =
    let s = c.self.inside in
    let is = subst (λ (e : Encoding). IsGraph e.graph) (sym c.self.view_is) c.limits.ensures in
    let done = subst (λ (e : Encoding). e.page ≡ e.graph.nodes) (sym c.self.view_is) c.requires.done in
    let sent = subst (HasSentUpTo (g.D.Depot.files c.args.depot.now) c.args.base.now) (sym c.self.view_is) h in
    let files = g.D.Depot.files c.finish.new.depot in
    subst (λ (e : Encoding). IfErr c.finish.result (HasStopped files c.args.base.now e.params e.graph.lists)) c.self.view_is
    (subst (λ (ls : List (List ℕ)). IfErr c.finish.result (HasStopped files c.args.base.now s.lists.params ls)) (whole_front s.graph.now s.lists.next.page is done)
    (c.finish.ensures.err (front s.graph.now s.lists.next.page) c.self.invariant.3 t sent))
