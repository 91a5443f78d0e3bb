use Rattle.std.proofs.Common.{◌≡◌, ◌∙◌, take, sym, ap, subst, arith}
use Rattle.std.proofs.lemmas.Result.{err_from_is_err_and}
use Rattle.wg_params.specs.Parameters.{Parameters}
use Rattle.wg_graph.specs.Digraph.{successors}
use Rattle.wg_encoder.specs.ArchiveInMemory.{HasEncoded}
use Rattle.wg_encoder.proofs.OfGraph.{front, front_on, arcs_fit, whole_front}
use Rattle.wg_encoder.proofs.archive_encoder.encode.Goals as goal

pub returns-in_err-encoder : goal.returns-in_err-encoder
returns-in_err-encoder c = let e = err_from_is_err_and c.from_residual.result c.from_residual.ensures.1 in rw e.1 tt

pub loop-encoder-init : goal.loop-encoder-init
loop-encoder-init c =
    let n = c.in_ok-encoder.ensures in
    record {
      params = n.params;
      few = omega (arith, n.page);
      encoded = subst (λ k. HasEncoded c.in_ok-encoder.encoder (take k c.args.graph.now.lists)) (sym n.page) n.encoded;
    }

pub add-requires-clause-arcs : goal.add-requires-clause-arcs
add-requires-clause-arcs c =
    let i = c.loop-encoder.invariant in
    let g = c.args.graph.now in
    let page = c.loop-encoder.encoder.page in
    let list = c.list-list.ensures.value ∙ ap (successors g) c.page-in-loop-encoder.ensures.value in
    arcs_fit g page _ _ c.list-list.result.now c.nodes.ensures.proper (omega arith) list (ap (λ (p : Parameters). p.arcs) i.params ∙ c.requires.arcs) i.encoded.arcs

pub loop-encoder-preserved : goal.loop-encoder-preserved
loop-encoder-preserved c =
    let i = c.loop-encoder.invariant in
    let n = c.in_ok-encoder-2.ensures in
    let g = c.args.graph.now in
    let page = c.loop-encoder.encoder.page in
    let list = c.list-list.ensures.value ∙ ap (successors g) c.page-in-loop-encoder.ensures.value in
    record {
      params = n.params ∙ i.params;
      few = omega (arith, n.page);
      encoded = subst (HasEncoded c.in_ok-encoder-2.encoder) (front_on g page _ c.list-list.result.now c.nodes.ensures.proper (omega arith) list n.page) (n.encoded (front g page) i.encoded);
    }

pub returns-in_err-encoder-2 : goal.returns-in_err-encoder-2
returns-in_err-encoder-2 c = let e = err_from_is_err_and c.from_residual-in_err-encoder-2.result c.from_residual-in_err-encoder-2.ensures.1 in rw e.1 tt

pub returns : goal.returns
returns c =
    let i = c.loop-encoder.invariant in
    let g = c.args.graph.now in
    let page = c.loop-encoder.encoder.page in
    let all : page ≡ g.nodes = omega arith in
    c.finish.ensures g.lists (subst (HasEncoded c.loop-encoder.encoder) (whole_front g page c.nodes.ensures.proper all) i.encoded) (sym (ap (λ (p : Parameters). record p { arcs = c.args.params.arcs }) i.params))
