use Rattle.wg_outside.proofs.PutsLemmas.{is_that_err}
use Rattle.std.proofs.lemmas.Result.{err_from_is_err_and}
use Rattle.wg_shape.specs.Graphs.{union_graph}
use Rattle.wg_transforms.proofs.EncodingLemmas.{arcs_begun, as_many, few_arcs, few_encoded, few_pages, greater, made_of, no_arcs, nodes_begun}
use Rattle.wg_transforms.proofs.uniting.encode_union.Goals as goal

pub returns-in_err-begun : goal.returns-in_err-begun
returns-in_err-begun g c =
    rw (is_that_err c.from_residual.result _ c.from_residual.ensures.1) record { made = tt; few = tt; too_many = λ is. no_arcs _ _ is }

pub returns-in_err-encoder : goal.returns-in_err-encoder
returns-in_err-encoder g c =
    let e = err_from_is_err_and c.from_residual-in_err-encoder.result c.from_residual-in_err-encoder.ensures.1 in
    rw (e.1, e.2) record { made = tt; few = tt; too_many = c.in_err-encoder.ensures.too_many }

pub returns-in_err-archive : goal.returns-in_err-archive
returns-in_err-archive g c =
    let e = err_from_is_err_and c.from_residual-in_err-archive.result c.from_residual-in_err-archive.ensures.1 in
    rw (e.1, e.2) record { made = tt; few = tt; too_many = λ is. no_arcs _ _ is }

pub returns : goal.returns
returns g c =
    let u = union_graph (g.A.Lists.graph c.args.first.now) (g.B.Lists.graph c.args.second.now) in
    let n = c.max-nodes.result in
    let is = c.params_of.ensures in
    let begun_is = c.in_ok-begun.ensures.params in
    let e = c.in_ok-encoder.encoder in
    let same = c.in_ok-encoder.ensures.params in
    let lists = c.in_ok-encoder.ensures.encoded in
    let arcs = c.arcs.result in
    let count = c.arcs.ensures.value in
    let size = greater n _ _ _ _ c.max-nodes.ensures c.nodes.ensures.count c.nodes-2.ensures.count in
    record {
      made = made_of _ n _ _ is begun_is e same arcs u count lists c.params_of-params.result c.in_ok-archive.archive size c.params_of-params.ensures c.in_ok-archive.ensures;
      few = few_arcs _ n _ _ is begun_is e same arcs u count lists c.arcs.ensures.within;
      too_many = tt;
    }

pub params_of-requires : goal.params_of-requires
params_of-requires g c = record {
  layout = c.requires.layout;
  nodes = few_pages _ _ _ _ _ c.max-nodes.ensures c.nodes.ensures.count c.nodes-2.ensures.count c.requires.first c.requires.second;
  arcs = as_many;
}

pub add_lists-requires : goal.add_lists-requires
add_lists-requires g c =
    let n = c.max-nodes.result in
    let is = c.params_of.ensures in
    let begun = c.in_ok-begun.ensures in
    record {
      none = begun.page;
      encoded = begun.encoded;
      nodes = nodes_begun _ n _ _ is begun.params _ (greater n _ _ _ _ c.max-nodes.ensures c.nodes.ensures.count c.nodes-2.ensures.count);
      most = arcs_begun _ n _ _ is begun.params;
    }

pub params_of-params-requires : goal.params_of-params-requires
params_of-params-requires g c = record {
  layout = c.requires.layout;
  nodes = few_pages _ _ _ _ _ c.max-nodes.ensures c.nodes.ensures.count c.nodes-2.ensures.count c.requires.first c.requires.second;
  arcs = few_encoded _ c.max-nodes.result _ _ c.params_of.ensures c.in_ok-begun.ensures.params c.in_ok-encoder.encoder c.in_ok-encoder.ensures.params _ c.arcs.ensures.within;
}

pub finish-requires : goal.finish-requires
finish-requires g c = c.in_ok-encoder.ensures.all
