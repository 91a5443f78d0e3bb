use Rattle.std.proofs.{Common.subst, Common.sym, Common.◌≤◌, Common.ℕ, lemmas.Result.IfOk-from_err}
use Rattle.wg_params.specs.declared.limits.TheConstants.{MOST_PAGES}
use Rattle.wg_transforms.proofs.EncodingLemmas.{all_encoded, arcs_begun, as_many, few_encoded, made_of, nodes_begun}
use Rattle.wg_transforms.proofs.ranging.archive_of_ranges.Goals as goal

pub returns-in_err-begun : goal.returns-in_err-begun
returns-in_err-begun g c = IfOk-from_err c.from_residual.result _ c.from_residual.ensures.0

pub returns-in_err-encoder : goal.returns-in_err-encoder
returns-in_err-encoder g c = IfOk-from_err c.from_residual-in_err-encoder.result _ c.from_residual-in_err-encoder.ensures.0

pub returns-in_err-archive : goal.returns-in_err-archive
returns-in_err-archive g c = IfOk-from_err c.from_residual-in_err-archive.result _ c.from_residual-in_err-archive.ensures.0

pub returns : goal.returns
returns g c =
    made_of _ c.nodes-nodes.result _ _ c.params_of.ensures c.in_ok-begun.ensures.params c.in_ok-encoder.encoder c.in_ok-encoder.ensures.params c.arcs.result
    (g.R.Ranged.graph c.args.ranges) c.arcs.ensures.value c.in_ok-encoder.ensures.encoded c.params_of-params.result c.in_ok-archive.archive c.nodes-nodes.ensures.value c.params_of-params.ensures c.in_ok-archive.ensures

pub params_of-requires : goal.params_of-requires
params_of-requires g c = record {
  layout = c.requires.layout;
  nodes = subst (λ (k : ℕ). k ≤ MOST_PAGES) (sym c.nodes-nodes.ensures.value) c.nodes-nodes.ensures.few_pages;
  arcs = as_many;
}

pub add_ranges-requires : goal.add_ranges-requires
add_ranges-requires g c =
    let begun = c.in_ok-begun.ensures in
    record {
      none = c.requires.none;
      nodes = nodes_begun _ c.nodes-nodes.result _ _ c.params_of.ensures begun.params _ c.nodes-nodes.ensures.value;
      most = arcs_begun _ c.nodes-nodes.result _ _ c.params_of.ensures begun.params;
      encoded = begun.encoded;
    }

pub params_of-params-requires : goal.params_of-params-requires
params_of-params-requires g c = record {
  layout = c.requires.layout;
  nodes = subst (λ (k : ℕ). k ≤ MOST_PAGES) (sym c.nodes-nodes.ensures.value) c.nodes-nodes.ensures.few_pages;
  arcs = few_encoded _ c.nodes-nodes.result _ _ c.params_of.ensures c.in_ok-begun.ensures.params c.in_ok-encoder.encoder c.in_ok-encoder.ensures.params _ c.arcs.ensures.within;
}

pub finish-requires : goal.finish-requires
finish-requires g c =
    all_encoded _ c.nodes-nodes.result _ _ c.params_of.ensures c.in_ok-begun.ensures.params c.in_ok-encoder.encoder c.in_ok-encoder.ensures.params c.arcs.result
    (g.R.Ranged.graph c.args.ranges) c.arcs.ensures.value c.in_ok-encoder.ensures.encoded c.nodes-nodes.ensures.proper.counted c.nodes-nodes.ensures.value
