use Rattle.std.proofs.Common.{◌∙◌, ◌≤◌, ℕ, ap, inl, inr, refl, subst, sym}
use Rattle.wg_graph.specs.Digraph.{Digraph}
use Rattle.wg_params.specs.declared.limits.TheConstants.{MOST_ARCS}
use Rattle.wg_outside.proofs.PutsLemmas.{is_that_err}
use Rattle.wg_transforms.proofs.transposing.judged_ranges.Goals as goal

pub returns-in_err-lists : goal.returns-in_err-lists
returns-in_err-lists c =
    let e = c.in_err-lists.ensures in
    rw (is_that_err c.from_residual.result _ c.from_residual.ensures.1) record { goes = tt; ends = record { refused = e.refused; only = e.only } }

pub returns-in_err-new : goal.returns-in_err-new
returns-in_err-new c =
    rw (is_that_err c.from_residual-in_err-new.result _ c.from_residual-in_err-new.ensures.1)
    record { goes = tt; ends = record { refused = λ r next. inr tt; only = inl refl } }

pub returns : goal.returns
returns c =
    let t = c.in_ok-new.ensures in
    let l = c.in_ok-lists.ensures in
    record {
      goes = record {
        none = t.to;
        nodes = ap (λ (g : Digraph). g.nodes) t.graph ∙ l.nodes;
        goes = λ r next. l.goes r next ∙ ap next (sym t.graph);
      };
      ends = tt;
    }

pub new-requires : goal.new-requires
new-requires c = record {
  few_pages = c.in_ok-lists.ensures.few;
  few_arcs = subst (λ (k : ℕ). k ≤ MOST_ARCS) (sym c.in_ok-lists.ensures.arcs) c.nodes.ensures.limits.arcs;
}
