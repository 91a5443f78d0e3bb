use Rattle.std.proofs.Common.{◌<◌, ◌≤◌, inl, inr, subst}
use Rattle.wg_outside.proofs.PutsLemmas.{is_that_err}
use Rattle.wg_params.specs.declared.limits.TheConstants.{MOST_ARCS}
use Rattle.wg_graph.specs.Digraph.{Digraph, arc_count}
use Rattle.wg_shape.specs.Graphs.{union_graph}
use Rattle.wg_writing.specs.Writing.{IsArchiveOf}
use Rattle.wg_transforms.proofs.EncodingLemmas.{no_status}
use Rattle.wg_transforms.proofs.union.united.Goals as goal

pub returns-in_err-one : goal.returns-in_err-one
returns-in_err-one c =
    rw (is_that_err c.from_residual.result _ c.from_residual.ensures.1) record {
      made = λ a b is_a is_b. tt;
      few = λ a b is_a is_b. tt;
      only = inl c.in_err-one.ensures.only;
      too_many = λ a b is_a is_b is. no_status _ _ _ c.in_err-one.ensures.only is;
    }

pub returns-in_err-other : goal.returns-in_err-other
returns-in_err-other c =
    rw (is_that_err c.from_residual-in_err-other.result _ c.from_residual-in_err-other.ensures.1) record {
      made = λ a b is_a is_b. tt;
      few = λ a b is_a is_b. tt;
      only = inl c.in_err-other.ensures.only;
      too_many = λ a b is_a is_b is. no_status _ _ _ c.in_err-other.ensures.only is;
    }

pub returns-in-Ok : goal.returns-in-Ok
returns-in-Ok c = record {
  made = λ a b is_a is_b.
      subst (λ (u : Digraph). IsArchiveOf c.args.layout.now u c.in-Ok.made)
      (λ i. union_graph (c.in_ok-one.ensures.graph a is_a i) (c.in_ok-other.ensures.graph b is_b i)) c.in-Ok.ensures.made;
  few = λ a b is_a is_b.
      subst (λ (u : Digraph). arc_count u ≤ MOST_ARCS)
      (λ i. union_graph (c.in_ok-one.ensures.graph a is_a i) (c.in_ok-other.ensures.graph b is_b i)) c.in-Ok.ensures.few;
  only = tt;
  too_many = λ a b is_a is_b. tt;
}

pub returns-in-Err-TooManyArcs : goal.returns-in-Err-TooManyArcs
returns-in-Err-TooManyArcs c = record {
  made = λ a b is_a is_b. tt;
  few = λ a b is_a is_b. tt;
  only = inr c.of.ensures.status;
  too_many = λ a b is_a is_b is.
      subst (λ (u : Digraph). MOST_ARCS < arc_count u)
      (λ i. union_graph (c.in_ok-one.ensures.graph a is_a i) (c.in_ok-other.ensures.graph b is_b i)) (c.in-Err-TooManyArcs.ensures.too_many c.in-Err-TooManyArcs.field-0-is);
}

pub returns : goal.returns
returns c = record {
  made = λ a b is_a is_b. tt;
  few = λ a b is_a is_b. tt;
  only = inl c.of-in-Err-Memory.ensures.status;
  too_many = λ a b is_a is_b is. no_status _ _ _ c.of-in-Err-Memory.ensures.status is;
}
