use Rattle.std.proofs.Common.{◌≡◌, ◌∙◌, ℕ, ◌<◌, max, List, length, IfErr, ap, subst, sym, arith}
use Rattle.std.proofs.lemmas.Result.{err_from_is_err_and}
use Rattle.wg_params.specs.declared.limits.TheConstants.{MOST_ARCS}
use Rattle.wg_graph.specs.Ascending.{Below}
use Rattle.wg_graph.specs.Digraph.{arc_count}
use Rattle.wg_shape.specs.Added.{Added}
use Rattle.wg_shape.specs.Graphs.{IsUnion, UnionSoFar, union_graph}
use Rattle.wg_shape.specs.declared.error.ShapeError.TheVariants.{TooManyArcs}
use Rattle.wg_shape.proofs.GraphUnions.{both_are, both_below, finished, is_union, part_le, union_more}
use Rattle.wg_shape.proofs.uniting.union.Goals as goal

pub add_union-requires-clause-below : goal.add_union-requires-clause-below
add_union-requires-clause-below c =
    let first = c.args.first.now in
    let second = c.args.second.now in
    let n : ℕ = c.loop-page.builder.nodes in
    let nodes = c.loop-page.invariant.nodes in
    let is = both_are first second c.loop-page.page _ _ _ _ _ c.new-in-loop-page.ensures c.new-one.ensures c.new-other.ensures c.list_of.ensures.list c.list_of-in-loop-page.ensures.list in
    subst (Below n) (sym is) (both_below first second c.list_of.ensures.proper c.list_of-in-loop-page.ensures.proper n c.loop-page.page (omega (arith, nodes)) (omega (arith, nodes)))

pub returns-in_err-add_union-clause-too_many : goal.returns-in_err-add_union-clause-too_many
returns-in_err-add_union-clause-too_many c =
    let first = c.args.first.now in
    let second = c.args.second.now in
    let i = c.loop-page.invariant in
    let is = both_are first second c.loop-page.page _ _ _ _ _ c.new-in-loop-page.ensures c.new-one.ensures c.new-other.ensures c.list_of.ensures.list c.list_of-in-loop-page.ensures.list in
    let from = err_from_is_err_and _ c.from_residual-in_err-add_union.ensures.1 in
    subst (λ r. IfErr r (λ e. e ≡ TooManyArcs → MOST_ARCS < arc_count (union_graph first second))) (sym from.1)
    (λ e. omega (arith, c.in_err-add_union.ensures.too_many (sym from.2 ∙ e), ap (λ (l : List ℕ). length l) is, i.arcs, part_le first second c.loop-page.page (max first.nodes second.nodes) (omega arith)))

pub loop-page-preserved : goal.loop-page-preserved
loop-page-preserved c =
    let first = c.args.first.now in
    let second = c.args.second.now in
    let is = both_are first second c.loop-page.page _ _ _ _ _ c.new-in-loop-page.ensures c.new-one.ensures c.new-other.ensures c.list_of.ensures.list c.list_of-in-loop-page.ensures.list in
    union_more first second c.loop-page.builder c.add_union.new.builder c.loop-page.page c.loop-page.invariant
    (subst (λ (l : List ℕ). Added l c.loop-page.page (length l) c.loop-page.builder c.add_union.new.builder) is c.in_ok-add_union.ensures.added)

pub returns-clause-exact : goal.returns-clause-exact
returns-clause-exact c =
    let first = c.args.first.now in
    let second = c.args.second.now in
    let all : c.loop-page.page ≡ max first.nodes second.nodes = omega arith in
    finished first second c.loop-page.builder c.in_ok-made.made (subst (λ n. UnionSoFar first second n c.loop-page.builder) all c.loop-page.invariant) c.in_ok-made.ensures.nodes c.in_ok-made.ensures.lists

pub returns-clause-union : goal.returns-clause-union
returns-clause-union c = subst (IsUnion c.args.first.now c.args.second.now) (sym (returns-clause-exact c)) (is_union _ _ c.nodes.ensures.proper c.nodes-2.ensures.proper)
