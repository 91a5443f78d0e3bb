use Rattle.std.proofs.Common.{◌≡◌, ◌++◌, ◌∙◌, ℕ, List, [], length, ap, sym, subst, append-nil, arith, rules}
use Rattle.std.proofs.lemmas.Result.{err_from_is_err_and}
use Rattle.wg_num.specs.Lines.{lines_of}
use Rattle.wg_num.proofs.Cuts.{no_lines}
use Rattle.wg_graph.specs.Arcs.{arcs_of, arcs_from}
use Rattle.wg_graph.proofs.Arcs.{padded_arcs_from}
use Rattle.wg_arcs.specs.Growing.{Begins, IsUpTo, SoFar}
use Rattle.wg_arcs.proofs.Order.{Arc}
use Rattle.wg_arcs.proofs.SomeGraph.{begins_none}
use Rattle.wg_arcs.proofs.Soundness.{all_read, read_err}
use Rattle.wg_arcs.proofs.reading.read.Goals as goal

pub lines-init : goal.lines-init
lines-init c =
    let g = c.in_ok-builder.builder in
    let all = lines_of c.args.bytes.now in
    record {
      nodes = c.in_ok-builder.ensures.nodes;
      begun = subst (Begins g.nodes) (sym c.in_ok-builder.ensures.lists) (begins_none g.nodes);
      known = c.new-reading.ensures.nodes;
      few = omega (arith, c.new-reading.ensures.line);
      up = subst (λ (ls : List (List ℕ)). IsUpTo all (all ++ []) (arcs_from 0 ls) c.new-reading.result) (sym c.in_ok-builder.ensures.lists)
          (subst (λ (next : List (List ℕ)). IsUpTo all next [] c.new-reading.result) (sym (append-nil all)) (c.new-reading.ensures.none all));
    }

pub returns-in_err-arc : goal.returns-in_err-arc
returns-in_err-arc c =
    let all = lines_of c.args.bytes.now in
    let i = c.lines.invariant in
    let e = c.in_err-arc.field-0.0 in
    let p = err_from_is_err_and c.from_residual-in_err-arc.result c.from_residual-in_err-arc.ensures.1 in
    rw (p.1, p.2) (read_err c.args.n c.lines.reading.nodes c.args.bytes.now e i.known (c.in_err-arc.ensures.fault all [] _ i.up))

pub lines-preserved : goal.lines-preserved
lines-preserved c =
    let all = lines_of c.args.bytes.now in
    let i = c.lines.invariant in
    let r = c.in_ok-arc.ensures in
    record {
      nodes = c.in_ok-add.ensures.nodes ∙ i.nodes;
      begun = c.in_ok-add.ensures.begun;
      known = r.nodes ∙ i.known;
      few = omega arith;
      up = subst (λ (arcs : List Arc). IsUpTo all (lines_of c.in_ok-arc.after.now ++ []) arcs c.read_first.new.self) (sym c.in_ok-add.ensures.arcs) (r.read all [] _ i.up);
    }

pub returns : goal.returns
returns c =
    let all = lines_of c.args.bytes.now in
    let g = c.lines.builder in
    let i = c.lines.invariant in
    let f = c.in_ok-finish.ensures in
    let none : length c.lines.rest.now ≡ 0 = search rules in
    let here : SoFar c.args.n all [] c.lines.reading.line (arcs_of g) = subst (λ (n : ℕ). SoFar n all [] c.lines.reading.line (arcs_of g)) i.known
    (subst (λ (ls : List (List ℕ)). SoFar c.lines.reading.nodes all (ls ++ []) c.lines.reading.line (arcs_of g)) (no_lines c.lines.rest.now none) i.up.lines) in
    all_read c.args.n all c.lines.reading.line (arcs_of g) c.in_ok-finish.field-0 here (f.nodes ∙ i.nodes) (ap (arcs_from 0) f.lists ∙ padded_arcs_from g.nodes g.lists) f.proper
