use Rattle.std.proofs.Common.{◌≡◌, ◌∙◌, ◌++◌, inl, inr, false, ℕ, List, Option, None, sym, subst, refl, append-nil, arith, ◌<◌, length}
use Rattle.std.proofs.lemmas.Bool.{eqb-true, eqb-false}
use Rattle.std.specs.Prelude.{is_some}
use Rattle.wg_outside.proofs.PutsLemmas.{is_that_err}
use Rattle.wg_num.specs.Lines.{lines_of}
use Rattle.wg_arcs.specs.Growing.{ArcLinesRead}
use Rattle.wg_arcs.specs.Growing.{IsFirst, IsUpTo, SoFar}
use Rattle.wg_arcs.specs.Listing.{AreListed, arcs_on}
use Rattle.wg_arcs.proofs.ListedLemmas.{listed_line, up_to}
use Rattle.wg_arcs.proofs.Order.{Arc}
use Rattle.wg_arcs.proofs.arc_lines.ArcLines.fill.Goals as goal

-- by how far all was read
come_to : (n : ℕ) (all next done : List (List ℕ)) (list : List ℕ) (s : ArcLinesRead) → s.nodes ≡ n → AreListed done list None s → SoFar n all next s.line (arcs_on done list) → IsUpTo all next (arcs_on done list) s
come_to n all next done list s nodes h so = up_to all next done list s h (subst (λ (m : ℕ). SoFar m all next s.line (arcs_on done list)) (sym nodes) so)

read_on : (n : ℕ) (all next : List (List ℕ)) (arcs arcs' : List Arc) (s : ArcLinesRead) → s.nodes ≡ n → arcs' ≡ arcs → IsUpTo all next arcs s → SoFar n all next s.line arcs'
read_on n all next arcs arcs' s nodes same up = subst (λ (m : ℕ). SoFar m all next s.line arcs') nodes (subst (λ (l : List Arc). SoFar s.nodes all next s.line l) (sym same) up.lines)

not_some : (o : Option Arc) → is_some o ≡ false → o ≡ None
not_some None e = refl
not_some _ e = absurd (cc e)

pub returns-in_err-arc : goal.returns-in_err-arc
returns-in_err-arc c =
    let i = c.lines.invariant in
    let e = c.in_err-arc.field-0.0 in
    rw (is_that_err c.from_residual.result _ c.from_residual.ensures.1) record {
      nodes = c.in_err-arc.ensures.nodes ∙ i.nodes;
      line = tt;
      shorter = tt;
      listed = λ done at h. tt;
      read = λ done all later at h so. tt;
      fault = λ done all later at h so.
          let up = come_to c.args.self.now.nodes all _ done c.lines.list c.lines.self i.nodes (i.listed done at h) (i.read done all later at h so) in
          inr (subst (λ (n : ℕ). IsFirst n all e) i.nodes (c.in_err-arc.ensures.fault all later _ up));
    }

pub returns-in_err-next : goal.returns-in_err-next
returns-in_err-next c =
    rw (is_that_err c.from_residual-in_err-next.result _ c.from_residual-in_err-next.ensures.1) record {
      nodes = c.in_ok-arc.ensures.nodes ∙ c.lines.invariant.nodes;
      line = tt;
      shorter = tt;
      listed = λ done at h. tt;
      read = λ done all later at h so. tt;
      fault = λ done all later at h so. inl refl;
    }

pub returns-then-is_some : goal.returns-then-is_some
returns-then-is_some c =
    let i = c.lines.invariant in
    let r = c.in_ok-arc.ensures in
    record {
      nodes = r.nodes ∙ i.nodes;
      line = omega (arith, r.shorter);
      shorter = λ some. omega (arith, r.shorter);
      listed = λ done at h.
          (listed_line done c.lines.list c.lines.self c.read_next.new.self c.in_ok-arc.arc c.args.page c.put.new.list
          c.in_ok-next.next at (i.listed done at h) r.comes r.ok c.in_ok-next.ensures.list c.in_ok-next.ensures.later).0;
      read = λ done all later at h so.
          let next = lines_of c.in_ok-arc.after.now ++ later in
          let before = i.listed done at h in
          let up = come_to c.args.self.now.nodes all (lines_of c.lines.rest.now ++ later) done c.lines.list c.lines.self
          i.nodes before (i.read done all later at h so) in
          let line = listed_line done c.lines.list c.lines.self c.read_next.new.self c.in_ok-arc.arc c.args.page
          c.put.new.list c.in_ok-next.next at before r.comes r.ok c.in_ok-next.ensures.list c.in_ok-next.ensures.later in
          read_on c.args.self.now.nodes all next _ _
          c.read_next.new.self (r.nodes ∙ i.nodes) line.1 (r.read all later (arcs_on done c.lines.list) up);
      fault = λ done all later at h so. tt;
    }

pub lines-init : goal.lines-init
lines-init c = record {
  nodes = refl;
  line = omega arith;
  short = omega arith;
  listed = λ done at h. h;
  read = λ done all later at h so. so;
}

pub returns : goal.returns
returns c =
    let i = c.lines.invariant in
    record {
      nodes = i.nodes;
      line = i.line;
      shorter = λ some. omega (arith, eqb-true _ 0 (sym c.lines-test.ensures));
      listed = i.listed;
      read = λ done all later at h so.
          subst (λ (l : List Arc). SoFar c.args.self.now.nodes all (lines_of c.lines.rest.now ++ later) c.lines.self.line l)
          (sym (append-nil _)) (i.read done all later at h so);
      fault = λ done all later at h so. tt;
    }

pub read_next-requires : goal.read_next-requires
read_next-requires c =
    let some : 0 < length c.lines.rest.now = omega (arith, eqb-false _ 0 (sym c.lines-test.ensures)) in
    record {
      some = some;
      line = omega arith;
      start = c.write_start-count.ensures.start;
    }

pub lines-smaller : goal.lines-smaller
lines-smaller c = c.in_ok-arc.ensures.shorter

pub lines-preserved : goal.lines-preserved
lines-preserved c =
    let i = c.lines.invariant in
    let r = c.in_ok-arc.ensures in
    let none : c.in_ok-next.next ≡ None = not_some c.in_ok-next.next (sym c.is_some.ensures ∙ c.if-is_some.false) in
    record {
      nodes = r.nodes ∙ i.nodes;
      line = omega (arith, i.line, r.line, r.shorter);
      short = omega (arith, r.shorter, i.short);
      listed = λ done at h.
          (listed_line done c.lines.list c.lines.self c.read_next.new.self c.in_ok-arc.arc c.args.page c.put.new.list None at (i.listed done at h)
          r.comes r.ok c.in_ok-next.ensures.list (sym none ∙ c.in_ok-next.ensures.later)).0;
      read = λ done all later at h so.
          let next = lines_of c.in_ok-arc.after.now ++ later in
          let up = come_to c.args.self.now.nodes all (lines_of c.lines.rest.now ++ later) done c.lines.list c.lines.self i.nodes (i.listed done at h) (i.read done all later at h so) in
          let line = listed_line done c.lines.list c.lines.self c.read_next.new.self c.in_ok-arc.arc c.args.page c.put.new.list None at (i.listed done at h)
          r.comes r.ok c.in_ok-next.ensures.list (sym none ∙ c.in_ok-next.ensures.later) in
          read_on c.args.self.now.nodes all next _ _ c.read_next.new.self (r.nodes ∙ i.nodes) (sym (append-nil _) ∙ line.1)
          (r.read all later (arcs_on done c.lines.list) up);
    }
