use Rattle.std.proofs.Common.{◌+◌, ◌∙◌, Option, None, Some, ap, refl, sym, subst}
use Rattle.wg_outside.proofs.PutsLemmas.{is_that_err}
use Rattle.wg_num.specs.Words.{words_of}
use Rattle.wg_arcs.specs.Growing.{ArcLinesRead, IsRefusedLine}
use Rattle.wg_arcs.specs.declared.fault.ArcsKind.{ArcsKind}
use Rattle.wg_arcs.proofs.LineLemmas.{entry_arc, entry_fault}
use Rattle.wg_arcs.proofs.Order.{Arc}
use Rattle.wg_arcs.proofs.arc_lines.ArcLines.read_line.Goals as goal

pub returns-in-None : goal.returns-in-None
returns-in-None c = record {
  fine = rw c.in-None.ensures.skipped refl;
  comes = tt;
  arc = rw c.in-None.ensures.skipped refl;
  ok = ap (λ (s : ArcLinesRead). record s { line = s.line + 1 }) c.self.view_is;
  nodes = ap (λ (s : ArcLinesRead). s.nodes) c.self.view_is;
  err = tt;
}

pub returns-in_err-take-in-Some-arc : goal.returns-in_err-take-in-Some-arc
returns-in_err-take-in-Some-arc c =
    let s = c.args.self.now in
    let w = c.in-Some.ensures in
    let n = c.in_err-take-in-Some-arc.ensures in
    rw (is_that_err c.from_residual.result _ c.from_residual.ensures.1) record {
      fine = tt;
      comes = tt;
      arc = tt;
      ok = tt;
      nodes = n.nodes;
      err =
          subst (λ (f : Option ArcsKind). IsRefusedLine (s.line + 1) f c.in_err-take-in-Some-arc.field-0.0)
          (sym (entry_fault c.args.text.now c.in-Some.words.0.now _ w.words w.skipped
          s.nodes s.arcs s.last (Some ((c.in-Some-arc.u, c.in-Some-arc.v))) c.in-Some-arc.ensures)) n.err;
    }

pub returns-in_ok-take-in-Some-arc : goal.returns-in_ok-take-in-Some-arc
returns-in_ok-take-in-Some-arc c =
    let s = c.args.self.now in
    let w = c.in-Some.ensures in
    let n = c.in_ok-take-in-Some-arc.ensures in
    let a : Arc = (c.in-Some-arc.u, c.in-Some-arc.v) in
    let words = words_of c.in-Some.words.1.now in
    record {
      fine =
          entry_fault c.args.text.now c.in-Some.words.0.now words w.words w.skipped s.nodes s.arcs s.last (Some a)
          c.in-Some-arc.ensures ∙ n.fine;
      comes = n.comes;
      arc = entry_arc c.args.text.now c.in-Some.words.0.now words w.words w.skipped (Some a) c.in-Some-arc.ensures;
      ok = n.ok;
      nodes = n.nodes;
      err = tt;
    }

pub returns-in-None-arc : goal.returns-in-None-arc
returns-in-None-arc c =
    let s = c.args.self.now in
    let w = c.in-Some.ensures in
    record {
      fine = tt;
      comes = tt;
      arc = tt;
      ok = tt;
      nodes = refl;
      err =
          rw c.fault.ensures (
            refl,
            entry_fault c.args.text.now c.in-Some.words.0.now _ w.words w.skipped s.nodes
                s.arcs s.last None c.in-None-arc.ensures,
          );
    }
