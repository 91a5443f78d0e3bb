use Rattle.wg_outside.proofs.PutsLemmas.{is_that_err}
use Rattle.wg_arcs.proofs.LineLemmas.{line_more}
use Rattle.wg_arcs.proofs.Soundness.{line_read, line_refused}
use Rattle.wg_arcs.proofs.arc_lines.ArcLines.read_any.Goals as goal

pub returns-in_err-arc : goal.returns-in_err-arc
returns-in_err-arc c =
    let n = c.in_err-arc.ensures in
    rw (is_that_err c.from_residual.result _ c.from_residual.ensures.1) record {
      nodes = n.nodes;
      line = tt;
      ok = tt;
      shorter = tt;
      comes = tt;
      read = λ all later arcs up. tt;
      fault = λ all later arcs up.
          line_refused all later c.args.bytes.now c.first_line.result.1.now c.first_line.result.0.now arcs
          c.args.self.now c.in_err-arc.field-0.0 c.first_line.ensures.lines n.err up;
    }

pub returns : goal.returns
returns c =
    let n = c.in_ok-arc.ensures in
    record {
      nodes = n.nodes;
      line = line_more c.args.self.now c.read_line.new.self c.in_ok-arc.arc n.ok;
      ok = n.ok;
      shorter = c.first_line.ensures.shorter;
      comes = n.comes;
      read = λ all later arcs up.
          line_read all later c.args.bytes.now c.first_line.result.1.now c.first_line.result.0.now arcs
          c.args.self.now c.read_line.new.self c.in_ok-arc.arc c.first_line.ensures.lines n.fine n.arc n.ok up;
      fault = λ all later arcs up. tt;
    }
