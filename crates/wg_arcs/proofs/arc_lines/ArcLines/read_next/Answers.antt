use Rattle.std.proofs.Common.{Some}
use Rattle.wg_outside.proofs.PutsLemmas.{is_that_err}
use Rattle.wg_arcs.proofs.LineLemmas.{line_more, line_taken, plain_read, plain_refused}
use Rattle.wg_arcs.proofs.Order.{Arc}
use Rattle.wg_arcs.proofs.arc_lines.ArcLines.read_next.Goals as goal

pub returns-in_err-take-in-Some : goal.returns-in_err-take-in-Some
returns-in_err-take-in-Some c =
    let a : Arc = (c.args.page, c.in-Some.v) in
    let n = c.in_err-take-in-Some.ensures in
    rw (is_that_err c.from_residual.result _ c.from_residual.ensures.1) record {
      nodes = n.nodes;
      line = tt;
      ok = tt;
      shorter = tt;
      comes = tt;
      read = λ all later arcs up. tt;
      fault = λ all later arcs up.
          plain_refused a c.args.bytes.now c.in-Some.after.now c.in-Some.ensures.line c.in-Some.ensures.low c.args.self.now all later arcs up c.in_err-take-in-Some.field-0.0 n.err;
    }

pub returns-in_ok-take-in-Some : goal.returns-in_ok-take-in-Some
returns-in_ok-take-in-Some c =
    let a : Arc = (c.args.page, c.in-Some.v) in
    let n = c.in_ok-take-in-Some.ensures in
    record {
      nodes = n.nodes;
      line = line_more c.args.self.now c.take.new.self (Some a) n.ok;
      ok = n.ok;
      shorter = line_taken a.0 a.1 c.args.bytes.now c.in-Some.after.now c.in-Some.ensures.line;
      comes = n.comes;
      read = λ all later arcs up.
          plain_read a c.args.bytes.now c.in-Some.after.now c.in-Some.ensures.line c.in-Some.ensures.low c.args.self.now all later arcs up c.take.new.self n.fine n.ok;
      fault = λ all later arcs up. tt;
    }

pub returns-in-None : goal.returns-in-None
returns-in-None c =
    let r = c.read_first.ensures in
    record {
      nodes = r.nodes;
      line = r.line;
      ok = r.ok;
      shorter = r.shorter;
      comes = r.comes;
      read = r.read;
      fault = r.fault;
    }
