use Rattle.std.proofs.Common.{refl, sym, ap, ◌++◌}
use Rattle.wg_num.specs.Lines.{lines_of}
use Rattle.wg_num.proofs.Cuts.{no_lines}
use Rattle.wg_ascii.specs.Growing.{PageLinesRead}
use Rattle.wg_ascii.proofs.Whole.{first_fault}
use Rattle.std.proofs.lemmas.Bool.{eqb-true}
use Rattle.wg_ascii.proofs.PageLemmas.{first_read, no_first, is_left}
use Rattle.wg_ascii.proofs.page_lines.PageLines.begin.Goals as goal

pub returns-then-is_empty : goal.returns-then-is_empty
returns-then-is_empty c = record {
  few = tt;
  line = tt;
  arcs = tt;
  shorter = tt;
  read = λ later. tt;
  fault = λ later end.
      let none = eqb-true _ 0 (sym c.if-is_empty.ensures) in
      no_first (lines_of c.args.bytes.now) later (no_lines c.args.bytes.now none) (end none);
}

pub first_line-requires : goal.first_line-requires
first_line-requires c = is_left _ c.if-is_empty.ensures

pub returns-in-Ok : goal.returns-in-Ok
returns-in-Ok c =
    let n = c.in-Ok.ensures in
    let s : PageLinesRead = record { nodes = c.in-Ok.nodes; line = 1; arcs = 0 } in
    record {
      few = n.few;
      line = refl;
      arcs = refl;
      shorter = c.first_line.ensures.shorter;
      read = λ later.
          first_read (lines_of c.args.bytes.now) (lines_of c.first_line.result.1.now) later c.first_line.result.0.now s
          c.first_line.ensures.lines (record { is = n.told; small = n.few }) refl refl;
      fault = λ later end. tt;
    }

pub returns-in-Err : goal.returns-in-Err
returns-in-Err c = record {
  few = tt;
  line = tt;
  arcs = tt;
  shorter = tt;
  read = λ later. tt;
  fault = λ later end.
      first_fault _ c.first_line.result.0.now (lines_of c.first_line.result.1.now ++ later) c.in-Err.kind
      (ap (λ ls. ls ++ later) c.first_line.ensures.lines) c.in-Err.ensures.err;
}
