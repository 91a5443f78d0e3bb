use Rattle.std.proofs.Common.{[], IsTrue}
use Rattle.wg_lines.specs.Printing.{HasPrinted}
use Rattle.wg_readings.specs.Passes.{accepted_of}
use Rattle.wg_queries.specs.Printed.{listed}
use Rattle.wg_readings.proofs.UnderWay.{IsUnderWay}
use Rattle.wg_queries.proofs.printing.print_again.Given as goal

-- the text of the records so far is printed
abbrev pub invariant-loop-page : goal.invariant-loop-page
invariant-loop-page g l = let d = g.D.Depot in let o = g.O.Sink in record {
  way : IsUnderWay d.told l.fn.base l.fn.params (d.files l.fn.depot) (d.files l.depot) (d.counts l.fn.depot) (d.counts l.depot) l.page l.reader
      (λ whole. IsTrue o.told → HasPrinted (o.taken l.fn.out) (o.taken l.out) [] (listed l.fn.listing l.fn.params.nodes (accepted_of whole)) l.lines);
  later : o.later l.fn.out l.out;
}
