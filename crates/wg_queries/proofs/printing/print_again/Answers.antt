use Rattle.std.proofs.Common.{arith}
use Rattle.wg_outside.proofs.PutsLemmas.{rose_on}
use Rattle.wg_outcomes.proofs.Statuses.{print_refused}
use Rattle.wg_readings.proofs.UnderWay.{begins, goes_further}
use Rattle.wg_queries.proofs.PrintedJobs.{prints_all, prints_exit, prints_less, prints_none, prints_read}
use Rattle.wg_queries.proofs.PrintedLines.{head_less, head_printed, listed_grow, piece_less, piece_printed}
use Rattle.wg_queries.proofs.printing.print_again.Goals as goal

pub returns-in_err-reader : goal.returns-in_err-reader
returns-in_err-reader g c = record {
  prints = prints_exit _ _ _ _ _ _ _ _ _ c.from_residual.ensures.1 (prints_none _ _ _ _ _ _ _ _ _ _ c.in_err-reader.ensures.only);
  later = g.met.O.Sink.stays _;
}

pub returns-in_err-print_head : goal.returns-in_err-print_head
returns-in_err-print_head g c =
    let n = c.in_err-print_head.ensures in
    let stop = print_refused _ _ _ _ n.refusals in
    record {
      prints = prints_exit _ _ _ _ _ _ _ _ _ c.from_residual-in_err-print_head.ensures.1
          (prints_less _ _ _ _ _ _ _ _ _ c.in_ok-reader.ensures.fresh.limits (listed_grow c.args.listing c.args.params.now.nodes) _ _ 0 c.in_ok-reader.reader _
          (begins _ _ _ _ _ _ _ c.in_ok-reader.ensures.fresh (λ o. head_less c.args.listing c.args.params.now.nodes _ _ _ c.new-lines.ensures (n.prints o)))
          (omega arith) _ _ stop.only stop.failed);
      later = n.later;
    }

pub loop-page-init : goal.loop-page-init
loop-page-init g c = record {
  way = begins _ _ _ _ _ _ _ c.in_ok-reader.ensures.fresh (λ o. head_printed c.args.listing c.args.params.now.nodes _ _ _ _ c.new-lines.ensures (c.in_ok-print_head.ensures.prints o));
  later = c.in_ok-print_head.ensures.later;
}

pub next_record-requires-clause-open : goal.next_record-requires-clause-open
next_record-requires-clause-open g c = c.loop-page.invariant.way.state

pub next_record-requires-clause-params : goal.next_record-requires-clause-params
next_record-requires-clause-params g c = c.loop-page.invariant.way.params

pub next_record-requires-clause-more : goal.next_record-requires-clause-more
next_record-requires-clause-more g c = omega (arith, c.loop-page.invariant.way.page, c.loop-page-test.true, c.nodes-page-end.ensures.value)

pub returns-in_err-next_record : goal.returns-in_err-next_record
returns-in_err-next_record g c =
    record {
      prints = prints_exit _ _ _ _ _ _ _ _ _ c.from_residual-in_err-next_record.ensures.1
          (prints_read _ _ _ _ _ _ _ _ _ c.nodes-page-end.ensures.limits (listed_grow c.args.listing c.args.params.now.nodes) _ _ _ _ _ _ c.loop-page.invariant.way (omega (arith, c.loop-page-test.true, c.nodes-page-end.ensures.value))
          _ _ _ _ _ c.in_err-next_record.ensures.advances);
      later = c.loop-page.invariant.later;
    }

pub returns-in_err-print_record : goal.returns-in_err-print_record
returns-in_err-print_record g c =
    let r = c.in_ok-next_record.ensures in
    let n = c.in_err-print_record.ensures in
    let stop = print_refused _ _ _ _ n.refusals in
    let on = (g.met.O.Sink.onward _ _ c.loop-page.invariant.later).0 in
    record {
      prints = prints_exit _ _ _ _ _ _ _ _ _ c.from_residual-in_err-print_record.ensures.1
          (prints_less _ _ _ _ _ _ _ _ _ c.nodes-page-end.ensures.limits (listed_grow c.args.listing c.args.params.now.nodes) _ _ _ _ _
          (goes_further _ _ _ _ _ _ _ _ _ _ _ _ _ c.loop-page.invariant.way _ r.advances r.open r.page r.in_step
          (λ whole w count list end h o. piece_less c.args.listing c.args.params.now.nodes _ _ _ _ _ _ _ w whole count list end (h o) (n.prints o)))
          (omega (arith, c.loop-page-test.true, c.nodes-page-end.ensures.value)) _ _ stop.only (λ is. rose_on _ _ _ _ on (stop.failed is) (omega arith)));
      later = g.met.O.Sink.goes_on _ _ _ c.loop-page.invariant.later n.later;
    }

pub loop-page-preserved : goal.loop-page-preserved
loop-page-preserved g c =
    let r = c.in_ok-next_record.ensures in
    let n = c.in_ok-print_record.ensures in
    record {
      way = goes_further _ _ _ _ _ _ _ _ _ _ _ _ _ c.loop-page.invariant.way _ r.advances r.open r.page r.in_step
          (λ whole w count list end h o. piece_printed c.args.listing c.args.params.now.nodes _ _ _ _ _ _ _ w whole count list end (h o) _ (n.prints o));
      later = g.met.O.Sink.goes_on _ _ _ c.loop-page.invariant.later n.later;
    }

pub end_records-requires-clause-open : goal.end_records-requires-clause-open
end_records-requires-clause-open g c = c.loop-page.invariant.way.state

pub end_records-requires-clause-params : goal.end_records-requires-clause-params
end_records-requires-clause-params g c = c.loop-page.invariant.way.params

pub end_records-requires-clause-done : goal.end_records-requires-clause-done
end_records-requires-clause-done g c = omega (arith, c.loop-page.invariant.way.page, c.loop-page-test.false, c.nodes-page-end.ensures.value, c.loop-page.auto.page-end)

pub returns-in_err-end_records : goal.returns-in_err-end_records
returns-in_err-end_records g c =
    record {
      prints = prints_exit _ _ _ _ _ _ _ _ _ c.from_residual-in_err-end_records.ensures.1
          (prints_read _ _ _ _ _ _ _ _ _ c.nodes-page-end.ensures.limits (listed_grow c.args.listing c.args.params.now.nodes) _ _ _ _ _ _ c.loop-page.invariant.way (omega (arith, c.loop-page.auto.page-end, c.nodes-page-end.ensures.value))
          _ _ _ _ _ c.in_err-end_records.ensures.advances);
      later = c.loop-page.invariant.later;
    }

pub returns : goal.returns
returns g c =
    let on = (g.met.O.Sink.onward _ _ c.loop-page.invariant.later).0 in
    let n = c.print_rest.ensures in
    record {
      prints = prints_all _ _ _ _ _ _ _ _ _ c.nodes-page-end.ensures.limits (listed_grow c.args.listing c.args.params.now.nodes) _ _ _ _ _ _ c.loop-page.invariant.way _ _ _ c.in_ok-end_records.ensures.advances c.in_ok-end_records.ensures.judged
          _ _ c.print_rest.result n.puts n.refusals.only (λ is. rose_on _ _ _ _ on (n.refusals.failed is) (omega arith));
      later = g.met.O.Sink.goes_on _ _ _ c.loop-page.invariant.later n.later;
    }
