use Rattle.std.proofs.Common.{Result, Ok, Err, OnOk, ap, arith}
use Rattle.wg_random.specs.Answer.{list_in}
use Rattle.wg_lookups.proofs.ShownLemmas.{line_by_list, line_unbegun}
use Rattle.wg_lookups.proofs.show.show_page.Goals as goal

if_always : {A E P : Type 0} (r : Result A E) → P → OnOk r P
if_always (Ok x) p = p
if_always (Err e) p = tt

pub unreachable-requires : goal.unreachable-requires
unreachable-requires g c = omega (arith, c.requires, c.in-Err-NoPage.ensures.no_page_only_then (ap (λ e. Err e) c.in-Err-NoPage.field-0-is))

pub returns-in-Ok-clause-line : goal.returns-in-Ok-clause-line
returns-in-Ok-clause-line g c =
    let e = c.print_read.ensures in
    line_by_list g.O.Sink c.args.archive.now c.args.page c.args.out.now c.print_read.new.out c.args.lines.now c.print_read.new.lines (list_in c.in-Ok.read) c.print_read.result
    c.in-Ok.ensures.graph e.prints e.later e.refusals

pub returns-in-Err-Memory-clause-line : goal.returns-in-Err-Memory-clause-line
returns-in-Err-Memory-clause-line g c = line_unbegun g.O.Sink c.args.archive.now c.args.page c.args.out.now c.args.lines.now c.args.lines.now _ (g.met.O.Sink.stays _) c.of.ensures.status

pub returns-in-Ok-clause-each : goal.returns-in-Ok-clause-each
returns-in-Ok-clause-each g c = λ r. if_always c.print_read.result (omega (arith, c.in-Ok.ensures.ticks r))

pub returns-in-Ok-clause-most : goal.returns-in-Ok-clause-most
returns-in-Ok-clause-most g c = λ r. omega (arith, c.in-Ok.ensures.most r)

pub returns-in-Err-Memory-clause-most : goal.returns-in-Err-Memory-clause-most
returns-in-Err-Memory-clause-most g c = λ r. omega (arith, c.in-Err-Memory.ensures.most r)
