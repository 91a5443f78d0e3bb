use Rattle.std.proofs.Common.{[], ◌∷◌}
use Rattle.wg_outside.proofs.PutsLemmas.{is_that_err}
use Rattle.wg_outside.proofs.RefusalLemmas.{sink_after}
use Rattle.wg_lines.proofs.PrintLemmas.{less_before, prints_after}
use Rattle.wg_ascii.specs.Text.{list_words}
use Rattle.wg_ascii.proofs.writing.print_list.Goals as goal

pub returns-in_err-print_words : goal.returns-in_err-print_words
returns-in_err-print_words g c =
    let n = c.in_err-print_words.ensures in
    rw (is_that_err c.from_residual.result c.in_err-print_words.field-0.0 c.from_residual.ensures.1) record {
      prints = λ t. less_before _ _ _ (list_words c.args.list.now) (10 ∷ []) (n.prints t);
      empty = n.empty;
      later = n.later;
      refusals = n.refusals;
    }

pub returns : goal.returns
returns g c =
    let n = c.in_ok-print_words.ensures in
    let r = c.byte.ensures in
    record {
      prints = λ t.
          prints_after _ _ _ _ _ _ (list_words c.args.list.now) (10 ∷ []) c.byte.result (n.prints t) (r.prints t);
      empty = r.empty;
      later = g.met.S.Sink.goes_on _ _ _ n.later r.later;
      refusals =
          sink_after g.S.Sink c.args.sink.now c.print_words.new.sink c.byte.new.sink c.byte.result
          (g.met.S.Sink.onward _ _ n.later) r.refusals;
    }
