use Rattle.std.proofs.Common.{List, ℕ, subst}
use Rattle.wg_lines.specs.Printing.{HasPrinted, HasPrintedLess}
use Rattle.wg_outside.specs.declared.depot.WriteError.{WriteError}
use Rattle.wg_lines.proofs.PrintLemmas.{puts_of_less, puts_in_the_end}
use Rattle.wg_outside.proofs.PutsLemmas.{is_that_err}
use Rattle.wg_rank.specs.CertificateText.{text_of_claim}
use Rattle.wg_rank.proofs.writing.write_claim.Goals as goal

pub returns-in_err-write_lines-clause-puts : goal.returns-in_err-write_lines-clause-puts
returns-in_err-write_lines-clause-puts g c t =
    let text = text_of_claim (record { damping = c.args.damping; low = c.args.low.now }) in
    rw (is_that_err c.from_residual.result _ c.from_residual.ensures.1)
    (puts_of_less {E = WriteError} _ _ text c.in_err-write_lines.field-0.0
    (subst (λ (l : List ℕ). HasPrintedLess (g.S.Sink.taken c.args.sink.now) (g.S.Sink.taken c.write_lines.new.sink) l text) c.new-lines.ensures (c.in_err-write_lines.ensures.prints t)))

pub returns-clause-puts : goal.returns-clause-puts
returns-clause-puts g c t =
    let text = text_of_claim (record { damping = c.args.damping; low = c.args.low.now }) in
    puts_in_the_end _ _ _ text _ c.flush.result
    (subst (λ (l : List ℕ). HasPrinted (g.S.Sink.taken c.args.sink.now) (g.S.Sink.taken c.write_lines.new.sink) l text c.write_lines.new.lines) c.new-lines.ensures (c.in_ok-write_lines.ensures.prints t))
    (c.flush.ensures.puts t)
