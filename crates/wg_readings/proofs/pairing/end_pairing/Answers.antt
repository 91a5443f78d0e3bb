use Rattle.std.proofs.Common.{sym}
use Rattle.wg_outside.proofs.PutsLemmas.{is_that_err}
use Rattle.wg_readings.proofs.PairingLemmas.{ends_compared, ends_stopped, stopped_since, still_named}
use Rattle.wg_readings.proofs.pairing.end_pairing.Goals as goal

pub returns-in_err-pairing-clause-ends : goal.returns-in_err-pairing-clause-ends
returns-in_err-pairing-clause-ends g c = λ files same counts later name named n at come follows.
    rw (is_that_err c.from_residual.result _ c.from_residual.ensures.1) (ends_stopped _ files counts _ c.args.params.now name c.args.pairing.now _ (rw c.in_err-pairing.was at come))

pub returns-in_err-end_words-clause-ends : goal.returns-in_err-end_words-clause-ends
returns-in_err-end_words-clause-ends g c = λ files same counts later name named n at come follows.
    let a = c.args.pairing.now in
    let h = rw c.in_ok-pairing.was at come in
    let f = rw c.in_ok-pairing.was at follows in
    rw (is_that_err c.from_residual-in_err-end_words.result _ c.from_residual-in_err-end_words.ensures.1)
    (ends_stopped _ files counts _ c.args.params.now name a _
    (stopped_since _ files _ counts _ _ c.args.params.now a.name name _ same later named
    (c.in_err-end_words.ensures.stopped h.0.looked (λ t. let k = h.3 t in (k.0, still_named _ _ a.name name k.0 same named k.1))
    (λ t file is. let k = f t file (still_named _ _ name a.name file (sym same) (sym named) is) in (k.1.1.held, (k.1.0, k.1.1.read))))))

pub returns-clause-ends : goal.returns-clause-ends
returns-clause-ends g c = λ files same counts later name named n at come follows.
    let a = c.args.pairing.now in
    let h = rw c.in_ok-pairing.was at come in
    let e = c.in_ok-end_words.ensures in
    ends_compared _ files counts _ c.args.params.now name c.same_lengths.result a c.end_words.new.pairing h.3 c.in_ok-pairing.was h.0.looked e.kept.1
    (λ t file is stored held read. e.reads t file (still_named _ _ a.name name file same named is) held stored read) c.same_lengths.ensures.only c.same_lengths.ensures.steps
