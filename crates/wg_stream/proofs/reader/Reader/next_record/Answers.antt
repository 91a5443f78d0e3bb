use Rattle.std.proofs.Common.{rules, ◌∙◌, refl, sym}
use Rattle.wg_bits.specs.Bits.{bits_of}
use Rattle.wg_stream.specs.Reading.{Reading}
use Rattle.wg_stream.proofs.ErrorLemmas.{no_err}
use Rattle.wg_stream.proofs.ReadingLemmas.{goes_as, goes_wrong, one_read}
use Rattle.wg_stream.proofs.reader.Reader.next_record.Goals as goal

pub returns-in-Ok-clause-in_step : goal.returns-in-Ok-clause-in_step
returns-in-Ok-clause-in_step g c =
    let i = c.self.inside in
    let r : Reading = record { pages = i.pages; name = c.as_str.result.now; at = i.at; held = i.held; state = i.state } in
    let v = rw (sym c.as_str.ensures.value) at c.self.invariant in
    let going = rw (sym c.self.view_is) at c.requires.going in
    let look = c.in_default.ensures in
    let a = c.new-source.ensures in
    let named = c.as_str-2.ensures.value ∙ sym c.as_str.ensures.value in
    let e = c.in-Ok.ensures in
    let step = rw (a.depot, a.held, a.name, named) at e.later.3 in
    rw (sym c.self.view_is, sym c.as_str.ensures.value)
    (one_read _ _ _ _ _ _ _ r v going _ _ look.ok look.steps (λ t none new. no_err (look.absent t none new)) step c.next.new.self e.params e.few c.at-self-inside.result i.state going c.at-self-inside.ensures.at
    (λ t file is held whole b. e.reads (bits_of file) whole (rw (a.depot, a.held, a.name, named) (t, (file, is, held, refl))) (rw a.held b)))

pub returns-in-Err-next-clause-goes : goal.returns-in-Err-next-clause-goes
returns-in-Err-next-clause-goes g c =
    let i = c.self.inside in
    let r : Reading = record { pages = i.pages; name = c.as_str.result.now; at = i.at; held = i.held; state = i.state } in
    let v = rw (sym c.as_str.ensures.value) at c.self.invariant in
    let going = rw (sym c.self.view_is) at c.requires.going in
    let look = c.in_default.ensures in
    let a = c.new-source.ensures in
    let named = c.as_str-2.ensures.value ∙ sym c.as_str.ensures.value in
    let e = c.in-Err-next.ensures in
    let step = rw (a.depot, a.held, a.name, named) at e.later.3 in
    let cause = rw (a.depot, a.held, a.name, named) at e.refused in
    let closed = c.closed_by-self-inside-in-Err-next in
    rw (sym c.self.view_is, sym c.as_str.ensures.value)
    (goes_as _ g.D.Depot.files g.D.Depot.counts _ _ _ _ _ _ (search rules)
    (goes_wrong _ _ _ _ _ _ _ r v going _ _ look.ok look.steps (λ t none new. no_err (look.absent t none new)) step c.next.new.self e.params e.few i.at closed.result c.in-Err-next.error refl closed.ensures cause
    (λ t file is held whole b. e.fault (bits_of file) whole (rw (a.depot, a.held, a.name, named) (t, (file, is, held, refl))) (rw a.held b))))
