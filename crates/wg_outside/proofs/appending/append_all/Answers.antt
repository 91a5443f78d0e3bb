use Rattle.std.proofs.Common.{◌-◌, take, drop, List, ℕ, arith, ap, ◌∙◌, length}
use Rattle.std.proofs.lemmas.List.{take_all}
use Rattle.wg_outside.proofs.PieceLemmas.{next_piece}
use Rattle.wg_outside.specs.Outside.{Files, appended}
use Rattle.wg_outside.proofs.RefusalLemmas.{file_done, file_after, file_exit}
use Rattle.wg_outside.proofs.FilesLemmas.{appended-append, none_falls-trans}
use Rattle.wg_outside.proofs.appending.append_all.Goals as goal

pub loop-at-preserved : goal.loop-at-preserved
loop-at-preserved g c =
    let at = c.loop-at.at in
    let count = c.in_ok-at.field-0 in
    let piece = c.args.piece.now in
    let rest = take (length piece - at) (drop at piece) in
    let name = c.args.name.now in
    let old = g.D.Depot.files c.args.depot.now in
    record {
      within = grind arith;
      out = λ t. c.in_ok-at.ensures.ok t ∙ ap (λ (f : Files). appended f name (take count rest)) (c.loop-at.invariant.out t)
          ∙ appended-append old name (take at piece) (take count rest)
          ∙ ap (λ (l : List ℕ). appended old name l) (next_piece at count piece c.loop-at.invariant.within);
      later = none_falls-trans _ _ _ c.loop-at.invariant.later c.in_ok-at.ensures.later;
      untouched = λ z. absurd (omega (arith, c.in_ok-at.ensures.count.0));
    }

pub returns-in_err-at-clause-refusals : goal.returns-in_err-at-clause-refusals
returns-in_err-at-clause-refusals g c =
    file_exit _ _ _ _ _ c.from_residual.ensures.1 (file_after _ _ _ _ _ c.loop-at.invariant.later
    (record { failed = c.in_err-at.ensures.failed; memory = c.in_err-at.ensures.memory; later = c.in_err-at.ensures.later }))

pub returns-clause-ok : goal.returns-clause-ok
returns-clause-ok g c =
    let old = g.D.Depot.files c.args.depot.now in
    λ t. c.loop-at.invariant.out t ∙ ap (λ (l : List ℕ). appended old c.args.name.now l) (take_all c.loop-at.at c.args.piece.now c.loop-at-test.false)

pub returns-clause-refusals : goal.returns-clause-refusals
returns-clause-refusals g c = file_done _ _ _ _ c.loop-at.invariant.later
