use Rattle.std.proofs.Common.{◌+◌, ◌∙◌, sym}
use Rattle.wg_properties.proofs.Flagged.{begun, absent, there, same_at, all_flagged}
use Rattle.wg_properties.proofs.writing.add_flags.Goals as goal
use Rattle.wg_properties.proofs.writing.add_flags.Goals.{then-is_written+in_ok-add_flag, else-is_written}

pub loop-flag-init : goal.loop-flag-init
loop-flag-init c = begun c.args.text.now c.args.params.now

pub loop-flag-preserved : goal.loop-flag-preserved
loop-flag-preserved c =
    let text = c.args.text.now in
    let p = c.args.params.now in
    let i = c.loop-flag.flag-index in
    elim c.if-is_written.branch [
      | then-is_written+in_ok-add_flag w ↦
          same_at text p (i + 1) _ _ _ _ w.is_first-is w.text-is
          (there text p i c.loop-flag.is_first _ c.loop-flag.text w.add_flag.new.text c.loop-flag-test.true (sym c.is_written.ensures ∙ w.if-is_written.true) c.loop-flag.invariant w.in_ok-add_flag.ensures)
      | else-is_written w ↦
          same_at text p (i + 1) _ _ _ _ w.is_first-is w.text-is
          (absent text p i c.loop-flag.is_first _ c.loop-flag.text c.loop-flag-test.true (sym c.is_written.ensures ∙ w.if-is_written.false) c.loop-flag.invariant)
    ]

pub returns : goal.returns
returns c = all_flagged c.args.text.now c.args.params.now c.loop-flag.flag-index c.loop-flag.is_first c.loop-flag.text c.loop-flag-test.false c.loop-flag.invariant
