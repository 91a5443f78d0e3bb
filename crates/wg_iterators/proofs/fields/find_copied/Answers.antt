use Rattle.std.proofs.Common.{length, sym, ap, ◌∙◌, arith}
use Rattle.wg_iterators.proofs.FrontLemmas.{count_here, words_stand, source_long, copied_front}
use Rattle.wg_iterators.proofs.fields.find_copied.Goals as goal

pub value_where-count-requires-clause-stands : goal.value_where-count-requires-clause-stands
value_where-count-requires-clause-stands c =
    let (page, r, long, on) = c.requires in
    (_, _, count_here r.laid c.is_some.ensures long c.block_counts.ensures.value on)

pub new-mask-requires-clause-stand : goal.new-mask-requires-clause-stand
new-mask-requires-clause-stand c =
    let (page, r, long, on) = c.requires in
    let e = c.value_where-count.ensures.exact _ _ (count_here r.laid c.is_some.ensures long c.block_counts.ensures.value on) in
    (r.laid.values, e.0, rw (c.again.ensures, c.blocks-2.ensures.value, ← e.1) (words_stand _ _ _ _ r.laid.blocks_stand))

pub pass_blocks-copied-requires-clause-stand : goal.pass_blocks-copied-requires-clause-stand
pass_blocks-copied-requires-clause-stand c =
    let (page, r, long, on) = c.requires in
    let e = c.value_where-count.ensures.exact _ _ (count_here r.laid c.is_some.ensures long c.block_counts.ensures.value on) in (
      r.laid.values,
      r.laid.after_blocks,
      e.0,
      omega (arith, r.laid.within, c.unwrap_or.ensures, source_long _ _ long),
      rw (c.blocks-3.ensures.value, ← e.1) r.laid.blocks_stand,
    )

pub returns : goal.returns
returns c page r long on =
    let e = c.value_where-count.ensures.exact _ _ (count_here r.laid c.is_some.ensures long c.block_counts.ensures.value on) in
    let mask = c.new-mask.ensures r.laid.values e.0
    (rw (c.again.ensures, c.blocks-2.ensures.value, ← e.1) (words_stand _ _ _ _ r.laid.blocks_stand)) in
    let source = c.unwrap_or.ensures ∙ source_long _ _ long in
    let passed = c.pass_blocks-copied.ensures r.laid.values r.laid.after_blocks e.0 (omega (arith, r.laid.within, source))
    (rw (c.blocks-3.ensures.value, ← e.1) r.laid.blocks_stand) in
    (copied_front r.laid mask, ap length r.laid.copied_is ∙ sym (passed.1 _ (sym source)), passed.0)
