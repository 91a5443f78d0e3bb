use Rattle.std.proofs.Common.{◌∙◌, Ok, ap, sym, arith, rules, tests, refl}
use Rattle.std.specs.Slice.Iter as slice
use Rattle.std.proofs.lemmas.Iterator.Consumers.{YieldsList-turn, YieldsList-end}
use Rattle.std.proofs.lemmas.Iterator.Splits.{YieldsList-from_slice_split}
use Rattle.std.proofs.lemmas.List.{length_push}
use Rattle.wg_properties.specs.Flags.{codes_from, flag_of}
use Rattle.wg_num.specs.Lines.{without_blanks_before}
use Rattle.wg_properties.proofs.Pieces.{is_bar, no_flags, all_flags, flags_of, known, unknown, no_more}
use Rattle.wg_properties.proofs.flags.codes_of.Goals as goal

pub returns-then-is_empty : goal.returns-then-is_empty
returns-then-is_empty c = ap Ok c.defaults-codes.ensures ∙ sym (no_flags c.args.zeta c.args.value.now (search rules))

pub loop-piece-init : goal.loop-piece-init
loop-piece-init c =
    (refl, ap (λ codes. codes_from c.args.zeta 1 codes (flags_of c.args.value.now)) c.defaults-codes.ensures ∙ all_flags c.args.zeta c.args.value.now)

pub loop-piece-preserved : goal.loop-piece-preserved
loop-piece-preserved c =
    let e = c.into_iter-piece-iterator.ensures.into_iter_gives in
    let turn = YieldsList-turn (YieldsList-from_slice_split _ is_bar c.args.value.now (ap slice.split_rest e ∙ c.split-piece-items.ensures.rest) (ap slice.split_done e ∙ c.split-piece-items.ensures.done) (ap slice.split_callee e ∙ c.split-piece-items.ensures.closure) (λ x b q k. search (rules, tests))) c.loop-piece.yielded _ c.loop-piece.yielded_by _ _ c.in-Some.piece c.in-Some.is c.next.ensures.steps in
    let flag = c.flag_of.ensures ∙ ap flag_of (c.without_blanks_before.ensures ∙ ap without_blanks_before c.without_blanks_after.ensures) in (
      omega (arith, length_push c.loop-piece.yielded c.in-Some.piece, c.loop-piece.invariant.0),
      known c.args.zeta c.args.value.now c.loop-piece.number _ c.in-Some.piece.now c.flag_of.result c.in-Some-flag_of.flag c.loop-piece.codes c.with_flag-codes.result (search rules) c.loop-piece.invariant.0 turn flag c.in-Some-flag_of.is c.with_flag-codes.ensures
          ∙ c.loop-piece.invariant.1,
    )

pub returns-in-None-flag_of : goal.returns-in-None-flag_of
returns-in-None-flag_of c =
    let e = c.into_iter-piece-iterator.ensures.into_iter_gives in
    let turn = YieldsList-turn (YieldsList-from_slice_split _ is_bar c.args.value.now (ap slice.split_rest e ∙ c.split-piece-items.ensures.rest) (ap slice.split_done e ∙ c.split-piece-items.ensures.done) (ap slice.split_callee e ∙ c.split-piece-items.ensures.closure) (λ x b q k. search (rules, tests))) c.loop-piece.yielded _ c.loop-piece.yielded_by _ _ c.in-Some.piece c.in-Some.is c.next.ensures.steps in
    let flag = c.flag_of.ensures ∙ ap flag_of (c.without_blanks_before.ensures ∙ ap without_blanks_before c.without_blanks_after.ensures) in
    unknown c.args.zeta c.args.value.now c.loop-piece.number _ c.in-Some.piece.now c.flag_of.result c.loop-piece.codes (search rules) c.loop-piece.invariant.0 turn flag c.in-None-flag_of.is
    ∙ c.loop-piece.invariant.1

pub returns : goal.returns
returns c =
    let e = c.into_iter-piece-iterator.ensures.into_iter_gives in
    let end = YieldsList-end (YieldsList-from_slice_split _ is_bar c.args.value.now (ap slice.split_rest e ∙ c.split-piece-items.ensures.rest) (ap slice.split_done e ∙ c.split-piece-items.ensures.done) (ap slice.split_callee e ∙ c.split-piece-items.ensures.closure) (λ x b q k. search (rules, tests))) c.loop-piece.yielded _ c.loop-piece.yielded_by _ _ c.in-None.is c.next.ensures.steps in
    no_more c.args.zeta c.args.value.now c.loop-piece.number _ c.loop-piece.codes (search rules) c.loop-piece.invariant.0 end.1
    ∙ c.loop-piece.invariant.1
