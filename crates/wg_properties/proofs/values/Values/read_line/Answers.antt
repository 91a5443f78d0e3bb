use Rattle.std.proofs.Common.{◌∙◌, Some, ap, sym}
use Rattle.std.specs.List.{last_or}
use Rattle.wg_num.specs.Lines.{without_blanks_before}
use Rattle.wg_properties.specs.Pairs.{is_skipped, key_in, value_in, key_of, values_of}
use Rattle.wg_properties.specs.Values.{value_at}
use Rattle.wg_properties.specs.Words.{name_of}
use Rattle.wg_properties.proofs.Kept.{pairs_one, one_more, one_ignored}
use Rattle.wg_properties.proofs.values.Values.read_line.Goals as goal

pub returns-in-Some : goal.returns-in-Some
returns-in-Some c = λ k.
    let line = c.args.line.now in
    let text = c.without_blanks_before-pair.ensures in
    let kept = ap is_skipped (sym text) ∙ sym c.is_skipped.ensures ∙ c.if-is_skipped.false in
    let key = ap key_of (sym (c.key_and_value.ensures.key ∙ ap key_in text)) ∙ sym c.key_of.ensures ∙ c.in-Some.is in
    let value = c.set.ensures.set ∙ ap Some (c.key_and_value.ensures.value ∙ ap value_in text) in
    one_more c.args.self.now c.set.new.self c.in-Some.key _ _ key value c.set.ensures.others k
    ∙ ap (λ pairs. last_or (value_at c.args.self.now k) (values_of (name_of k) pairs)) (sym (pairs_one line kept))

pub returns-in_default : goal.returns-in_default
returns-in_default c = λ k.
    let line = c.args.line.now in
    let text = c.without_blanks_before-pair.ensures in
    let kept = ap is_skipped (sym text) ∙ sym c.is_skipped.ensures ∙ c.if-is_skipped.false in
    let key = ap key_of (sym (c.key_and_value.ensures.key ∙ ap key_in text)) ∙ sym c.key_of.ensures ∙ c.in_default.is in
    one_ignored c.args.self.now _ (value_in (without_blanks_before line)) key k
    ∙ ap (λ pairs. last_or (value_at c.args.self.now k) (values_of (name_of k) pairs)) (sym (pairs_one line kept))
