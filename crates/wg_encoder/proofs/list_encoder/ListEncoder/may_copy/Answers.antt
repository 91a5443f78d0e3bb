use Rattle.std.proofs.Common.{◌≡◌, ◌==◌, not, length, ap, sym, inl, inr, ◌∙◌}
use Rattle.std.proofs.lemmas.Bool.{true≢false, cases_Bool, eqb-true}
use Rattle.wg_grammar.specs.Context.{referenced}
use Rattle.wg_marks.specs.Masks.{mask_bits}
use Rattle.wg_encoder.proofs.Marking.{none_common}
use Rattle.wg_encoder.proofs.list_encoder.ListEncoder.may_copy.Goals as goal

pub returns-in-Some : goal.returns-in-Some
returns-in-Some c none =
    let ours = c.in-Some.common.ours in
    let zero_is : ours ≡ 0 = elim (cases_Bool (ours == 0)) [ inl e ↦ eqb-true ours 0 e | inr e ↦ absurd (true≢false (sym (ap not e) ∙ none)) ] in
    none_common c.args.list.now (referenced c.args.self.now.next.behind c.args.r) (ap (mask_bits (length c.args.list.now)) (sym zero_is) ∙ (c.requires.common c.in-Some.common c.in-Some.is).ours)
