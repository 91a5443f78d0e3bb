use Rattle.std.proofs.Common.{◌∙◌, ap, option_and_then, sym}
use Rattle.wg_num.specs.Decimal.{number_of}
use Rattle.wg_words.specs.Values.{limited}
use Rattle.wg_words.proofs.values.number_up_to.Goals as goal

pub returns : goal.returns
returns c =
    let read = sym c.in_ok-read_decimal.was ∙ c.read_decimal.ensures.value ∙ ap number_of c.as_bytes.ensures.value in
    c.limited.ensures ∙ ap (option_and_then (limited c.args.most)) read
