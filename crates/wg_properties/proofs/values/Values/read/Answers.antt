use Rattle.std.proofs.Common.{◌+◌, ◌∙◌, ap, sym, rules}
use Rattle.std.specs.List.{last_or, position_from}
use Rattle.wg_properties.specs.Pairs.{is_continued, pairs_of, values_of}
use Rattle.wg_properties.specs.Values.{value_at}
use Rattle.wg_properties.specs.Words.{name_of}
use Rattle.wg_num.proofs.Cuts.{no_lines}
use Rattle.wg_properties.proofs.values.Values.read.Goals as goal

pub returns-clause-values : goal.returns-clause-values
returns-clause-values c = λ k.
    let none = no_lines c.loop-rest.rest.now (search rules) in
    ap (λ ls. last_or (value_at c.loop-rest.values k) (values_of (name_of k) (pairs_of ls))) (sym none) ∙ c.loop-rest.invariant.2 k

pub returns-clause-ok : goal.returns-clause-ok
returns-clause-ok c =
    let none = no_lines c.loop-rest.rest.now (search rules) in
    sym c.loop-rest.invariant.1 ∙ ap (λ ls. position_from is_continued (c.loop-rest.number + 1) ls) none
