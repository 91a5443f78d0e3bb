use Rattle.std.proofs.Common.{◌≡◌, ◌^◌, ◌∙◌, true, ap, arith}
use Rattle.std.proofs.lemmas.Result.{on_ok_weaker}
use Rattle.wg_graph.proofs.Sets.{below_more}
use Rattle.wg_greedy.specs.Fields.{all_have_words, record_fields}
use Rattle.wg_encoder.proofs.Chosen.{chosen_reach, chosen_words}
use Rattle.wg_encoder.proofs.list_encoder.ListEncoder.make.Goals as goal

pub referenced_list-referenced-requires : goal.referenced_list-referenced-requires
referenced_list-referenced-requires c = chosen_reach c.args.self.now.params c.args.self.now.next c.args.list.now c.args.choice c.requires.chosen

pub fill-requires-clause-low : goal.fill-requires-clause-low
fill-requires-clause-low c = below_more c.args.self.now.params.nodes (2 ^ 62) c.args.list.now (omega (arith, c.limits.ensures.within.nodes)) c.requires.list.below

pub returns-clause-words : goal.returns-clause-words
returns-clause-words c =
    let self = c.args.self.now in
    let r = c.args.choice.reference in
    let words : all_have_words (record_fields c.deref.result.now c.self.inside.page r c.referenced_list-referenced.result.now c.args.list.now) ≡ true =
    (λ i. all_have_words (record_fields (c.deref.ensures i) c.self.inside.page r c.referenced_list-referenced.result.now c.args.list.now))
    ∙ (λ i. all_have_words (record_fields (c.self.view_is i).params (c.self.view_is i).next.page r (c.referenced_list-referenced.ensures.value i) c.args.list.now))
    ∙ chosen_words self.params self.next c.args.list.now c.args.choice c.requires.chosen c.limits.ensures.within c.requires.page c.requires.list in
    on_ok_weaker c.fill.result (λ (is : c.fill.new.self ≡ record_fields c.deref.result.now c.self.inside.page r c.referenced_list-referenced.result.now c.args.list.now). ap all_have_words is ∙ words) c.fill.ensures
