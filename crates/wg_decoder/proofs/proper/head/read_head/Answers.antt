use Rattle.std.proofs.Common.{◌≤◌, ◌^◌, refl, sym, ◌∙◌, arith}
use Rattle.wg_bits.specs.Bits.{rest}
use Rattle.wg_decoder.proofs.ProperLemmas.LaidOut.{laid_of, laid_with}
use Rattle.wg_decoder.proofs.ProperLemmas.Taking.{takes_from}
use Rattle.wg_decoder.proofs.ProperLemmas.Beginning.{head_taken, outdegree_word, outdegree_read, reference_word, reference_value}
use Rattle.wg_decoder.proofs.proper.head.read_head.Goals as goal

pub value-outdegree-requires-clause-stands : goal.value-outdegree-requires-clause-stands
value-outdegree-requires-clause-stands c =
    let few : c.args.params.now.nodes ≤ 2 ^ 62 = omega (arith, c.nodes.ensures.within) in
    let s = c.requires in
    let l = laid_of c.args.params.now s.0 s.1 c.args.cursor s.2 few s.3 in
    rw c.new-words.ensures (outdegree_word c.args.params.now s.0 s.1 (rest c.args.cursor) s.2 c.outdegrees.result c.outdegrees.ensures.value l)

pub value_where-reference-requires-clause-stands : goal.value_where-reference-requires-clause-stands
value_where-reference-requires-clause-stands c =
    let few : c.args.params.now.nodes ≤ 2 ^ 62 = omega (arith, c.nodes.ensures.within) in
    let s = c.requires in
    let l = laid_of c.args.params.now s.0 s.1 c.args.cursor s.2 few s.3 in
    let e1 = outdegree_read c.args.params.now s.0 s.1 (rest c.args.cursor) s.2 c.outdegrees.result (rest c.value-outdegree.new.cursor) c.value-outdegree.result c.outdegrees.ensures.value (takes_from c.outdegrees.result _ _ _ _ c.new-words.ensures c.value-outdegree.ensures.exact) l in
    reference_word c.args.params.now s.0 s.1 (rest c.args.cursor) s.2 (rest c.value-outdegree.new.cursor) c.value-outdegree.result c.window.result _ c.references.result refl c.window.ensures.value c.references.ensures.value l e1

pub returns-clause-reference : goal.returns-clause-reference
returns-clause-reference c page below list h =
    let few : c.args.params.now.nodes ≤ 2 ^ 62 = omega (arith, c.nodes.ensures.within) in
    let g = laid_with c.args.params.now page below c.args.cursor list few h in
    let l = g.laid in
    let e1 = outdegree_read c.args.params.now page below (rest c.args.cursor) list c.outdegrees.result (rest c.value-outdegree.new.cursor) c.value-outdegree.result c.outdegrees.ensures.value (takes_from c.outdegrees.result _ _ _ _ c.new-words.ensures c.value-outdegree.ensures.exact) l in
    sym (reference_value c.args.params.now page below (rest c.args.cursor) list (rest c.value-outdegree.new.cursor) (rest c.value_where-reference.new.cursor) c.value-outdegree.result c.window.result c.value_where-reference.result _ c.references.result refl c.window.ensures.value c.references.ensures.value c.value_where-reference.ensures.exact l e1) ∙ g.reference

pub returns-clause-head : goal.returns-clause-head
returns-clause-head c =
    head_taken c.args.params.now (rest c.args.cursor) (rest c.value-outdegree.new.cursor) (rest c.value_where-reference.new.cursor) c.value-outdegree.result c.window.result c.value_where-reference.result c.outdegrees.result c.references.result
    c.outdegrees.ensures.value c.window.ensures.value c.references.ensures.value (takes_from c.outdegrees.result _ _ _ _ c.new-words.ensures c.value-outdegree.ensures.exact) c.value_where-reference.ensures.exact
