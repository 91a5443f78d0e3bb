use Rattle.std.proofs.Common.{◌∷◌, subst, List, ℕ, arith}
use Rattle.wg_num.specs.Words.{words_of}
use Rattle.wg_ascii.proofs.Successors.{ListSoFar, list_more}
use Rattle.wg_ascii.proofs.lists.read_list.Goals as goal

pub words-preserved : goal.words-preserved
words-preserved c =
    let words = words_of c.args.text.now in
    let after = words_of c.in-Some.after.now in
    let word = c.in-Some.word.now in
    let small = c.requires.pages in
    let here : ListSoFar c.args.n c.args.arcs words (word ∷ after) c.words.list c.words.least c.words.count =
    subst (λ (ws : List (List ℕ)). ListSoFar c.args.n c.args.arcs words ws c.words.list c.words.least c.words.count) c.in-Some.ensures.words c.words.invariant in
    list_more c.args.n c.args.arcs words after word c.words.list c.add.new.list c.words.least c.words.count c.in_ok-least.field-0 (omega arith) here c.in_ok-least.ensures.number c.in_ok-least.ensures.list
