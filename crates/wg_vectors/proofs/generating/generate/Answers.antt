use Rattle.std.proofs.Common.{◌≡◌, ℕ, List, [], ◌∷◌, ◌++◌, length, ap, ◌∙◌, arith, length-append}
use Rattle.std.specs.List.{sum_by}
use Rattle.std.proofs.lemmas.List.Sums.{sum_by_push}
use Rattle.wg_vectors.specs.Generated.{drafted}
use Rattle.wg_vectors.proofs.Loops.{lists_next, finished}
use Rattle.wg_vectors.proofs.generating.generate.Goals as goal

pub loop-page-preserved : goal.loop-page-preserved
loop-page-preserved c =
    let lists : List (List ℕ) = c.loop-page.builder.lists in
    let list : List ℕ = c.draw_list.new.self.list in
    let next_is : c.push_list.new.self.lists ≡ lists ++ list ∷ [] = c.in_ok-push_list.ensures.ok ∙ ap (λ (l : List ℕ). lists ++ l ∷ []) c.successors.ensures in
    let drawn_is = c.draw_list.ensures.after ∙ ap (λ (m : ℕ). drafted m lists c.loop-page.draft.state) c.loop-page.invariant.nodes in
    let pages = ap (λ (l : List (List ℕ)). length l) next_is in
    let arcs = ap (sum_by (λ (l : List ℕ). length l)) next_is in
    record {
      nodes = c.push_list.ensures.nodes ∙ c.loop-page.invariant.nodes;
      begun = omega (arith, pages, length-append lists (list ∷ []));
      arcs = omega (arith, arcs, sum_by_push (λ (l : List ℕ). length l) lists list);
      rest = lists_next c.args.n c.loop-page.page c.loop-page.draft.state lists c.push_list.new.self.lists c.draw_list.new.self c.loop-page-test.true drawn_is next_is ∙ c.loop-page.invariant.rest;
    }

pub returns : goal.returns
returns c =
    finished c.finish.result c.args.n c.loop-page.page c.loop-page.draft.state c.args.seed c.loop-page.builder c.loop-page-test.false c.loop-page.invariant.begun c.loop-page.invariant.nodes c.loop-page.invariant.rest
    c.finish.ensures.nodes c.finish.ensures.lists
