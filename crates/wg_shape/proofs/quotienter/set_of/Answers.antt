use Rattle.std.proofs.Common.{◌≡◌, ◌∙◌, ◌++◌, List, ℕ, ap}
use Rattle.std.proofs.lemmas.List.Filters.{dedup_is}
use Rattle.wg_graph.specs.Numbers.{is_in}
use Rattle.wg_shape.proofs.Sorted.{set_ascends, set_members}
use Rattle.wg_shape.proofs.quotienter.set_of.Goals as goal

pub returns : goal.returns
returns c =
    let is = dedup_is _ _ _ c.dedup.ensures.filtered in
    let all : c.extend_from_slice.new.self.items ≡ c.args.numbers.now = c.in_ok-extend_from_slice.ensures.items ∙ ap (λ (l : List ℕ). l ++ c.args.numbers.now) c.clear.ensures.items in
    record {
      ascends = rw is (set_ascends _ c.sort_unstable.ensures.sorted);
      members = λ y. rw is (set_members c.extend_from_slice.new.self.items _ c.sort_unstable.ensures.permutation y ∙ ap (is_in y) all);
    }
