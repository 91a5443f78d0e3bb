use Rattle.std.proofs.Common.{rules, ◌≡◌, ℕ, ◌+◌, List, ◌++◌, take, drop, sym, ap, ◌∙◌}
use Rattle.std.proofs.lemmas.List.{take-append-drop, drop-drop}
use Rattle.wg_graph.specs.Filled.{Filled}
use Rattle.wg_graph.proofs.Moved.{written_back}
use Rattle.wg_graph.proofs.row.Row.take_below.Goals as goal

pub returns-clause-taken : goal.returns-clause-taken
returns-clause-taken c =
    let old : List ℕ = c.self.inside.numbers.items in
    let new : List ℕ = c.copy_below-count.new.numbers in
    let from = c.self.inside.start in
    let count = c.copy_below-count.result in
    let lent : c.deref_mut.result.now ≡ old = search rules in
    let whole = written_back c.self.inside.numbers.len new old (search rules) in
    let first : List ℕ = take count (drop from c.deref_mut.result.now) in (
      first,
      c.copy_below-count.ensures.below,
      sym (ap (λ (f : Filled). f.waiting) c.self.view_is) ∙ ap (λ (l : List ℕ). drop from l) (sym lent) ∙ sym (take-append-drop count (drop from c.deref_mut.result.now)) ∙ ap (λ (l : List ℕ). first ++ l) (drop-drop count from c.deref_mut.result.now ∙ sym c.copy_below-count.ensures.kept ∙ ap (λ (l : List ℕ). drop (from + count) l) (sym whole)),
      ap (λ (l : List ℕ). take (c.self.inside.len + count) l) whole ∙ c.copy_below-count.ensures.copied ∙ ap (λ (l : List ℕ). take c.self.inside.len l ++ first) lent ∙ ap (λ (f : Filled). f.list ++ first) c.self.view_is,
    )
