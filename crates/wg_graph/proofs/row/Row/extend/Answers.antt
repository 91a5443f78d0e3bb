use Rattle.std.proofs.Common.{rules, ℕ, ◌≤◌, ◌+◌, List, drop, ap, ◌∙◌, arith, length-drop}
use Rattle.std.proofs.lemmas.List.{length-take-le}
use Rattle.wg_graph.specs.Filled.{Filled}
use Rattle.wg_graph.proofs.Moved.{kept_further, written_back}
use Rattle.wg_graph.proofs.row.Row.extend.Goals as goal

pub returns-clause-waiting : goal.returns-clause-waiting
returns-clause-waiting c =
    let old : List ℕ = c.self.inside.numbers.items in
    let room = rw (← c.self.view_is) at c.requires.room in
    let before : c.self.inside.len + c.args.count + 8 ≤ c.self.inside.start = omega (arith, room, c.self.invariant.0, c.self.invariant.1, length-take-le c.self.inside.len old (omega arith), length-drop c.self.inside.start old) in
    ap (λ (l : List ℕ). drop c.self.inside.start l) (written_back c.self.inside.numbers.len c.copy.new.to old (search rules)) ∙ kept_further (c.self.inside.len + c.args.count + 8) c.self.inside.start c.copy.new.to old before (search rules) ∙ ap (λ (f : Filled). f.waiting) c.self.view_is
