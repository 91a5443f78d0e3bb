use Rattle.std.proofs.Common.{rules, ◌≡◌, ◌∙◌, ℕ, ◌+◌, List, ◌++◌, length, take, ap, arith}
use Rattle.wg_graph.proofs.Moved.{written_back}
use Rattle.wg_graph.proofs.Written.{copied_all}
use Rattle.wg_graph.proofs.list.put_first.Goals as goal

pub returns-then-len-ge-PIECE-clause-ok : goal.returns-then-len-ge-PIECE-clause-ok
returns-then-len-ge-PIECE-clause-ok c =
    let new : List ℕ = c.copy_piece.new.to in
    let lent : c.deref_mut.result.now ≡ c.args.numbers.now.items = search rules in
    ap (λ (l : List ℕ). take (c.args.len + c.args.count) l) (written_back c.args.numbers.now.len new c.args.numbers.now.items (search rules)) ∙ copied_all c.deref_mut.result.now c.args.more.now new c.args.len 8 c.args.count (omega (arith, ap length lent)) (omega arith) c.copy_piece.ensures.copied ∙ ap (λ (l : List ℕ). take c.args.len l ++ take c.args.count c.args.more.now) lent
