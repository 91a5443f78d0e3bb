use Rattle.std.proofs.Common.{ℕ, ◌+◌, ◌-◌, ◌<◌, ◌≡◌, get_or, take, drop, arith, ap, ◌∙◌}
use Rattle.wg_bits.proofs.Words.{word_at, near_at}
use Rattle.wg_bits.proofs.window.load.Goals as goal

pub returns-then-at-bytes-clause-word : goal.returns-then-at-bytes-clause-word
returns-then-at-bytes-clause-word c =
    let near : (k : ℕ) → k < 9 → get_or (take (c.args.at + 9 - c.args.at) (drop c.args.at c.args.bytes.now)) k 0 ≡ get_or c.args.bytes.now (c.args.at + k) 0 =
    λ k l. near_at c.args.bytes.now c.args.at (c.args.at + 9 - c.args.at) k (omega arith) in
    let first : c.args.at + 0 ≡ c.args.at = omega arith in
    word_at c.args.bytes.now c.args.at _ _ _ _ _ _ _ _ c.from_be_bytes-word.result (λ k. omega (arith, c.type_inv.bytes k))
    (near 0 (omega arith) ∙ ap (λ m. get_or c.args.bytes.now m 0) first) (near 1 (omega arith)) (near 2 (omega arith)) (near 3 (omega arith))
    (near 4 (omega arith)) (near 5 (omega arith)) (near 6 (omega arith)) (near 7 (omega arith)) c.from_be_bytes-word.ensures
