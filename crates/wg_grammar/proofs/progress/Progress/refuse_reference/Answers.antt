use Rattle.std.proofs.Common.{◌≡◌, ◌∙◌, sym, ap, arith}
use Rattle.wg_grammar.specs.Steps.{given_depth}
use Rattle.wg_grammar.proofs.Tallies.{chain_refused}
use Rattle.wg_grammar.proofs.progress.Progress.refuse_reference.Goals.{in-Some, in-None}
use Rattle.wg_grammar.proofs.progress.Progress.refuse_reference.Goals as goal

pub returns-in-Some-chain : goal.returns-in-Some-chain
returns-in-Some-chain c =
    let deep : c.match-referenced.depth ≡ given_depth c.args.referenced = elim c.match-referenced.branch [ in-Some w ↦ omega (arith, w.depth-is, ap given_depth w.in-Some.is) | in-None w ↦ w.depth-is ∙ sym (ap given_depth w.in-None.is) ] in
    rw (sym c.self.view_is) (sym (chain_refused _ _ (given_depth c.args.referenced) c.args.value c.in-Some-chain.limit (omega arith) (sym c.chain.ensures.value ∙ c.in-Some-chain.is) (omega (arith, deep))))
