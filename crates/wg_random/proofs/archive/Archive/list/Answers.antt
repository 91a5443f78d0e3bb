use Rattle.wg_outside.proofs.PutsLemmas.{is_that_err}
use Rattle.wg_random.proofs.Answered.{no_page, on_page, no_error, not_listed, ticks_of}
use Rattle.wg_random.proofs.ChainLemmas.{ended_as}
use Rattle.wg_random.proofs.Matching.{graph_list}
use Rattle.wg_random.specs.Answer.{Lists}
use Rattle.wg_random.specs.declared.error.ListError.TheVariants as lists
use Rattle.wg_random.proofs.archive.Archive.list.Goals as goal

pub climb-requires-clause-chain : goal.climb-requires-clause-chain
climb-requires-clause-chain g c r = ended_as _ _ _ _ _ _ c.as_slice.ensures (c.in_ok-chain.ensures.chain r)

pub returns-then-x-nodes : goal.returns-then-x-nodes
returns-then-x-nodes g c = no_page c.args.self.now c.args.x _ (Lists _ c.args.x) (λ l. l) lists.NoPage _ c.nodes.ensures c.if-x-nodes.true (λ k none. none)

pub returns-in_err-chain : goal.returns-in_err-chain
returns-in_err-chain g c =
    rw (is_that_err c.from_residual.result _ c.from_residual.ensures.1) (on_page c.args.self.now c.args.x _ (Lists _ c.args.x) (λ l. l) lists.NoPage _ _ _
    c.nodes.ensures c.if-x-nodes.false (λ page r. page) (λ a h. tt) (λ r. tt) c.in_err-chain.ensures.most not_listed)

pub returns-in_err-climb : goal.returns-in_err-climb
returns-in_err-climb g c =
    rw (is_that_err c.from_residual-in_err-climb.result _ c.from_residual-in_err-climb.ensures.1)
    (on_page c.args.self.now c.args.x _ (Lists _ c.args.x) (λ l. l) lists.NoPage _ _ _ c.nodes.ensures c.if-x-nodes.false
    (λ page r. page) (λ a h. tt) (λ r. tt) c.in_ok-chain.ensures.most not_listed)

pub returns : goal.returns
returns g c =
    let h = c.in_ok-chain.ensures in
    let is = c.in_ok-climb.ensures in
    on_page c.args.self.now c.args.x _ (Lists _ c.args.x) (λ l. l) lists.NoPage _ _ _ c.nodes.ensures c.if-x-nodes.false
    (λ page r. (page, is r)) (graph_list c.args.self.now c.args.x c.in_ok-climb.field-0 is)
    (λ r. ticks_of _ _ _ _ h.ticks h.some (h.chain r).deep) h.most no_error
